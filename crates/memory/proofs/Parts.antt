-- A part written into a list: what `put` and `over` keep and hold, sections laid one after another, and a list put together again from its parts.
-- Assumes nothing.
use mathlib.Core.Path.{◌≡◌, refl, sym, ap, ap₂, ◌∙◌, subst}
use mathlib.Core.List.{List, [], ◌∷◌, ◌++◌, append_assoc, append-nil}
use Prim.Native.Nat.{ℕ, suc, ◌+◌, ◌-◌, ◌≤◌, ◌<◌, min}
use native.Mathlib.Nat.{zero-add}
use native.Mathlib.Omega.{arith}
use native.Mathlib.Decide.{dec_lt}
use native.Mathlib.Numerals.{add-one}
use lib.ListN.{length, get_or, take, drop, set, length-append, length-take, length-drop, take-append-drop, drop_of_length-le, get_or-append}
use lib.Seq.{take_at, drop_at, get_or-take, get_or-drop, take_all, drop-drop, length-take-le, set_split, drop-length, drop-cons, set_at, append_snoc, take-suc}
use Rattle.std.proofs.lemmas.List.{get_or_default}
use Rattle.memory.specs.Lists.{over, put}

-- ---- `put`

module _ (old : List ℕ) (at : ℕ) (new : List ℕ) (fits : at + length new ≤ length old) where
  length_front : length (take at old) ≡ at
  length_front = length-take-le at old (omega arith)

  pub length-put : length (put old at new) ≡ length old
  unfolding put
  length-put = let f = length_front in simp (length-append, length-drop) (omega arith)

  -- what lies before the part, the part itself, and what lies after it
  pub take_put : take at (put old at new) ≡ take at old
  unfolding put
  take_put = take_at (take at old) (new ++ drop (at + length new) old) at length_front

  pub from_put : drop at (put old at new) ≡ new ++ drop (at + length new) old
  unfolding put
  from_put = drop_at (take at old) (new ++ drop (at + length new) old) at length_front

  pub mid_put : take (length new) (drop at (put old at new)) ≡ new
  mid_put = ap (take (length new)) from_put ∙ take_at new (drop (at + length new) old) (length new) refl

  pub drop-put : drop (at + length new) (put old at new) ≡ drop (at + length new) old
  drop-put = sym (drop-drop (length new) at (put old at new)) ∙ ap (drop (length new)) from_put ∙ drop_at new (drop (at + length new) old) (length new) refl

  -- the same by entries
  pub get_or-put-before : (i : ℕ) → i < at → get_or (put old at new) i 0 ≡ get_or old i 0
  unfolding put
  get_or-put-before i h =
      get_or-append (take at old) (new ++ drop (at + length new) old) 0 i (subst (λ (k : ℕ). i < k) (sym length_front) h)
      ∙ get_or-take at old i 0 h

  pub get_or-put_in : (i : ℕ) → i < length new → get_or (put old at new) (at + i) 0 ≡ get_or new i 0
  get_or-put_in i h = sym (get_or-drop at (put old at new) i 0) ∙ ap (λ (l : List ℕ). get_or l i 0) from_put ∙ get_or-append new (drop (at + length new) old) 0 i h

  pub get_or-put_after : (i : ℕ) → at + length new ≤ i → get_or (put old at new) i 0 ≡ get_or old i 0
  get_or-put_after i h =
      ap (λ (k : ℕ). get_or (put old at new) k 0) far
      ∙ sym (get_or-drop (at + length new) (put old at new) (i - (at + length new)) 0)
      ∙ ap (λ (l : List ℕ). get_or l (i - (at + length new)) 0) drop-put
      ∙ get_or-drop (at + length new) old (i - (at + length new)) 0
      ∙ ap (λ (k : ℕ). get_or old k 0) (sym far)
    where
      far : i ≡ at + length new + (i - (at + length new))
      far = omega arith

  -- two parts one after the other are one
  pub put_next : (more : List ℕ) → put (put old at new) (at + length new) more ≡ put old at (new ++ more)
  unfolding put
  put_next more =
      ap₂ (λ (x y : List ℕ). x ++ (more ++ y))
      (ap (take (at + length new)) (sym (append_assoc (take at old) new (drop (at + length new) old)))
      ∙ take_at (take at old ++ new) (drop (at + length new) old) (at + length new) (length-append (take at old) new ∙ ap (λ (k : ℕ). k + length new) length_front))
      (sym (drop-drop (length more) (at + length new) (put old at new)) ∙ ap (drop (length more)) drop-put
      ∙ drop-drop (length more) (at + length new) old)
      ∙ append_assoc (take at old) new (more ++ drop (at + length new + length more) old)
      ∙ ap (λ (l : List ℕ). take at old ++ l)
      (sym (append_assoc new more (drop (at + length new + length more) old))
      ∙ ap (λ (k : ℕ). (new ++ more) ++ drop k old) count)
    where
      count : at + length new + length more ≡ at + length (new ++ more)
      count = simp length-append (omega arith)

-- a part that was lent from a to e and came back
pub lent-put : (old : List ℕ) (a e : ℕ) (new : List ℕ) → length new ≡ e - a → take a old ++ (new ++ drop (e - a) (drop a old)) ≡ put old a new
unfolding put
lent-put old a e new h =
    ap (λ (l : List ℕ). take a old ++ (new ++ l)) (drop-drop (e - a) a old ∙ ap (λ (k : ℕ). drop (a + k) old) (sym h))

-- a part that is lent from a to e is as long as it is lent
pub length-lent : (x : List ℕ) (a e : ℕ) → a ≤ e → e ≤ length x → length (take (e - a) (drop a x)) ≡ e - a
length-lent x a e h k = length-take-le (e - a) (drop a x) (simp length-drop (omega arith))

-- an entry of it
pub get_d_part : (x : List ℕ) (a e i : ℕ) → i < e - a → get_or (take (e - a) (drop a x)) i 0 ≡ get_or x (a + i) 0
get_d_part x a e i h = get_or-take (e - a) (drop a x) i 0 h ∙ get_or-drop a x i 0

-- the list with `new` in the place of the part from a to e
abbrev pub back : List ℕ → ℕ → ℕ → List ℕ → List ℕ
back x a e new = take a x ++ (new ++ drop (e - a) (drop a x))

-- it is as long as it was, where the part comes back as long as it was
pub length_back : (x new : List ℕ) (a e : ℕ) → a ≤ e → e ≤ length x → length new ≡ e - a → length (back x a e new) ≡ length x
length_back x new a e h k n =
    let z = length-take-le a x (omega arith) in
    simp (length-append, length-drop) (omega arith)

-- a part put back as it was
pub put_same : (old : List ℕ) (at n : ℕ) → at + n ≤ length old → put old at (take n (drop at old)) ≡ old
unfolding put
put_same old at n h =
    ap (λ (k : ℕ). take at old ++ (take n (drop at old) ++ drop (at + k) old)) (length-take-le n (drop at old) room)
    ∙ ap (λ (l : List ℕ). take at old ++ (take n (drop at old) ++ l)) (sym (drop-drop n at old))
    ∙ ap (λ (l : List ℕ). take at old ++ l) (take-append-drop n (drop at old))
    ∙ take-append-drop at old
  where
    room : n ≤ length (drop at old)
    room = simp length-drop (omega arith)

-- one entry
pub set-put : (old : List ℕ) (i v : ℕ) → i < length old → set old i v ≡ put old i (v ∷ [])
unfolding put
set-put old i v h = set_split old i v h ∙ ap (λ (k : ℕ). take i old ++ (v ∷ drop k old)) (one i)
  where
    one : (n : ℕ) → suc n ≡ n + 1
    one n = omega arith

-- the whole
pub put_whole : (old new : List ℕ) → length new ≡ length old → put old 0 new ≡ new
unfolding put
put_whole old new h =
    ap (λ (l : List ℕ). new ++ l) (ap (λ (k : ℕ). drop k old) (zero-add (length new) ∙ h) ∙ drop-length old) ∙ append-nil new

-- ---- `over`

-- where all of it has room
pub over_fits : {X : Type 0} (new old : List X) → length new ≤ length old → over new old ≡ new ++ drop (length new) old
unfolding over
over_fits new old h = ap (λ l. l ++ drop (length new) old) (take_all (length old) new h)

pub over-put : (new old : List ℕ) → length new ≤ length old → over new old ≡ put old 0 new
unfolding put
over-put new old h = over_fits new old h ∙ ap (λ (k : ℕ). new ++ drop k old) (sym (zero-add (length new)))

pub length_over : {X : Type 0} (new old : List X) → length (over new old) ≡ length old
unfolding over
length_over new old = simp (length-append, length-take, length-drop) (omega arith)

-- ---- sections laid one after another, and a list put together again

-- p stands at the start of out, and the next section is put behind it
pub put_section : (p out : List ℕ) (a : ℕ) (new : List ℕ) → length p ≡ a → put (p ++ drop a out) a new ≡ (p ++ new) ++ drop (a + length new) out
unfolding put
put_section p out a new h =
    ap₂ (λ (x y : List ℕ). x ++ (new ++ y)) (take_at p (drop a out) a h)
    (sym (drop-drop (length new) a (p ++ drop a out)) ∙ ap (drop (length new)) (drop_at p (drop a out) a h) ∙ drop-drop (length new) a out)
    ∙ sym (append_assoc p new (drop (a + length new) out))

-- what lies before a, from a to e, and from e on
pub three_parts : (l : List ℕ) (a e : ℕ) → a ≤ e → take a l ++ (take (e - a) (drop a l) ++ drop e l) ≡ l
three_parts l a e h =
    ap (λ (x : List ℕ). take a l ++ x)
    (ap (λ (x : List ℕ). take (e - a) (drop a l) ++ x) (ap (λ (k : ℕ). drop k l) (behind a e h) ∙ sym (drop-drop (e - a) a l))
    ∙ take-append-drop (e - a) (drop a l))
    ∙ take-append-drop a l
  where
    behind : (a e : ℕ) → a ≤ e → e ≡ a + (e - a)
    behind a e h = omega arith

-- ---- a list copied entry by entry: one entry more, and the end

pub copied_entry : {X : Type 0} (src dst now : List X) (i : ℕ) (d : X) → now ≡ take i src ++ drop i dst → d ≡ get_or src i d → i < length src → i < length dst
    → set now i d ≡ take (i + 1) src ++ drop (i + 1) dst
copied_entry src dst now i d e f h k =
    ap₂ (λ x y. set x i y) (e ∙ ap (λ l. take i src ++ l) (drop-cons dst i d k)) f
    ∙ set_at (take i src) (get_or dst i d) (drop (suc i) dst) (get_or src i d) i (length-take-le i src (omega arith))
    ∙ sym (append_snoc (take i src) (get_or src i d) (drop (suc i) dst))
    ∙ ap (λ l. l ++ drop (suc i) dst) (sym (take-suc src i d h))
    ∙ ap (λ (n : ℕ). take n src ++ drop n dst) (sym (add-one i))

pub copied_more : (src dst : List ℕ) (i : ℕ) → i < length src → i < length dst → set (take i src ++ drop i dst) i (get_or src i 0) ≡ take (i + 1) src ++ drop (i + 1) dst
copied_more src dst i h k = copied_entry src dst _ i (get_or src i 0) refl (get_or_default src i 0 (get_or src i 0) h) h k

pub copied_all : {X : Type 0} (src dst : List X) (i : ℕ) → i ≡ min (length src) (length dst) → take i src ++ drop i dst ≡ over src dst
unfolding over
copied_all src dst i e =
    elim (dec_lt (length src) (length dst)) as (λ d. take i src ++ drop i dst ≡ take (length dst) src ++ drop (length src) dst) [
      | yes y ↦ (let g : i ≡ length src = omega arith in
          ap₂ (λ x y. x ++ y) (take_all i src (omega arith) ∙ sym (take_all (length dst) src (omega arith))) (ap (λ (n : ℕ). drop n dst) g))
      | no y ↦ (let g : i ≡ length dst = omega arith in
          ap₂ (λ x y. x ++ y) (ap (λ (n : ℕ). take n src) g)
          (drop_of_length-le dst {i = i} (omega arith) ∙ sym (drop_of_length-le dst {i = length src} (omega arith))))
    ]
