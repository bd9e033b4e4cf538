-- Parts put one before another, a part that was lent and copied over, and a list as sections of one length: cut, laid together again, and each read.
-- Assumes nothing.
use mathlib.Core.Path.{◌≡◌, refl, sym, ap, ap₂, ◌∙◌}
use mathlib.Core.List.{List, [], ◌∷◌, ◌++◌, append_assoc, flatten}
use Prim.Native.Nat.{ℕ, zero, suc, ◌+◌, ◌-◌, ◌*◌, ◌≤◌, ◌<◌}
use native.Mathlib.Nat.{add-zero, suc-mul, zero-mul, sub-zero}
use native.Mathlib.Omega.{arith}
use lib.ListN.{length, get_or, take, drop, replicate, length-replicate, length-append, length-drop, take-append-drop}
use lib.Seq.{ext_get_or, take-append-le, drop-append-le, take_at, drop_at, take-take, drop-drop}
pub use Rattle.std.proofs.lemmas.List.{drop-take}
use Rattle.std.proofs.lemmas.List.{drop-take}
use Rattle.memory.specs.Lists.{over, put}
use Rattle.memory.specs.Sections.{pieces}
use Rattle.memory.proofs.Lists.{room}
use Rattle.memory.proofs.Parts.{lent-put, length-lent, take_put, from_put}
use Rattle.memory.proofs.Stores.{over-whole}

-- ---- parts

pub put-nil : (old : List ℕ) (at : ℕ) → put old at [] ≡ old
unfolding put
put-nil old at = ap (λ (n : ℕ). take at old ++ drop n old) (add-zero at) ∙ take-append-drop at old

-- a part put before another
pub put-before : (old : List ℕ) (a b : ℕ) (new more : List ℕ) → a + length new ≡ b → b + length more ≤ length old → put (put old b more) a new ≡ put old a (new ++ more)
unfolding put
put-before old a b new more e h =
    ap₂ (λ (x y : List ℕ). x ++ (new ++ y)) front back
    ∙ ap (λ (x : List ℕ). take a old ++ x)
    (sym (append_assoc new more (drop (b + length more) old)) ∙ ap (λ (n : ℕ). (new ++ more) ++ drop n old) count)
  where
    front : take a (put old b more) ≡ take a old
    front = sym (take-take a b (put old b more) (omega arith)) ∙ ap (take a) (take_put old b more h) ∙ take-take a b old (omega arith)

    back : drop (a + length new) (put old b more) ≡ more ++ drop (b + length more) old
    back = ap (λ (n : ℕ). drop n (put old b more)) e ∙ from_put old b more h

    count : b + length more ≡ a + length (new ++ more)
    count = simp length-append (omega arith)

-- what lies before a part that is put stays
pub part-before-put : (old : List ℕ) (b : ℕ) (new : List ℕ) (a n : ℕ) → a + n ≤ b → b + length new ≤ length old → take n (drop a (put old b new)) ≡ take n (drop a old)
part-before-put old b new a n g h =
    sym (drop-take a n (put old b new))
    ∙ ap (drop a) (sym (take-take (a + n) b (put old b new) g) ∙ ap (take (a + n)) (take_put old b new h) ∙ take-take (a + n) b old g)
    ∙ drop-take a n old

-- what lies inside a part put at the start is the part's
pub part_in_put : (old new : List ℕ) (a n : ℕ) → a + n ≤ length new → take n (drop a (put old 0 new)) ≡ take n (drop a new)
unfolding put
part_in_put old new a n h =
    ap (take n) (drop-append-le a new (drop (0 + length new) old) (omega arith))
    ∙ take-append-le n (drop a new) (drop (0 + length new) old) (simp length-drop (omega arith))

-- a part from a to e that was lent, and came back with a list of its length copied over it
pub copied_part : (x : List ℕ) (a e : ℕ) (src last : List ℕ) → length src ≡ e - a → e ≤ length x → a ≤ e → last ≡ over src (take (e - a) (drop a x)) → take a x ++ (last ++ drop (e - a) (drop a x)) ≡ put x a src
copied_part x a e src last h f g r =
    ap (λ (l : List ℕ). take a x ++ (l ++ drop (e - a) (drop a x))) (r ∙ whole) ∙ lent-put x a e src h
  where
    whole : over src (take (e - a) (drop a x)) ≡ src
    whole = over-whole src (take (e - a) (drop a x)) (h ∙ sym (length-lent x a e g f))

-- and one that came back cleared
pub cleared-part : (x : List ℕ) (a e : ℕ) (last : List ℕ) → e ≤ length x → a ≤ e → last ≡ replicate (length (take (e - a) (drop a x))) 0 → take a x ++ (last ++ drop (e - a) (drop a x)) ≡ put x a (replicate (e - a) 0)
cleared-part x a e last f g r =
    ap (λ (l : List ℕ). take a x ++ (l ++ drop (e - a) (drop a x))) (r ∙ ap (λ (n : ℕ). replicate n 0) (length-lent x a e g f))
    ∙ lent-put x a e (replicate (e - a) 0) (length-replicate (e - a) 0)

-- ---- sections of w entries each

pub data Each (w : ℕ) : List (List ℕ) → Type 0 where
  no_section : Each w []
  one_more : {s : List ℕ} {l : List (List ℕ)} → length s ≡ w → Each w l → Each w (s ∷ l)

pub each_append : {w : ℕ} {x y : List (List ℕ)} → Each w x → Each w y → Each w (x ++ y)
each_append no_section f = f
each_append (one_more e r) f = one_more e (each_append r f)

pub flatten-append : {A : Type 0} (x y : List (List A)) → flatten (x ++ y) ≡ flatten x ++ flatten y
unfolding flatten
flatten-append [] y = refl
flatten-append {A} (s ∷ x) y = ap (λ (r : List A). s ++ r) (flatten-append x y) ∙ sym (append_assoc s (flatten x) (flatten y))

pub length-flatten : {w : ℕ} {l : List (List ℕ)} → Each w l → length (flatten l) ≡ length l * w
unfolding flatten
length-flatten {w} no_section = sym (zero-mul w)
length-flatten {w} (one_more {s} {l} e r) =
    length-append s (flatten l) ∙ ap₂ (λ (x y : ℕ). x + y) e (length-flatten r) ∙ count (length l)
  where
    count : (n : ℕ) → w + n * w ≡ suc n * w
    count n = let e = suc-mul n w in omega arith

pub length-pieces : (w n : ℕ) (x : List ℕ) → length (pieces w n x) ≡ n
unfolding pieces
length-pieces w zero x = refl
length-pieces w (suc n) x = ap suc (length-pieces w n (drop w x))

-- the i-th section
pub get_or-pieces : (w n : ℕ) (x : List ℕ) (i : ℕ) → i < n → get_or (pieces w n x) i [] ≡ take w (drop (i * w) x)
unfolding pieces
get_or-pieces w zero x i h = absurd (omega arith)
get_or-pieces w (suc n) x zero h = ap (λ (k : ℕ). take w (drop k x)) (sym (zero-mul w))
get_or-pieces w (suc n) x (suc i) h =
    get_or-pieces w n (drop w x) i (omega arith)
    ∙ ap (take w) (drop-drop (i * w) w x ∙ ap (λ (k : ℕ). drop k x) (let e = suc-mul i w in let g : w + i * w ≡ suc i * w = omega arith in g))

pub take-pieces : (w q n : ℕ) (x : List ℕ) → q ≤ n → take q (pieces w n x) ≡ pieces w q x
unfolding pieces
take-pieces w zero n x h = refl
take-pieces w (suc q) zero x h = absurd (omega arith)
take-pieces w (suc q) (suc n) x h = ap (λ (l : List (List ℕ)). take w x ∷ l) (take-pieces w q n (drop w x) (omega arith))

pub drop-pieces : (w q n : ℕ) (x : List ℕ) → drop q (pieces w n x) ≡ pieces w (n - q) (drop (q * w) x)
unfolding pieces
drop-pieces w zero n x = ap₂ (λ (m k : ℕ). pieces w m (drop k x)) (sym (sub-zero n)) (sym (zero-mul w))
drop-pieces w (suc q) zero x = ap (λ (m : ℕ). pieces w m (drop (suc q * w) x)) (none q)
  where
    none : (q : ℕ) → 0 ≡ 0 - suc q
    none q = omega arith
drop-pieces w (suc q) (suc n) x =
    drop-pieces w q n (drop w x)
    ∙ ap₂ (pieces w) (count q n) (drop-drop (q * w) w x ∙ ap (λ (k : ℕ). drop k x) (let e = suc-mul q w in let g : w + q * w ≡ suc q * w = omega arith in g))
  where
    count : (q n : ℕ) → n - q ≡ suc n - suc q
    count q n = omega arith

-- sections laid one after another are cut again
pub pieces-flatten : {w : ℕ} {l : List (List ℕ)} → Each w l → (x : List ℕ) → pieces w (length l) (flatten l ++ x) ≡ l
unfolding pieces flatten
pieces-flatten no_section x = refl
pieces-flatten {w} (one_more {s} {l} e r) x =
    ap₂ (λ (a : List ℕ) (b : List (List ℕ)). a ∷ b)
    (ap (take w) (append_assoc s (flatten l) x) ∙ take_at s (flatten l ++ x) w e)
    (ap (λ (y : List ℕ). pieces w (length l) (drop w y)) (append_assoc s (flatten l) x) ∙ ap (pieces w (length l)) (drop_at s (flatten l ++ x) w e) ∙ pieces-flatten r x)

pub pieces-put : {w : ℕ} {l : List (List ℕ)} → Each w l → (x : List ℕ) → pieces w (length l) (put x 0 (flatten l)) ≡ l
unfolding put
pieces-put {w} {l} r x = pieces-flatten r (drop (0 + length (flatten l)) x)

-- a list of that length is its sections laid one after another
pub flatten-pieces : (w n : ℕ) (x : List ℕ) → length x ≡ n * w → flatten (pieces w n x) ≡ x
unfolding pieces flatten
flatten-pieces w zero [] h = refl
flatten-pieces w zero (a ∷ x) h = absurd (let z = zero-mul w in omega arith)
flatten-pieces w (suc n) x h =
    ap (λ (y : List ℕ). take w x ++ y) (flatten-pieces w n (drop w x) (length-drop w x ∙ (let e = suc-mul n w in let g : length x - w ≡ n * w = omega arith in g)))
    ∙ take-append-drop w x

-- the sections before a part that is put stay
pub pieces-before-put : (w n : ℕ) (old : List ℕ) (b : ℕ) (new : List ℕ) → n * w ≤ b → b + length new ≤ length old → pieces w n (put old b new) ≡ pieces w n old
pieces-before-put w n old b new g h =
    ext_get_or [] (pieces w n (put old b new)) (pieces w n old) (length-pieces w n (put old b new) ∙ sym (length-pieces w n old))
    (λ i j. let f : i < n = omega (arith, length-pieces w n (put old b new)) in
    get_or-pieces w n (put old b new) i f ∙ part-before-put old b new (i * w) w (let r = room i n w f in omega arith) h ∙ sym (get_or-pieces w n old i f))
