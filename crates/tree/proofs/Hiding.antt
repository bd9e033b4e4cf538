-- A level with one place hidden: what stands where, and what `new_known` makes of it.
-- Assumes nothing.
use mathlib.Core.Path.{◌≡◌, refl, sym, ap, ◌∙◌}
use mathlib.Core.Bool.{cond}
use mathlib.Core.List.{List, [], ◌∷◌, ◌++◌, map, map-append}
use mathlib.Core.Option
use mathlib.Core.Option.{Option, none, some}
use Prim.Native.Nat.{ℕ, zero, suc, ◌+◌, ◌*◌, ◌/◌, ◌%◌, ◌<◌}
use native.Mathlib.Nat.{zero-add}
use native.Mathlib.Numerals.{add-one}
use native.Mathlib.Omega.{arith}
use lib.Dec.{eqb}
use lib.ListN.{length, get_or, take, drop, set, length-append, length-drop, length-map}
use lib.Seq.{split_at, length-take-le}
use Rattle.tree.specs.Tree.{Pair, new_seeds, towards, beside, beside_none, new_known, hide, filled}
use Rattle.tree.specs.Spread.{beside_blank, around}
use Rattle.tree.proofs.Positions.{Bit, even, odd, bit}
use Rattle.tree.proofs.Levels.{Kids, length-new_seeds, new_seeds-append}

-- ---- what is hidden and what is not

-- there is nothing at the hidden place
pub hide_none : (p : ℕ) (l : List (List ℕ)) → p < length l → get_or (hide p l) p (some []) ≡ none
unfolding hide
hide_none p [] h = absurd (omega arith)
hide_none zero (s ∷ l) h = refl
hide_none (suc p) (s ∷ l) h = hide_none p l (omega arith)

get_or-map-some : (l : List (List ℕ)) (i : ℕ) → i < length l → get_or (map some l) i none ≡ some (get_or l i [])
get_or-map-some [] i h = absurd (omega arith)
get_or-map-some (s ∷ l) zero h = refl
get_or-map-some (s ∷ l) (suc i) h = get_or-map-some l i (omega arith)

-- and the seed itself at every other
pub hide-some : (p : ℕ) (l : List (List ℕ)) (i : ℕ) → i < length l → (i ≡ p → ⊥) → get_or (hide p l) i none ≡ some (get_or l i [])
unfolding hide
hide-some p [] i h n = absurd (omega arith)
hide-some zero (s ∷ l) zero h n = absurd (n refl)
hide-some zero (s ∷ l) (suc i) h n = get_or-map-some l i (omega arith)
hide-some (suc p) (s ∷ l) zero h n = refl
hide-some (suc p) (s ∷ l) (suc i) h n = hide-some p l i (omega arith) (λ e. n (ap suc e))

pub length-hide : (p : ℕ) (l : List (List ℕ)) → length (hide p l) ≡ length l
unfolding hide
length-hide p [] = refl
length-hide zero (s ∷ l) = ap suc (length-map l some)
length-hide (suc p) (s ∷ l) = ap suc (length-hide p l)

-- ---- the level below

pub new_known-some : (kids : Kids) (p : ℕ) (own : List ℕ) (j : ℕ) (l : List (List ℕ)) → new_known kids p own j (map some l) ≡ map some (new_seeds kids j l)
unfolding new_known new_seeds
new_known-some kids p own j [] = refl
new_known-some kids p own j (s ∷ l) = ap (λ (r : List (Option (List ℕ))). some (kids j s).seed₁ ∷ some (kids j s).seed₂ ∷ r) (new_known-some kids p own (suc j) l)

-- the level below one with the place q hidden
new_known-hide : (kids : Kids) (p : ℕ) (own : List ℕ) (j q : ℕ) (l : List (List ℕ)) → q < length l →
    new_known kids p own j (hide q l) ≡ map some (new_seeds kids j (take q l)) ++ (beside_none p own ++ map some (new_seeds kids (q + suc j) (drop (suc q) l)))
unfolding new_known new_seeds hide
new_known-hide kids p own j q [] h = absurd (omega arith)
new_known-hide kids p own j zero (s ∷ l) h =
    ap (λ (r : List (Option (List ℕ))). beside_none p own ++ r)
    (new_known-some kids p own (suc j) l ∙ ap (λ (n : ℕ). map some (new_seeds kids n l)) (sym (zero-add (suc j))))
new_known-hide kids p own j (suc q) (s ∷ l) h =
    ap (λ (r : List (Option (List ℕ))). some (kids j s).seed₁ ∷ some (kids j s).seed₂ ∷ r)
    (new_known-hide kids p own (suc j) q l (omega arith)
    ∙ ap (λ (n : ℕ). map some (new_seeds kids (suc j) (take q l)) ++ (beside_none p own ++ map some (new_seeds kids n (drop (suc q) l)))) count)
  where
    count : q + suc (suc j) ≡ suc q + suc j
    count = omega arith

-- a place hidden in the middle of three lists
hide-append : (x : List (List ℕ)) (r : ℕ) (y : List (List ℕ)) → hide (length x + r) (x ++ y) ≡ map some x ++ hide r y
unfolding hide
hide-append [] r y = ap (λ (n : ℕ). hide n y) (zero-add r)
hide-append (s ∷ x) r y = ap (λ (n : ℕ). hide n (s ∷ (x ++ y))) (count (length x)) ∙ ap (λ (l : List (Option (List ℕ))). some s ∷ l) (hide-append x r y)
  where
    count : (n : ℕ) → suc n + r ≡ suc (n + r)
    count n = omega arith

hide-beside_blank : (p : ℕ) (own blank : List ℕ) (z : List (List ℕ)) → hide (p % 2) (beside_blank p own blank ++ z) ≡ beside_none p own ++ map some z
unfolding hide beside_blank beside_none
hide-beside_blank p own blank z = by_bit (bit p)
  where
    by_bit : Bit p → hide (p % 2) (cond (eqb (p % 2) 1) (own ∷ blank ∷ []) (blank ∷ own ∷ []) ++ z) ≡ cond (eqb (p % 2) 1) (some own ∷ none ∷ []) (none ∷ some own ∷ []) ++ map some z
    by_bit (even t e g) = rw e
    by_bit (odd t e g) = rw e

pub filled-some : (blank : List ℕ) (l : List (List ℕ)) → filled blank (map some l) ≡ l
unfolding filled
filled-some blank [] = refl
filled-some blank (s ∷ l) = ap (λ (r : List (List ℕ)). s ∷ r) (filled-some blank l)

-- a hidden place filled is that entry replaced
pub filled-hide : (blank : List ℕ) (p : ℕ) (l : List (List ℕ)) → filled blank (hide p l) ≡ set l p blank
unfolding hide filled
filled-hide blank p [] = refl
filled-hide blank zero (s ∷ l) = ap (λ (r : List (List ℕ)). blank ∷ r) (filled-some blank l)
filled-hide blank (suc p) (s ∷ l) = ap (λ (r : List (List ℕ)). s ∷ r) (filled-hide blank p l)

filled-append : (blank : List ℕ) (x y : List (Option (List ℕ))) → filled blank (x ++ y) ≡ filled blank x ++ filled blank y
unfolding filled
filled-append blank x y = map-append (λ s. Option.get_or s blank) x y

filled-beside_none : (p : ℕ) (own blank : List ℕ) → filled blank (beside_none p own) ≡ beside_blank p own blank
unfolding filled beside_none beside_blank
filled-beside_none p own blank = by_bit (bit p)
  where
    by_bit : Bit p → map (λ s. Option.get_or s blank) (cond (eqb (p % 2) 1) (some own ∷ none ∷ []) (none ∷ some own ∷ [])) ≡ cond (eqb (p % 2) 1) (own ∷ blank ∷ []) (blank ∷ own ∷ [])
    by_bit (even t e g) = rw e
    by_bit (odd t e g) = rw e

pub length-beside_blank : (p : ℕ) (own blank : List ℕ) → length (beside_blank p own blank) ≡ 2
unfolding beside_blank
length-beside_blank p own blank = by_bit (bit p)
  where
    by_bit : Bit p → length (cond (eqb (p % 2) 1) (own ∷ blank ∷ []) (blank ∷ own ∷ [])) ≡ 2
    by_bit (even t e g) = rw e
    by_bit (odd t e g) = rw e

module _ (kids : Kids) (p : ℕ) (own blank : List ℕ) (l : List (List ℕ)) (inside : p / 2 < length l) where
  pub length-around : length (around kids p own blank l) ≡ 2 * length l
  unfolding around
  length-around =
      let t = length-take-le (p / 2) l (omega arith) in
      simp (length-append, length-new_seeds, length-beside_blank, length-drop) (omega arith)

  new_known_parts : new_known kids p own 0 (hide (p / 2) l)
      ≡ map some (new_seeds kids 0 (take (p / 2) l)) ++ (beside_none p own ++ map some (new_seeds kids (suc (p / 2)) (drop (suc (p / 2)) l)))
  new_known_parts =
      new_known-hide kids p own 0 (p / 2) l inside
      ∙ ap (λ (n : ℕ). map some (new_seeds kids 0 (take (p / 2) l)) ++ (beside_none p own ++ map some (new_seeds kids n (drop (suc (p / 2)) l)))) (add-one (p / 2))

  -- one place is hidden below a level with one place hidden, whatever the path says
  pub new_known-around : new_known kids p own 0 (hide (p / 2) l) ≡ hide p (around kids p own blank l)
  unfolding around
  new_known-around =
      new_known_parts
      ∙ ap (λ (r : List (Option (List ℕ))). map some front ++ r) (sym (hide-beside_blank p own blank back))
      ∙ sym (hide-append front (p % 2) (beside_blank p own blank ++ back))
      ∙ ap (λ (n : ℕ). hide n (front ++ (beside_blank p own blank ++ back))) place
    where
      front : List (List ℕ)
      front = new_seeds kids 0 (take (p / 2) l)

      back : List (List ℕ)
      back = new_seeds kids (suc (p / 2)) (drop (suc (p / 2)) l)

      place : length front + p % 2 ≡ p
      place = let e = length-new_seeds kids 0 (take (p / 2) l) in let t = length-take-le (p / 2) l (omega arith) in omega arith

  pub filled-new_known : filled blank (new_known kids p own 0 (hide (p / 2) l)) ≡ around kids p own blank l
  unfolding around
  filled-new_known = ap (filled blank) new_known_parts ∙ simp (filled-append, filled-some, filled-beside_none)

-- with the child on the way in the place of the blank and the other as the seed given, nothing is replaced
beside_blank-own : (p : ℕ) (c : Pair) → beside_blank p (beside p c) (towards p c) ≡ c.seed₁ ∷ c.seed₂ ∷ []
unfolding beside_blank beside towards
beside_blank-own p c = by_bit (bit p)
  where
    by_bit : Bit p → cond (eqb (p % 2) 1) (cond (eqb (p % 2) 1) c.seed₁ c.seed₂ ∷ cond (eqb (p % 2) 1) c.seed₂ c.seed₁ ∷ []) (cond (eqb (p % 2) 1) c.seed₂ c.seed₁ ∷ cond (eqb (p % 2) 1) c.seed₁ c.seed₂ ∷ []) ≡ c.seed₁ ∷ c.seed₂ ∷ []
    by_bit (even t e g) = rw e
    by_bit (odd t e g) = rw e

pub around-own : (kids : Kids) (p : ℕ) (l : List (List ℕ)) → p / 2 < length l →
    around kids p (beside p (kids (p / 2) (get_or l (p / 2) []))) (towards p (kids (p / 2) (get_or l (p / 2) []))) l ≡ new_seeds kids 0 l
unfolding around new_seeds
around-own kids p l h =
    ap (λ (m : List (List ℕ)). new_seeds kids 0 (take (p / 2) l) ++ (m ++ new_seeds kids (suc (p / 2)) (drop (suc (p / 2)) l)))
    (beside_blank-own p (kids (p / 2) (get_or l (p / 2) [])))
    ∙ ap (λ (n : ℕ). new_seeds kids 0 (take (p / 2) l) ++ new_seeds kids n (get_or l (p / 2) [] ∷ drop (suc (p / 2)) l)) count
    ∙ sym (new_seeds-append kids 0 (take (p / 2) l) (get_or l (p / 2) [] ∷ drop (suc (p / 2)) l))
    ∙ ap (new_seeds kids 0) (sym (split_at l (p / 2) [] h))
  where
    count : p / 2 ≡ 0 + length (take (p / 2) l)
    count = let t = length-take-le (p / 2) l (omega arith) in omega arith
