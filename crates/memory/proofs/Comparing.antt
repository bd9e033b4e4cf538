-- Comparing two lists: `same` says exactly whether they are equal, and the sum of differences that code keeps is 0 exactly where they are.
-- Assumes nothing.
use mathlib.Core.Path.{◌≡◌, refl, sym, ap, ap₂, ◌∙◌, subst}
use mathlib.Core.Bool.{Bool, true, false, ◌&&◌}
use mathlib.Core.List.{List, [], ◌∷◌}
use Prim.Native.Nat.{ℕ}
use native.Mathlib.Omega.{arith}
use lib.Dec.{eqb}
use lib.ListN.{length}
use lib.Bits.{bit_or, bit_xor, or_add_and, and_le_l, and_le_r, xor_self, or_zero_l}
use borrow.Author.Tests.{eq-eqb, ne_eqb, eqb-true, eqb-false}
use Rattle.memory.specs.Lists.{same}
use Rattle.memory.proofs.Bits.{xor-zero-same}

-- ---- `same` is equality

and_true_l : (a b : Bool) → a && b ≡ true → a ≡ true
and_true_l true b e = refl
and_true_l false b e = e

and_true_r : (a b : Bool) → a && b ≡ true → b ≡ true
and_true_r true b e = e
and_true_r false b e = let z : ◌≡◌ {A = ℕ} 0 1 = cc in absurd (omega arith)

pub same_equal : (x y : List ℕ) → same x y ≡ true → x ≡ y
unfolding same
same_equal [] [] e = refl
same_equal [] (b ∷ y) e = let z : ◌≡◌ {A = ℕ} 0 1 = cc in absurd (omega arith)
same_equal (a ∷ x) [] e = let z : ◌≡◌ {A = ℕ} 0 1 = cc in absurd (omega arith)
same_equal (a ∷ x) (b ∷ y) e = ap₂ ◌∷◌ (eqb-true a b (and_true_l (eqb a b) (same x y) e)) (same_equal x y (and_true_r (eqb a b) (same x y) e))

pub same_self : (x : List ℕ) → same x x ≡ true
unfolding same
same_self [] = refl
same_self (a ∷ x) = ap₂ ◌&&◌ (eq-eqb a a refl) (same_self x)

pub equal_same : (x y : List ℕ) → x ≡ y → same x y ≡ true
equal_same x y e = subst (λ (l : List ℕ). same x l ≡ true) e (same_self x)

-- lists of two lengths are not the same
pub same_lengths : (x y : List ℕ) → (length x ≡ length y → ⊥) → same x y ≡ false
same_lengths x y h = of (same x y) (λ e. h (ap length (same_equal x y e)))
  where
    of : (b : Bool) → (b ≡ true → ⊥) → b ≡ false
    of true n = absurd (n refl)
    of false n = refl

-- ---- the sum of differences

or-zero : (a b : ℕ) → bit_or a b ≡ 0 → (a ≡ 0) × (b ≡ 0)
or-zero a b e =
    let s = or_add_and a b in
    let l = and_le_l a b in
    let r = and_le_r a b in
    (omega arith, omega arith)

-- a sum of differences is 0 where each of them is
difference : (d a b : ℕ) (t : Bool) → eqb d 0 ≡ t → eqb (bit_or d (bit_xor a b)) 0 ≡ t && eqb a b
difference d a b true e = of (eqb a b) refl
  where
    of : (t : Bool) → eqb a b ≡ t → eqb (bit_or d (bit_xor a b)) 0 ≡ eqb a b
    of true g =
        ap (λ (n : ℕ). eqb n 0) (ap₂ bit_or (eqb-true d 0 e) (ap (bit_xor a) (sym (eqb-true a b g)) ∙ xor_self a) ∙ or_zero_l 0) ∙ sym g
    of false g = ne_eqb (bit_or d (bit_xor a b)) 0 (λ z. eqb-false a b g (xor-zero-same a b (or-zero d (bit_xor a b) z).1)) ∙ sym g
difference d a b false e = ne_eqb (bit_or d (bit_xor a b)) 0 (λ z. eqb-false d 0 e (or-zero d (bit_xor a b) z).0)

-- u and v are left of x and y, and d is the sum of the differences before them
abbrev pub Left : List ℕ → List ℕ → ℕ → List ℕ → List ℕ → Type 0
Left x y d u v = (length u ≡ length v) × (same x y ≡ eqb d 0 && same u v)

-- at first all is left, then one entry less of each, and at last nothing
pub left-all : (x y u v : List ℕ) → length x ≡ length y → u ≡ x → v ≡ y → Left x y 0 u v
left-all x y u v h e f = (ap length e ∙ h ∙ sym (ap length f), sym (ap₂ same e f))

pub left-less : (x y u v : List ℕ) (d a b : ℕ) (u2 v2 : List ℕ) → Left x y d u v → u ≡ a ∷ u2 → v ≡ b ∷ v2 → Left x y (bit_or d (bit_xor a b)) u2 v2
unfolding same
left-less x y u v d a b u2 v2 h e f =
    let k = ap length e in
    let l = ap length f in (
      omega arith,
      h.1 ∙ ap₂ (λ (s t : List ℕ). eqb d 0 && same s t) e f ∙ sym (regroup (eqb d 0) (eqb a b) (same u2 v2))
          ∙ ap (λ (t : Bool). t && same u2 v2) (sym (difference d a b (eqb d 0) refl)),
    )
  where
    regroup : (p q r : Bool) → p && q && r ≡ p && (q && r)
    regroup true q r = refl
    regroup false q r = refl

pub left-none : (x y u v : List ℕ) (d : ℕ) → Left x y d u v → length u ≡ 0 → eqb d 0 ≡ same x y
unfolding same
left-none x y [] [] d h e = sym (h.1 ∙ of (eqb d 0))
  where
    of : (t : Bool) → t && true ≡ t
    of true = refl
    of false = refl
left-none x y [] (b ∷ v) d h e = let k = h.0 in absurd (omega arith)
left-none x y (a ∷ u) v d h e = absurd (omega arith)
