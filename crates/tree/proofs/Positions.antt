-- Positions in the tree: even and odd, the sibling's rule, and the hidden leaf's position level by level.
-- Assumes nothing.
use mathlib.Core.Path.{◌≡◌, ap, ◌∙◌, subst}
use mathlib.Core.Bool.{true, false, cond}
use Prim.Native.Nat.{ℕ, suc, ◌+◌, ◌-◌, ◌*◌, ◌/◌, ◌%◌, ◌^◌, ◌≤◌, ◌<◌}
use native.Mathlib.Nat.{div-one, sub_self}
use native.Mathlib.Decide.{dec_lt}
use native.Mathlib.Omega.{arith}
use lib.Dec.{eqb}
use lib.Pow.{shr-shr, shr_lt}
use Rattle.tree.specs.Tree.{position, sibling}

-- a position is a left child or a right child of its parent
pub data Bit (p : ℕ) : Type 0 where
  even : eqb (p % 2) 1 ≡ false → p % 2 ≡ 0 → p ≡ 2 * (p / 2) → Bit p
  odd : eqb (p % 2) 1 ≡ true → p % 2 ≡ 1 → p ≡ 2 * (p / 2) + 1 → Bit p

pub bit : (p : ℕ) → Bit p
bit p =
    elim (dec_lt (p % 2) 1) as (λ d. Bit p) [
      | yes y ↦ (let e : p % 2 ≡ 0 = omega arith in even (ap (λ (r : ℕ). eqb r 1) e) e (omega arith))
      | no y ↦ (let e : p % 2 ≡ 1 = omega arith in odd (ap (λ (r : ℕ). eqb r 1) e) e (omega arith))
    ]

-- the sibling is the other child of the same parent: position p-1 if p is odd, p+1 if even
pub record SiblingRule (p : ℕ) : Type 0 where
  pub odd : p % 2 ≡ 1 → sibling p ≡ p - 1
  pub even : p % 2 ≡ 0 → sibling p ≡ p + 1
  pub parent : sibling p / 2 ≡ p / 2
  pub other : sibling p ≡ p → ⊥

pub sibling_odd : (p : ℕ) → p % 2 ≡ 1 → sibling p ≡ p - 1
unfolding sibling
sibling_odd p e = ap (λ (r : ℕ). cond (eqb r 1) (p - 1) (p + 1)) e

pub sibling-even : (p : ℕ) → p % 2 ≡ 0 → sibling p ≡ p + 1
unfolding sibling
sibling-even p e = ap (λ (r : ℕ). cond (eqb r 1) (p - 1) (p + 1)) e

pub sibling_rule : (p : ℕ) → SiblingRule p
sibling_rule p = record { odd = sibling_odd p; even = sibling-even p; parent = parent (bit p); other = other (bit p) }
  where
    parent : Bit p → sibling p / 2 ≡ p / 2
    parent (even t e h) = let s = sibling-even p e in omega arith
    parent (odd t e h) = let s = sibling_odd p e in omega arith

    other : Bit p → sibling p ≡ p → ⊥
    other (even t e h) g = let s = sibling-even p e in omega arith
    other (odd t e h) g = let s = sibling_odd p e in omega arith

-- the hidden leaf's position: 0 at the root, half as much at the level above, below 2 to the k at level k, and h - 1 among the leaves
module _ (L h : ℕ) where
  pub position-last : position L h L ≡ h - 1
  unfolding position
  position-last = ap (λ (k : ℕ). (h - 1) / 2 ^ k) (sub_self L) ∙ div-one (h - 1)

  pub position_half : (k : ℕ) → suc k ≤ L → position L h (suc k) / 2 ≡ position L h k
  unfolding position
  position_half k g =
      shr-shr (h - 1) (L - suc k) 1 ∙ ap (λ (j : ℕ). (h - 1) / 2 ^ j) (let e : L - suc k + 1 ≡ L - k = omega arith in e)

  pub position-lt : h - 1 < 2 ^ L → (k : ℕ) → k ≤ L → position L h k < 2 ^ k
  unfolding position
  position-lt b k g = shr_lt k (L - k) (subst (λ (j : ℕ). h - 1 < 2 ^ j) (let e : L ≡ k + (L - k) = omega arith in e) b)

  pub position-zero : h - 1 < 2 ^ L → position L h 0 ≡ 0
  position-zero b = let e = position-lt b 0 (omega arith) in omega arith

  -- the position as the code shifts it out
  pub position-shift : (k : ℕ) → suc k ≤ L → (h - 1) / 2 ^ (L - 1 - k) ≡ position L h (suc k)
  unfolding position
  position-shift k g = ap (λ (n : ℕ). (h - 1) / 2 ^ n) (let t : L - 1 - k ≡ L - suc k = omega arith in t)

  pub parent_lt : h - 1 < 2 ^ L → (k : ℕ) → suc k ≤ L → (h - 1) / 2 ^ (L - 1 - k) / 2 < 2 ^ k
  parent_lt b k g =
      let e = ap (λ (p : ℕ). p / 2) (position-shift k g) ∙ position_half k g in
      let m = position-lt b k (omega arith) in
      omega arith
