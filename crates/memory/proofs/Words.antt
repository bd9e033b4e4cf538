-- Laws of numbers of k bits, of lists of them, and of the complement within k bits.
-- Assumes nothing.
use mathlib.Core.Path.{◌≡◌, refl, sym, ap, ◌∙◌, subst}
use mathlib.Core.List.{List, [], ◌∷◌}
use Prim.Native.Nat.{ℕ, zero, suc, ◌-◌, ◌^◌, ◌≤◌, ◌<◌}
use native.Mathlib.Nat.{le_of_suc-le-suc}
use native.Mathlib.Decide.{dec_lt}
use native.Mathlib.Omega.{arith}
use mathlib.Core.Bool.{Bool, true}
use lib.Dec.{T, ltb, lit<}
use lib.ListN.{length, get_or, set}
use lib.Pow.{pow_pos}
use lib.Bits.{bit_xor, bit_and, bit_or, xor_lt, xor_comm, or_add_and, xor_add_and}
use Rattle.memory.specs.Lists.{table}
use Rattle.memory.proofs.Lists.{get_or-table, length-table}
use Rattle.memory.proofs.Every.{both, both_left, both_right}
use Rattle.memory.proofs.Bits.{xor_assoc, xor_ones}

-- past its end a list reads as 0
pub get_d_past : (l : List ℕ) (i : ℕ) → length l ≤ i → get_or l i 0 ≡ 0
get_d_past [] i h = refl
get_d_past (a ∷ l) zero h = absurd (omega arith)
get_d_past (a ∷ l) (suc i) h = get_d_past l i (le_of_suc-le-suc h)

-- every entry is below 2 ^ k
abbrev pub Below : ℕ → List ℕ → Type 0
Below k l = (i : ℕ) → get_or l i 0 < 2 ^ k

pub below-cons : (k a : ℕ) (l : List ℕ) → a < 2 ^ k → Below k l → Below k (a ∷ l)
below-cons k a l p h zero = p
below-cons k a l p h (suc i) = h i

-- the test that every entry is
abbrev pub all_below : ℕ → List ℕ → Bool
all_below k [] = true
all_below k (a ∷ l) = both (ltb a (2 ^ k)) (all_below k l)

pub below_all : (k : ℕ) (l : List ℕ) → T (all_below k l) → Below k l
below_all k [] t = λ i. pow_pos k
below_all k (a ∷ l) t = below-cons k a l (lit< (both_left (ltb a (2 ^ k)) (all_below k l) t)) (below_all k l (both_right (ltb a (2 ^ k)) (all_below k l) t))

pub table_below : (k n : ℕ) (f : ℕ → ℕ) → ((i : ℕ) → i < n → f i < 2 ^ k) → Below k (table n f)
table_below k n f h i =
    elim (dec_lt i n) as (λ d. get_or (table n f) i 0 < 2 ^ k) [
      | yes y ↦ subst (λ (v : ℕ). v < 2 ^ k) (sym (get_or-table n f i y)) (h i y)
      | no y ↦ subst (λ (v : ℕ). v < 2 ^ k) (sym (get_d_past (table n f) i (let e = length-table n f in omega arith))) (pow_pos k)
    ]

pub set_below : (k : ℕ) (l : List ℕ) (j v : ℕ) → v < 2 ^ k → Below k l → Below k (set l j v)
set_below k [] j v p h i = h i
set_below k (a ∷ l) zero v p h zero = p
set_below k (a ∷ l) zero v p h (suc i) = h (suc i)
set_below k (a ∷ l) (suc j) v p h zero = h zero
set_below k (a ∷ l) (suc j) v p h (suc i) = set_below k l j v p (λ m. h (suc m)) i

-- ---- the complement of a within k bits, 2 ^ k - 1 - a

module _ (k : ℕ) where
  pub complement_complement : {a : ℕ} → a < 2 ^ k → 2 ^ k - 1 - (2 ^ k - 1 - a) ≡ a
  complement_complement h = omega arith

  pub complement_lt : (a : ℕ) → 2 ^ k - 1 - a < 2 ^ k
  complement_lt a = let p = pow_pos k in omega arith

  -- a sum with a complement is the complement of the sum
  pub xor_complement : {a b : ℕ} → a < 2 ^ k → b < 2 ^ k → bit_xor a (2 ^ k - 1 - b) ≡ 2 ^ k - 1 - bit_xor a b
  xor_complement {a} {b} p q =
      ap (bit_xor a) (sym (xor_ones k b q)) ∙ sym (xor_assoc a b (2 ^ k - 1)) ∙ xor_ones k (bit_xor a b) (xor_lt k a b p q)

  pub complement_xor : {a b : ℕ} → a < 2 ^ k → b < 2 ^ k → bit_xor (2 ^ k - 1 - a) b ≡ 2 ^ k - 1 - bit_xor a b
  complement_xor {a} {b} p q =
      xor_comm (2 ^ k - 1 - a) b ∙ xor_complement q p ∙ ap (λ (n : ℕ). 2 ^ k - 1 - n) (xor_comm b a)

  pub complements_xor : {a b : ℕ} → a < 2 ^ k → b < 2 ^ k → bit_xor (2 ^ k - 1 - a) (2 ^ k - 1 - b) ≡ bit_xor a b
  complements_xor {a} {b} p q =
      xor_complement (complement_lt a) q ∙ ap (λ (n : ℕ). 2 ^ k - 1 - n) (complement_xor p q) ∙ complement_complement (xor_lt k a b p q)

  -- `or` is the complement of the `and` of the complements
  pub or_complement : {a b : ℕ} → a < 2 ^ k → b < 2 ^ k → bit_or a b ≡ 2 ^ k - 1 - bit_and (2 ^ k - 1 - a) (2 ^ k - 1 - b)
  or_complement {a} {b} p q =
      let o = or_add_and a b in
      let x = xor_add_and a b in
      let y = xor_add_and (2 ^ k - 1 - a) (2 ^ k - 1 - b) in
      let s = complements_xor p q in
      omega arith
