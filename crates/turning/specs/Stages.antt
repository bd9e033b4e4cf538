-- One stage of the turn of sixteen words: the bit d of a lane's number and of its word's number change places.
-- Assumes nothing.
use Rattle.std.specs.Prelude.{◌≡◌, List, ℕ, ◌+◌, ◌-◌, ◌*◌, ◌/◌, ◌%◌, ◌^◌, ◌<◌, ◌≤◌, get_or}
use Rattle.lanes.specs.Lanes.{lane}

-- x with the bit d of y in the place of its own
unfoldable pub mix : ℕ → ℕ → ℕ → ℕ
mix d x y = x - x / d % 2 * d + y / d % 2 * d

-- the words b are the words a after the stage d
unfoldable pub Mixed : ℕ → List ℕ → List ℕ → Type 0
Mixed d a b = (i j : ℕ) → i < 16 → j < 16 → lane i (get_or b j 0) ≡ lane (mix d i j) (get_or a (mix d j i) 0)

-- the first word of the pair p of words d apart, and the pair of a word
abbrev pub first : ℕ → ℕ → ℕ
first d p = p / d * 2 * d + p % d

abbrev pub pair : ℕ → ℕ → ℕ
pair d k = k / (2 * d) * d + k % d

-- d is the bit of a stage, and m has ones in the lanes whose bit d is 0: shifted by d lanes, it has them in the others
pub record Stage (d m : ℕ) : Type 0 where
  pub positive : 0 < d
  pub even : (i : ℕ) → i < 16 → lane i m ≡ 15 * (1 - i / d % 2)
  pub odd : (i : ℕ) → i < 16 → lane i (m * 2 ^ (4 * d) % 2 ^ 64) ≡ 15 * (i / d % 2)
  pub room : (i : ℕ) → i < 16 → i / d % 2 * d ≤ i
  pub small : (i j : ℕ) → i < 16 → j < 16 → mix d i j < 16
  pub second : (p : ℕ) → p < 8 → first d p + d < 16
  pub paired : (k : ℕ) → k < 16 → (pair d k < 8) × (k ≡ first d (pair d k) + k / d % 2 * d)
  pub pairs : (p : ℕ) → p < 8 → (pair d (first d p) ≡ p) × (pair d (first d p + d) ≡ p)
  pub bits : (p : ℕ) → p < 8 → (first d p / d % 2 ≡ 0) × ((first d p + d) / d % 2 ≡ 1)
