-- The turn of sixteen words of sixteen lanes, and of each group of sixteen among many. Assumes nothing.
use Rattle.std.specs.Prelude.{◌≡◌, List, ℕ, ◌+◌, ◌*◌, ◌≤◌, ◌<◌, length, get_or}
use Rattle.lanes.specs.Lanes.{lane}

-- lane i of word j is lane j of word i
unfoldable pub Transposed : List ℕ → List ℕ → Type 0
Transposed x y = (i j : ℕ) → i < 16 → j < 16 → lane i (get_or y j 0) ≡ lane j (get_or x i 0)

-- in each whole group of sixteen words, which starts at 16 w, lane q of word j is lane j of word q
unfoldable pub Turned : List ℕ → List ℕ → Type 0
Turned x y = (w j q : ℕ) → 16 * w + 16 ≤ length x → j < 16 → q < 16 → lane q (get_or y (16 * w + j) 0) ≡ lane j (get_or x (16 * w + q) 0)
