-- Algorithm 5 in lists of seeds, with a blank in the place of ?: the levels that the routines write when they rebuild a tree. The theorem `any_path_hides_one` ties
-- them to the paper's form. Assumes nothing.
use mathlib.Core.List.{List, [], ◌∷◌}
use Prim.Native.Nat.{ℕ, zero, suc}
use lib.ListN.{get_or}
use Rattle.tree.specs.Tree.{Children, position}
use Rattle.tree.specs.Spread.{around}

-- the seeds of algorithm 5 level by level, with `blank` in the place of ?
unfoldable pub coded_at : Children → ℕ → List (List ℕ) → ℕ → List ℕ → ℕ → List (List ℕ)
coded_at kids L path h blank zero = blank ∷ []
coded_at kids L path h blank (suc k) = around (kids k) (position L h (suc k)) (get_or path k []) blank (coded_at kids L path h blank k)

unfoldable pub coded : Children → ℕ → List (List ℕ) → ℕ → List ℕ → List (List ℕ)
coded kids L path h blank = coded_at kids L path h blank L
