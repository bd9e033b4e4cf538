-- `marks::folded` meets its contract: four halvings leave the sum of the sixteen lanes.
-- Assumes nothing.
use mathlib.Core.Path.{refl}
use Rattle.marks.proofs.Sums.{folded_sum}
use Rattle.marks.proofs.folded.Goals as goal

pub returns : goal.returns
returns c = folded_sum _ _ _ _ _ refl refl refl refl
