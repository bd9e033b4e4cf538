-- `marks::kept` meets its contract: 15 times a mark has no carry.
-- Assumes nothing.
use mathlib.Core.Path.{refl}
use lib.Dec.{lit<}
use Rattle.marks.specs.Marks.{keeping}
use Rattle.marks.proofs.Marks.{marked_fits}
use Rattle.marks.proofs.kept.Goals as goal

pub overflow_mul-result : goal.overflow_mul-result
overflow_mul-result c = marked_fits c.args.mark 15 c.requires (lit< tt) c.ranges.mark.fits

pub returns : goal.returns
unfolding keeping
returns c = refl
