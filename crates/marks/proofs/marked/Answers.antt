-- `marks::marked` meets its contract: an element times a mark has no carry. Assumes nothing.
use Rattle.marks.proofs.Marks.{marked_turn, marked_turn_fits}
use Rattle.marks.proofs.marked.Goals as goal

pub overflow_mul-result : goal.overflow_mul-result
overflow_mul-result c = marked_turn_fits c.args.element c.args.mark _ c.requires.1 c.requires.0 c.from.ensures c.ranges.mark.fits

pub returns : goal.returns
returns c = marked_turn c.args.element c.args.mark _ _ c.requires.1 c.requires.0 c.from.ensures
