-- `marks::clear_marked` meets its contract: each word is one cleared in the marked lanes. Assumes nothing.
use Rattle.std.proofs.Common.{of_calls}
use Rattle.marks.specs.Marks.{EachWord, Cleared}
use Rattle.marks.proofs.Marks.{cleared_turn}
use Rattle.marks.proofs.clear_marked.Goals as goal

pub returns : goal.returns
unfolding EachWord Cleared
returns c k h = search (of_calls, c.each_word.ensures k h, cleared_turn)
