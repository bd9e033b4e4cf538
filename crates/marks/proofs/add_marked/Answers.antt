-- `marks::add_marked` meets its contract: each word is one with its element added. Assumes nothing.
use Rattle.std.proofs.Common.{of_calls}
use Rattle.marks.specs.Marks.{EachWord, Marked}
use Rattle.marks.proofs.add_marked.Goals as goal

pub returns : goal.returns
unfolding EachWord Marked
returns c k h = search (of_calls, c.each_word.ensures k h)
