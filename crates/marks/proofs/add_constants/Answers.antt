-- `marks::add_constants` meets its contract: each word is one with its element added. Assumes nothing.
use Rattle.std.proofs.Common.{of_calls, arith}
use Rattle.marks.specs.Marks.{EachWord, MarkedBytes}
use Rattle.marks.proofs.Marks.{element_small}
use Rattle.marks.proofs.add_constants.Goals as goal

pub each_word-requires : goal.each_word-requires
each_word-requires c = search (of_calls, arith, element_small)

pub returns : goal.returns
unfolding EachWord MarkedBytes
returns c k h = search (of_calls, c.each_word.ensures k h)
