-- `marks::multiply_add` meets its contract: each word is one multiplied and added to. Assumes nothing.
use Rattle.std.proofs.Common.{of_calls}
use Rattle.marks.specs.Marks.{EachWord, Multiplied}
use Rattle.marks.proofs.Marks.{multiplied_word}
use Rattle.marks.proofs.multiply_add.Goals as goal

pub returns : goal.returns
unfolding EachWord Multiplied
returns c k h = search (of_calls, c.each_word.ensures k h, multiplied_word)
