-- `marks::load_words` meets its contract: each word is one read at its place. Assumes nothing.
use Rattle.std.proofs.Common.{of_calls}
use Rattle.marks.specs.Marks.{EachWord}
use Rattle.marks.proofs.load_words.Goals as goal

pub returns : goal.returns
unfolding EachWord
returns c k h = search (of_calls, c.each_word.ensures k h)
