-- The multiples of a word of sixteen lanes are those of crate `lanes`. Assumes nothing.
use Rattle.lanes.specs.Lanes.{Multiples}
use Rattle.linear.specs.Word.{MultiplesOf}
use Rattle.linear.proofs.word.U64Word.multiples.Goals as goal

pub returns : goal.returns
unfolding MultiplesOf Multiples
returns c = c.multiples.ensures
