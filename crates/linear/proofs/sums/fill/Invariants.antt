-- `linear::sums::fill` meets its contract. The invariant: the sums of the first c pairs of words are written. Assumes nothing.
use Rattle.linear.specs.Rows.{PairsFrom}
use Rattle.linear.proofs.sums.fill.Given as goal

abbrev pub invariant-loop-c : goal.invariant-loop-c
invariant-loop-c g l = PairsFrom g.W.Word.view l.words l.at l.c l.sums
