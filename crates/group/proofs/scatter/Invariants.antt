-- `group::scatter` meets its contract. The invariant: the first w words are stored, and the words of other lanes are as they were.
-- Assumes nothing.
use Rattle.group.proofs.Tapes.{StoredTo}
use Rattle.group.proofs.scatter.Given as goal

abbrev pub invariant-loop-w : goal.invariant-loop-w
invariant-loop-w l = StoredTo l.w l.q l.bytes l.initial.tapes l.tapes
