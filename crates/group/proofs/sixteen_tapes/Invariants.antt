-- `group::sixteen_tapes` meets its contract. The invariant: the tapes of the lanes below q are stored.
-- Assumes nothing.
use Rattle.group.specs.Shares.{tapes_of}
use Rattle.group.proofs.Tapes.{TapesTo}
use Rattle.group.proofs.sixteen_tapes.Given as goal

abbrev pub invariant-loop-q : goal.invariant-loop-q
invariant-loop-q l = TapesTo l.q (tapes_of l.of.rep l.g l.of.salt.now l.leaves) l.tapes
