-- `group::one_tape` meets its contract. The tape stands over the start of zeros, and past its end both read as 0.
-- Assumes nothing.
use Rattle.group.proofs.Shares.{tape_fits}
use Rattle.group.proofs.Tapes.{tape_stored}
use Rattle.group.proofs.one_tape.Goals as goal

pub returns : goal.returns
returns c = tape_stored 184 _ _ _ _ _ (tape_fits c.args.of.rep _ c.args.of.sized) c.fill.ensures c.scatter.ensures
