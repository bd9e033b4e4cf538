-- `answers::first::group_of` meets its contract: the two parts are the leaves and the circuit. Assumes nothing.
use Rattle.answers.proofs.Work.{group_held}
use Rattle.answers.proofs.first.group_of.Goals as goal

pub returns : goal.returns
returns c =
    group_held c.args.of.rep c.args.work.now _ _ c.circuit_len-c.ensures c.room_at-l.ensures c.args.g _ _ _ _ _ c.group.ensures
