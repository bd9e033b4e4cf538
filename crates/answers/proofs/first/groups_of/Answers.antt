-- `answers::first::groups_of` meets its contract: the parts are the leaves, twice, and the circuit. Assumes nothing.
use Prim.Native.Nat.{◌+◌}
use Rattle.answers.proofs.Work.{group_held}
use Rattle.answers.proofs.first.groups_of.Goals as goal

pub returns : goal.returns
returns c =
    let r = c.args.of.rep in
    let w = c.args.work.now in
    let a = c.circuit_len-c.ensures in
    let b = c.room_at-l.ensures in
    let t = c.two_groups in record { first = group_held r w _ _ a b c.args.g _ _ _ _ _ t.ensures.first; second = group_held r w _ _ a b (c.args.g + 1) _ _ _ _ _ t.ensures.second }
