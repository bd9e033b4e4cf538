-- `single::own_share` meets its contract: the elements of the tape, and at party 1 with Δs, which was copied first.
-- Assumes nothing.
use Rattle.single.proofs.Alpha.{share_first, share_other}
use Rattle.single.proofs.own_share.Goals as goal

pub returns-then-i-eq1 : goal.returns-then-i-eq1
returns-then-i-eq1 c =
    share_first c.args.i c.args.tape.now c.args.delta.now c.args.s.now _ _ c.if-i-eq1.true c.requires c.copy.ensures c.add_elements.ensures

pub returns : goal.returns
returns c =
    share_other c.args.i c.args.tape.now c.args.delta.now c.args.s.now _ c.if-i-eq1.false c.unpack_into.ensures
