-- `group::fill` meets its contract. What the tape gives is laid over the start of the bytes. Assumes nothing.
use native.Mathlib.Omega.{arith}
use Rattle.group.proofs.Shares.{filled-tape, tape_is, tape-room}
use Rattle.group.proofs.fill.Goals as goal

pub returns : goal.returns
returns c =
    let z = tape-room c.args.of.rep c.args.of.sized in
    filled-tape _ _ _ _ _ (tape_is c.args.of.rep _ _ c.div_ceil.ensures c.div_ceil-2.ensures) (omega arith) c.tape.ensures
