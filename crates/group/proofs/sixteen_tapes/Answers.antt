-- `group::sixteen_tapes` meets its contract. Assumes nothing.
use native.Mathlib.Omega.{arith}
use Prim.Native.Nat.{◌+◌, ◌*◌}
use Rattle.group.specs.Shares.{tapes_of}
use Rattle.group.proofs.Tapes.{tapes_none, tapes_more, tapes_all, tape_of_party}
use Rattle.group.proofs.sixteen_tapes.Goals as goal

pub loop-q-init : goal.loop-q-init
loop-q-init c = tapes_none _ _

pub loop-q-preserved : goal.loop-q-preserved
loop-q-preserved c =
    let l = c.loop-q in
    let of = c.args.of in
    tapes_more l.q (tapes_of of.rep c.args.g of.salt.now c.args.leaves.now) _ _ _ c.loop-q-test.true (tape_of_party _ _ _ _ (16 * c.args.g + l.q) _) c.one_tape.ensures l.invariant

pub returns : goal.returns
returns c = tapes_all _ _ _ (omega arith) c.loop-q.invariant
