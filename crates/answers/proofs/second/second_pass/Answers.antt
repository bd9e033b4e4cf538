-- `answers::second::second_pass` meets its contract. The invariant: the v of g groups are absorbed.
-- Assumes nothing.
use native.Mathlib.Omega.{arith}
use Prim.Native.Nat.{◌*◌}
use Rattle.answers.proofs.Absorbing.{absorbing_start, absorbing_group, absorbing-end}
use Rattle.answers.proofs.Turning.{vs-vectors, part_again}
use Rattle.answers.proofs.second.second_pass.Goals as goal

pub loop-g-init : goal.loop-g-init
loop-g-init c = λ ys ws vs all kept. absorbing_start _ vs

pub loop-g-preserved : goal.loop-g-preserved
loop-g-preserved c = λ ys ws vs all kept.
    let t = c.loop-g-test.true in
    let n = all.count in
    absorbing_group c.args.of.rep.m vs (vs-vectors all) c.loop-g.g (omega arith) _ _ _ (c.loop-g.invariant ys ws vs all kept)
    (c.v_turn-s.ensures ys ws vs all (part_again c.args.room.now (c.loop-g.g * (16 * c.args.of.rep.m)) (16 * c.args.of.rep.m) (kept c.loop-g.g t)))

pub returns : goal.returns
returns c = λ ys ws vs all kept.
    let t = c.loop-g-test.false in
    let o = c.requires.0 in
    let n = all.count in
    absorbing-end vs c.loop-g.g _ _ (omega arith) (omega arith) (c.loop-g.invariant ys ws vs all kept)
