-- `sponge::Tape::squeeze` meets its contract. The loop's invariant: the first i bytes of `out` are given, and the tape is the one behind them.
-- A turn gives as many bytes as the block has, which `squeeze_given` and `squeeze_moved` show to be the next ones. The measure is what is left of `out`.
-- Assumes nothing.
use mathlib.Core.Path.{◌≡◌, refl, sym, ap, ◌∙◌}
use native.Mathlib.Omega.{arith}
use lib.ListN.{length, length-take, length-drop}
use lib.Seq.{take_all}
use Rattle.sponge.specs.Steps.{tape, given, moved}
use Rattle.sponge.proofs.Squeeze.{ready-place, squeeze_moved, squeeze_given}
use Rattle.sponge.proofs.Tape.squeeze.Goals as goal

pub loop-i-init : goal.loop-i-init
unfolding given moved
loop-i-init c = (omega arith, refl, refl)

pub overflow_sub-at : goal.overflow_sub-at
overflow_sub-at c = let p = ready-place _ (tape c.turn-at.new.lanes c.turn-at.result) c.turn-at.ensures.tape in omega arith

pub give-requires : goal.give-requires
give-requires c =
    let p = ready-place _ (tape c.turn-at.new.lanes c.turn-at.result) c.turn-at.ensures.tape in
    simp (length-take, length-drop) (omega arith)

pub loop-i-smaller : goal.loop-i-smaller
loop-i-smaller c =
    let p = ready-place _ (tape c.turn-at.new.lanes c.turn-at.result) c.turn-at.ensures.tape in
    omega arith

pub loop-i-preserved : goal.loop-i-preserved
loop-i-preserved c =
    let l = c.loop-i in
    let t = c.turn-at in
    let r = tape t.new.lanes t.result in
    let n = c.lesser-n in (
      omega arith,
      squeeze_given c.args.self l.i n.result l.out (tape l.lanes l.at) r (omega arith) t.ensures.tape (n.ensures) l.invariant.2 c.give.new.out l.invariant.1 c.give.ensures,
      squeeze_moved c.args.self l.i n.result l.out (tape l.lanes l.at) r (omega arith) t.ensures.tape (n.ensures) l.invariant.2,
    )

pub returns : goal.returns
returns c =
    let l = c.loop-i in
    let e : l.i ≡ length c.args.out.now = omega arith in
    (sym (take_all l.i l.out c.loop-i-test.false) ∙ l.invariant.1 ∙ ap (given c.args.self) e, l.invariant.2 ∙ ap (moved c.args.self) e)
