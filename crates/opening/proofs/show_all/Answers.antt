-- `opening::show_all` meets its contract. The invariant: `out` begins with the sections of the first i repetitions and `roots` with their hidden leaves;
-- the roots behind them are still as they were. Assumes nothing.
use Prim.Native.Nat.{◌+◌, ◌*◌, ◌<◌}
use native.Mathlib.Omega.{arith}
use Rattle.memory.proofs.Lists.{room}
use Rattle.sets.specs.Sets.{S}
use Rattle.opening.specs.Shown.{leaf_of, shown_of}
use Rattle.opening.proofs.Turning.{leaves_turn, sections_none, sections_whole, shown_turn}
use Rattle.opening.proofs.show_all.Goals as goal

pub loop-i-init : goal.loop-i-init
loop-i-init c =
    let a = c.args in
    let s = S a.p in (
      sections_none (leaf_of a.p a.salt.now a.hidden.now a.roots.now) s a.roots.now,
      sections_none (shown_of a.p a.salt.now a.hidden.now a.roots.now) (a.p.l * s + 2 * s) a.out.now,
    )

pub show-requires : goal.show-requires
unfolding S
show-requires c =
    let a = c.args in
    let l = c.loop-i in
    let s = S a.p in
    let r = room l.i a.p.tau s (omega arith) in
    let q = room l.i a.p.tau (a.p.l * s + 2 * s) (omega arith) in
    omega arith

pub loop-i-preserved : goal.loop-i-preserved
unfolding S
loop-i-preserved c =
    let a = c.args in
    let h = c.requires in
    let l = c.loop-i in
    let one = c.show in
    let more : l.i < a.p.tau = omega arith in (
      leaves_turn a.p a.salt.now a.hidden.now a.roots.now h.5 l.i l.roots _ more l.invariant.0 one.ensures.leaf,
      shown_turn a.p a.salt.now a.hidden.now a.roots.now h.5 l.i l.roots a.out.now l.out _ more l.invariant.0 l.invariant.1 one.ensures.shown,
    )

pub returns : goal.returns
returns c =
    let a = c.args in
    let h = c.requires in
    let l = c.loop-i in
    let s = S a.p in record { shown = sections_whole (shown_of a.p a.salt.now a.hidden.now a.roots.now) (a.p.l * s + 2 * s) a.out.now l.i a.p.tau l.out (omega arith) h.6 l.invariant.1; leaves = sections_whole (leaf_of a.p a.salt.now a.hidden.now a.roots.now) s a.roots.now l.i a.p.tau l.roots (omega arith) h.5 l.invariant.0 }
