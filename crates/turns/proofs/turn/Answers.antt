-- `turns::turn` meets its contract: opened, the leaves put into work, and both hashes take their parts.
-- Assumes nothing.
use mathlib.Core.Path.{sym, subst}
use Prim.Native.Nat.{◌≤◌}
use lib.ListN.{length}
use native.Mathlib.Omega.{arith}
use Rattle.forms.specs.Room.{HoldsCircuit}
use Rattle.biscuit.specs.Room.{room_end}
use Rattle.biscuit.specs.Verify.{f}
use Rattle.turns.specs.declared.claim.Repetition.{Repetition}
use Rattle.turns.specs.Turns.{key_of, circuit_part}
use Rattle.turns.proofs.Turning.{length_of_leaves, put-circuit, put-leaves}
use Rattle.turns.proofs.turn.Goals as goal

pub absorb_first-first-requires : goal.absorb_first-first-requires
absorb_first-first-requires c =
    let o = c.open-opened.result in
    let w = c.args.work.now in
    let enough = subst (λ (r : Repetition). room_end r.claim.p ≤ length w) (sym c.open-opened.ensures) c.requires.0 in
    let kept = c.rebuild.auto.work in
    (omega arith, put-leaves o.repetition.claim.p w _ _ enough (length_of_leaves o.repetition) c.rebuild.ensures)

pub absorb_second-second-requires : goal.absorb_second-second-requires
absorb_second-second-requires c =
    let o = c.open-opened.result in
    let w = c.args.work.now in
    let enough = subst (λ (r : Repetition). room_end r.claim.p ≤ length w) (sym c.open-opened.ensures) c.requires.0 in
    let kept = c.rebuild.auto.work in
    let circuit =
    subst (λ (r : Repetition). HoldsCircuit r.claim.p.n r.claim.p.m (f r.claim.p (key_of r.claim)) (circuit_part r.claim.p w)) (sym c.open-opened.ensures) c.requires.1.circuit in (
      omega arith,
      subst (HoldsCircuit _ _ _) (sym (put-circuit o.repetition.claim.p w _ _ enough (length_of_leaves o.repetition) c.rebuild.ensures)) circuit,
      put-leaves o.repetition.claim.p w _ _ enough (length_of_leaves o.repetition) c.rebuild.ensures,
    )
