-- `turns::turn_two` meets its contract: the leaves of one repetition lie over those of the other, so circuit and challenges stay, and each hash takes one repetition after the other.
-- Assumes nothing.
use mathlib.Core.Path.{◌≡◌, sym, ap, ◌∙◌, subst}
use Prim.Native.Nat.{◌≤◌}
use lib.ListN.{length}
use native.Mathlib.Omega.{arith}
use Rattle.forms.specs.Room.{HoldsCircuit}
use Rattle.biscuit.specs.Room.{groups, room_end}
use Rattle.biscuit.specs.Verify.{f}
use Rattle.turns.specs.declared.claim.Claim.{Claim}
use Rattle.turns.specs.declared.claim.Repetition.{Repetition}
use Rattle.turns.specs.Turns.{key_of, circuit_part, leaves_part}
use Rattle.turns.proofs.Turning.{length_of_leaves, put-leaves, two-leaves, two-circuit, leaves-over, rebuilt_by}
use Rattle.turns.proofs.turn_two.Goals as goal

pub absorb_first-first-requires : goal.absorb_first-first-requires
absorb_first-first-requires c =
    let r = c.open-one.result.repetition in
    let w = c.args.work.now in
    let enough = subst (λ (r : Repetition). room_end r.claim.p ≤ length w) (sym c.open-one.ensures) c.requires.2 in
    let kept = c.rebuild.auto.work in
    (omega arith, put-leaves r.claim.p w _ _ enough (length_of_leaves r) c.rebuild.ensures)

pub absorb_first-first-requires-2 : goal.absorb_first-first-requires-2
absorb_first-first-requires-2 c =
    let r = c.open-two.result.repetition in
    let w = c.rebuild.new.work in
    let one = c.rebuild.auto.work in
    let enough = subst (λ (r : Repetition). room_end r.claim.p ≤ length w) (sym c.open-two.ensures) (let e = c.requires.2 in omega arith) in
    let two = c.rebuild-2.auto.work in
    (omega arith, put-leaves r.claim.p w _ _ enough (length_of_leaves r) c.rebuild-2.ensures)

pub absorb_two-second-requires : goal.absorb_two-second-requires
absorb_two-second-requires c =
    let r = c.open-one.result.repetition in
    let t = c.open-two.result.repetition in
    let w = c.args.work.now in
    let base = ap (λ (r : Repetition). r.claim) c.open-one.ensures in
    let same : t.claim ≡ r.claim = ap (λ (r : Repetition). r.claim) c.open-two.ensures ∙ sym base in
    let enough = subst (λ (c : Claim). room_end c.p ≤ length w) (sym base) c.requires.2 in
    let one = c.rebuild.auto.work in
    let two = c.rebuild-2.auto.work in
    let leaves = put-leaves r.claim.p w _ _ enough (length_of_leaves r) c.rebuild.ensures in
    let circuit = subst (λ (c : Claim). HoldsCircuit c.p.n c.p.m (f c.p (key_of c)) (circuit_part c.p w)) (sym base) c.requires.3.circuit in (
      same,
      subst (λ (c : Claim). groups c.p ≡ 1) (sym base) c.requires.0,
      omega arith,
      subst (HoldsCircuit _ _ _) (sym (two-circuit r t same w _ _ enough c.rebuild.ensures c.rebuild-2.ensures one)) circuit,
      c.keep_leaves-kept.ensures ∙ ap (λ (d : Claim). leaves_part d.p c.rebuild.new.work) (sym base) ∙ leaves,
      two-leaves r t same w _ _ enough c.rebuild.ensures c.rebuild-2.ensures one,
    )

pub returns-clause-left : goal.returns-clause-left
returns-clause-left c =
    let r = c.open-one.result.repetition in
    let t = c.open-two.result.repetition in
    let w = c.args.work.now in
    let base = ap (λ (r : Repetition). r.claim) c.open-one.ensures in
    let same : t.claim ≡ r.claim = ap (λ (r : Repetition). r.claim) c.open-two.ensures ∙ sym base in
    let enough = subst (λ (c : Claim). room_end c.p ≤ length w) (sym base) c.requires.2 in
    leaves-over r t same w _ _ enough c.rebuild.ensures c.rebuild-2.ensures ∙ ap (λ (r : Repetition). rebuilt_by r w) c.open-two.ensures
