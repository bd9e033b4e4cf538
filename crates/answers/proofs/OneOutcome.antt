-- Both public functions of this crate have one outcome. A promise over every circuit that the bytes hold speaks of the one that is read from them. `answers` gives the room by half bytes: that
-- its entries are bytes is what their type, u8, says. Assumes nothing.
use mathlib.Core.Path.{refl, sym, ap, ap₂, ◌∙◌}
use mathlib.Core.List.{List}
use Rattle.memory.specs.Outcome.{OneOutcome}
use Rattle.field.specs.Packing.{Bytes}
use Rattle.sponge.specs.declared.Sponge.{Sponge}
use Rattle.forms.specs.Room.{circuit_in}
use Rattle.forms.proofs.Room.{holds_circuit}
use Rattle.group.specs.Shares.{params_in}
use Rattle.answers.specs.Passes.{circuit_of}
use Rattle.answers.proofs.Room.{work_fixed}
use Rattle.answers.proofs.answers as answers
use Rattle.answers.proofs.two_repetitions as two-repetitions

-- the sponge; in work the circuit and the leaves as they were, and y and z·ε + c of every group behind them
pub answers_one_outcome :
    OneOutcome answers.Kinds.ps answers.Kinds.r answers.Reads.Asked (λ κs a r e. answers.Reads.Learnt κs a r e × Bytes e.1.1.1.1.0.now)
answers_one_outcome κs a good asked o q x y =
    let rep = a.1.0 in
    let circuit = circuit_of rep a.1.1.1.1.0.now in
    let f = circuit_in rep.n rep.m circuit in
    let h = holds_circuit rep.n rep.m circuit in
    let p = x.promised.0 in
    let r = y.promised.0 in
    ap₂ (λ (s : Sponge) (l : List _). (s, (tt, (tt, (tt, (tt, (l, tt)))))))
    (p.0 (params_in rep) f refl refl h ∙ sym (r.0 (params_in rep) f refl refl h))
    (work_fixed rep _ _ _ _ _ _ (x.kept.1.1.1.1.0 ∙ asked.5) (y.kept.1.1.1.1.0 ∙ asked.5) x.promised.1 y.promised.1 (p.1.0 ∙ sym r.1.0) p.1.1 r.1.1)

pub two_repetitions_one_outcome : OneOutcome two-repetitions.Kinds.ps two-repetitions.Kinds.r two-repetitions.Reads.Asked two-repetitions.Reads.Learnt
two_repetitions_one_outcome κs a good asked o q x y =
    let rep = a.1.0 in
    let circuit = a.1.1.1.1.1.1.0.now in
    let f = circuit_in rep.n rep.m circuit in
    let h = holds_circuit rep.n rep.m circuit in
    ap (λ (s : Sponge). (s, (tt, (tt, (tt, (tt, (tt, (tt, (tt, (tt, (tt, tt))))))))))) (x.promised (params_in rep) f refl refl h ∙ sym (y.promised (params_in rep) f refl refl h))
