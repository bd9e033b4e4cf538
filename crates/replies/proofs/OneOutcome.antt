-- What the promises of this crate settle. `answer_pass` settles the sponge that it hands back, and the circuit, the roots and the challenges in work; the leaves and the room are scratch.
-- `alpha_pass` has one outcome. Both promises hold for every circuit that work holds: it holds one. Assumes nothing.
use mathlib.Core.Path.{refl, sym, ap, ◌∙◌}
use mathlib.Core.List.{List}
use Prim.Native.Nat.{ℕ}
use lib.ListN.{take, drop}
use Rattle.memory.specs.Outcome.{OneOutcome, OneSight}
use Rattle.sponge.specs.declared.Sponge.{Sponge}
use Rattle.sets.specs.declared.Params.{Params}
use Rattle.forms.specs.Circuit.{Circuit}
use Rattle.forms.specs.Room.{circuit_in, HoldsCircuit}
use Rattle.biscuit.specs.Room.{leaves_at, roots_at}
use Rattle.replies.proofs.answer_pass as answer-pass
use Rattle.replies.proofs.alpha_pass as alpha-pass

-- the circuit that work holds
circuit_of : Params → List ℕ → Circuit
circuit_of P work = circuit_in P.n P.m (take (leaves_at P) work)

circuit-held : (P : Params) (work : List ℕ) → HoldsCircuit P.n P.m (circuit_of P work) (take (leaves_at P) work)
unfolding HoldsCircuit circuit_of
circuit-held P work = refl

-- the sponge, and what stays of work
pub answer_pass_settles :
    OneSight answer-pass.Kinds.ps answer-pass.Kinds.r answer-pass.Reads.Asked answer-pass.Reads.Learnt (Sponge × List ℕ × List ℕ)
    (λ κs a o. (o.0, take (leaves_at a.1.0.p) o.1.1.1.1.0, drop (roots_at a.1.0.p) o.1.1.1.1.0))
answer_pass_settles κs a good asked o q x y =
    let work = a.1.1.1.0.now in
    let c = circuit_of a.1.0.p work in
    let held = circuit-held a.1.0.p work in
    let hashed = x.promised.0 c held ∙ sym (y.promised.0 c held) in
    let circuit = x.promised.1.circuit ∙ sym y.promised.1.circuit in
    let roots = x.promised.1.roots ∙ sym y.promised.1.roots in
    λ i. (hashed i, circuit i, roots i)

pub alpha_pass_one_outcome : OneOutcome alpha-pass.Kinds.ps alpha-pass.Kinds.r alpha-pass.Reads.Asked alpha-pass.Reads.Learnt
alpha_pass_one_outcome κs a good asked o q x y =
    let work = a.1.1.1.0.now in
    let c = circuit_of a.0.p work in
    let held = circuit-held a.0.p work in
    ap (λ (b : List ℕ). (tt, (tt, (tt, (b, (tt, tt)))))) (x.promised c held ∙ sym (y.promised c held))
