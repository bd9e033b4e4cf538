-- Each public function of this crate has one outcome. A promise over every circuit that the bytes hold speaks of something: bytes hold the circuit that is read from them.
-- Assumes nothing.
use mathlib.Core.Path.{sym, ap, ◌∙◌}
use mathlib.Core.List.{List}
use Prim.Native.Nat.{ℕ}
use Rattle.memory.specs.Outcome.{OneOutcome}
use Rattle.forms.specs.Circuit.{Evaluation}
use Rattle.forms.specs.Room.{circuit_in}
use Rattle.forms.proofs.Room.{holds_circuit}
use Rattle.forms.proofs.circuit_len as circuit-len
use Rattle.forms.proofs.tape_bytes as tape-bytes
use Rattle.forms.proofs.hidden_party as hidden-party
use Rattle.forms.proofs.eval_circuit as eval-circuit

pub circuit_len_one_outcome : OneOutcome circuit-len.Kinds.ps circuit-len.Kinds.r circuit-len.Reads.Asked circuit-len.Reads.Learnt
circuit_len_one_outcome κs a good asked o q x y = ap (λ (z : ℕ). (z, (tt, (tt, tt)))) (x.promised ∙ sym y.promised)

pub tape_bytes_one_outcome : OneOutcome tape-bytes.Kinds.ps tape-bytes.Kinds.r tape-bytes.Reads.Asked tape-bytes.Reads.Learnt
tape_bytes_one_outcome κs a good asked o q x y = ap (λ (l : List ℕ). (tt, (tt, (l, tt)))) (x.promised ∙ sym y.promised)

pub hidden_party_one_outcome : OneOutcome hidden-party.Kinds.ps hidden-party.Kinds.r hidden-party.Reads.Asked hidden-party.Reads.Learnt
hidden_party_one_outcome κs a good asked o q x y = ap (λ (z : ℕ). (z, (tt, (tt, (tt, tt))))) (x.promised ∙ sym y.promised)

pub eval_circuit_one_outcome : OneOutcome eval-circuit.Kinds.ps eval-circuit.Kinds.r eval-circuit.Reads.Asked eval-circuit.Reads.Learnt
eval_circuit_one_outcome κs a good asked o q x y =
    let circuit = a.0.now in
    let f = circuit_in a.1.0 a.1.1.0 circuit in
    let h = holds_circuit a.1.0 a.1.1.0 circuit in
    ap (λ (v : Evaluation). (tt, (tt, (tt, (tt, (tt, (v.y, (v.t, tt)))))))) (sym (x.promised f h) ∙ y.promised f h)
