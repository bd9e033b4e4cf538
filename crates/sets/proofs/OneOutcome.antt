-- Each public function of this crate has one outcome: its promise is an equation to a definition of the arguments.
-- Assumes nothing.
use mathlib.Core.Path.{sym, ap, ◌∙◌}
use Prim.Native.Nat.{ℕ}
use Rattle.memory.specs.Outcome.{OneOutcome}
use Rattle.sets.specs.declared.Params.{Params}
use Rattle.sets.proofs.params_of as params_of
use Rattle.sets.proofs.secret_key_len as secret-key-len
use Rattle.sets.proofs.public_key_len as public-key-len
use Rattle.sets.proofs.signature_len as signature-len

pub params_of_one_outcome : OneOutcome params_of.Kinds.ps params_of.Kinds.r params_of.Reads.Asked params_of.Reads.Learnt
params_of_one_outcome κs a good asked o q x y = ap (λ (p : Params). (p, (tt, tt))) (x.promised ∙ sym y.promised)

pub secret_key_len_one_outcome : OneOutcome secret-key-len.Kinds.ps secret-key-len.Kinds.r secret-key-len.Reads.Asked secret-key-len.Reads.Learnt
secret_key_len_one_outcome κs a good asked o q x y = ap (λ (z : ℕ). (z, (tt, tt))) (x.promised ∙ sym y.promised)

pub public_key_len_one_outcome : OneOutcome public-key-len.Kinds.ps public-key-len.Kinds.r public-key-len.Reads.Asked public-key-len.Reads.Learnt
public_key_len_one_outcome κs a good asked o q x y = ap (λ (z : ℕ). (z, (tt, tt))) (x.promised ∙ sym y.promised)

pub signature_len_one_outcome : OneOutcome signature-len.Kinds.ps signature-len.Kinds.r signature-len.Reads.Asked signature-len.Reads.Learnt
signature_len_one_outcome κs a good asked o q x y = ap (λ (z : ℕ). (z, (tt, tt))) (x.promised ∙ sym y.promised)
