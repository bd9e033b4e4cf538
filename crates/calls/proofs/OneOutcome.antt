-- Each of the four calls has one outcome: any two outcomes that its promise allows are equal. A promise is an equation to the outcome that the inputs, and what lay in the lent parts before,
-- determine; so the number and every byte are settled, for refusals too. Assumes nothing.
use mathlib.Core.Path.{sym, ap, ap₂, ◌∙◌}
use Rattle.std.proofs.Common.{Result}
use Rattle.memory.specs.Outcome.{OneOutcome}
use Rattle.refusals.specs.declared.Refusal.{Refusal}
use Rattle.refusals.proofs.Numbers.{same_number}
use Rattle.biscuit.specs.Desk.{MakeKeysOutcome, PublicHalfOutcome, SignOutcome, VerifyOutcome}
use Rattle.calls.proofs.make_keys as make-keys
use Rattle.calls.proofs.public_half as public-half
use Rattle.calls.proofs.«sign» as sign
use Rattle.calls.proofs.«verify» as verify

abbrev Answer : Type 0
Answer = Result (Unit {0}) Refusal

pub make_keys_one_outcome : OneOutcome make-keys.Kinds.ps make-keys.Kinds.r make-keys.Reads.Asked make-keys.Reads.Learnt
make_keys_one_outcome κs a good asked o q x y =
    let same = x.promised ∙ sym y.promised in
    ap₂ (λ (r : Answer) (m : MakeKeysOutcome). (r, (tt, (tt, (tt, (m.secret_key, (m.public_key, (m.work, tt)))))))) (same_number o.0 q.0 (ap (λ (m : MakeKeysOutcome). m.number) same)) same

pub public_half_one_outcome : OneOutcome public-half.Kinds.ps public-half.Kinds.r public-half.Reads.Asked public-half.Reads.Learnt
public_half_one_outcome κs a good asked o q x y =
    let same = x.promised ∙ sym y.promised in
    ap₂ (λ (r : Answer) (m : PublicHalfOutcome). (r, (tt, (tt, (m.public_key, (m.work, tt)))))) (same_number o.0 q.0 (ap (λ (m : PublicHalfOutcome). m.number) same)) same

pub sign_one_outcome : OneOutcome sign.Kinds.ps sign.Kinds.r sign.Reads.Asked sign.Reads.Learnt
sign_one_outcome κs a good asked o q x y =
    let same = x.promised ∙ sym y.promised in
    ap₂ (λ (r : Answer) (m : SignOutcome). (r, (tt, (tt, (tt, (tt, (m.signature, (m.work, tt)))))))) (same_number o.0 q.0 (ap (λ (m : SignOutcome). m.number) same)) same

pub verify_one_outcome : OneOutcome verify.Kinds.ps verify.Kinds.r verify.Reads.Asked verify.Reads.Learnt
verify_one_outcome κs a good asked o q x y =
    let same = x.promised ∙ sym y.promised in
    ap₂ (λ (r : Answer) (m : VerifyOutcome). (r, (tt, (tt, (tt, (tt, (m.work, tt))))))) (same_number o.0 q.0 (ap (λ (m : VerifyOutcome). m.number) same)) same
