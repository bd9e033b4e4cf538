-- Each public function of this crate has one outcome: its promise is an equation to a definition of the arguments.
-- Assumes nothing.
use mathlib.Core.Path.{sym, ap, ◌∙◌}
use mathlib.Core.Bool.{Bool}
use Prim.Native.Nat.{ℕ}
use denote.RattleType.{RattleType}
use denote.Param.Laws.{Laws}
use Rattle.memory.specs.Outcome.{OneOutcome}
use Rattle.std.proofs.Common.{Result}
use Rattle.refusals.specs.declared.Refusal.{Refusal}
use Rattle.refusals.proofs.Numbers.{same_number}
use Rattle.refusals.proofs.Refusal.number as number
use Rattle.refusals.proofs.number_of as number-of
use Rattle.refusals.proofs.make_keys_sizes as make-keys-sizes
use Rattle.refusals.proofs.public_half_sizes as public-half-sizes
use Rattle.refusals.proofs.sign_sizes as sign-sizes
use Rattle.refusals.proofs.verify_sizes as verify-sizes
use Rattle.refusals.proofs.bad_set as bad-set
use Rattle.refusals.proofs.work_len as work-len
use Rattle.refusals.proofs.message_limit as message-limit

abbrev Answer : Type 0
Answer = Result (Unit {0}) Refusal

pub make_keys_sizes_one_outcome : OneOutcome make-keys-sizes.Kinds.ps make-keys-sizes.Kinds.r make-keys-sizes.Reads.Asked make-keys-sizes.Reads.Learnt
make_keys_sizes_one_outcome κs a good asked o q x y = ap (λ (z : Answer). (z, (tt, (tt, (tt, (tt, (tt, (tt, tt)))))))) (same_number o.0 q.0 (x.promised ∙ sym y.promised))

pub public_half_sizes_one_outcome : OneOutcome public-half-sizes.Kinds.ps public-half-sizes.Kinds.r public-half-sizes.Reads.Asked public-half-sizes.Reads.Learnt
public_half_sizes_one_outcome κs a good asked o q x y = ap (λ (z : Answer). (z, (tt, (tt, (tt, (tt, tt)))))) (same_number o.0 q.0 (x.promised ∙ sym y.promised))

pub sign_sizes_one_outcome : OneOutcome sign-sizes.Kinds.ps sign-sizes.Kinds.r sign-sizes.Reads.Asked sign-sizes.Reads.Learnt
sign_sizes_one_outcome κs a good asked o q x y = ap (λ (z : Answer). (z, (tt, (tt, (tt, (tt, (tt, (tt, tt)))))))) (same_number o.0 q.0 (x.promised ∙ sym y.promised))

pub verify_sizes_one_outcome : OneOutcome verify-sizes.Kinds.ps verify-sizes.Kinds.r verify-sizes.Reads.Asked verify-sizes.Reads.Learnt
verify_sizes_one_outcome κs a good asked o q x y = ap (λ (z : Answer). (z, (tt, (tt, (tt, (tt, (tt, tt))))))) (same_number o.0 q.0 (x.promised ∙ sym y.promised))

pub number_one_outcome : OneOutcome number.Kinds.ps number.Kinds.r number.Reads.Asked number.Reads.Learnt
number_one_outcome κs a good asked o q x y = ap (λ (z : ℕ). (z, (tt, tt))) (x.promised ∙ sym y.promised)

pub number_of_one_outcome :
    (T : RattleType) (L : Laws T) → OneOutcome (number-of.Kinds.ps T L) (number-of.Kinds.r T L) (number-of.Reads.Asked T L) (number-of.Reads.Learnt T L)
number_of_one_outcome T L κs a good asked o q x y = ap (λ (z : ℕ). (z, (tt, tt))) (x.promised ∙ sym y.promised)

pub bad_set_one_outcome : OneOutcome bad-set.Kinds.ps bad-set.Kinds.r bad-set.Reads.Asked bad-set.Reads.Learnt
bad_set_one_outcome κs a good asked o q x y = ap (λ (b : Bool). (b, (tt, tt))) (x.promised ∙ sym y.promised)

pub work_len_one_outcome : OneOutcome work-len.Kinds.ps work-len.Kinds.r work-len.Reads.Asked work-len.Reads.Learnt
work_len_one_outcome κs a good asked o q x y = ap (λ (z : ℕ). (z, tt)) (x.promised ∙ sym y.promised)

pub message_limit_one_outcome : OneOutcome message-limit.Kinds.ps message-limit.Kinds.r message-limit.Reads.Asked message-limit.Reads.Learnt
message_limit_one_outcome κs a good asked o q x y = ap (λ (z : ℕ). (z, tt)) (x.promised ∙ sym y.promised)
