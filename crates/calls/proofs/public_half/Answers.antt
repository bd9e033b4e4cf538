-- `calls::public_half` meets its contract: what the sizes refuse changes nothing; else the output is lent and comes back with the public half or as it was, and work is cleared behind it.
-- Assumes nothing.
use Rattle.std.proofs.Common.{sym, ◌∙◌, true, false, length, arith}
use Rattle.std.proofs.lemmas.Result.{err_from_is_err_and}
use Rattle.refusals.proofs.Numbers.{refusal_from_one}
use Rattle.refusals.proofs.Refusals.{public_half_right}
use Rattle.biscuit.specs.Keys.{consistent_key, public_half}
use Rattle.biscuit.proofs.Outcomes.{public_half_refused}
use Rattle.calls.proofs.Ended.{public_half_asked, public_half_ended_lem}
use Rattle.calls.proofs.Lending.{lent-answered, cleared-lent}
use Rattle.calls.proofs.public_half.Goals as goal

pub returns-in_err-public_half_sizes : goal.returns-in_err-public_half_sizes
returns-in_err-public_half_sizes c =
    let a = c.args in
    let p = err_from_is_err_and c.from_residual.result c.from_residual.ensures.1 in
    let positive = refusal_from_one c.in_err-public_half_sizes.field-0.0 in
    rw (p.1, p.2) (public_half_refused a.set a.secret_key.now a.public_key.now a.work.now _ c.in_err-public_half_sizes.ensures (λ z. omega arith))

pub public_half-consistent-requires : goal.public_half-consistent-requires
public_half-consistent-requires c =
    let a = c.args in
    let right = sym c.in_ok-public_half_sizes.ensures in
    let r = public_half_right a.set (length a.secret_key.now) (length a.public_key.now) (length a.work.now) right in
    public_half_asked a.set _ c.params_of-p.ensures a.secret_key.now a.public_key.now a.work.now r _ _ c.public_key_len-b.ensures c.work_len-n.ensures

pub returns-then-consistent : goal.returns-then-consistent
returns-then-consistent c =
    let a = c.args in
    let right = sym c.in_ok-public_half_sizes.ensures in
    let r = public_half_right a.set (length a.secret_key.now) (length a.public_key.now) (length a.work.now) right in
    let answer = c.public_half-consistent in
    let p = c.params_of-p.result in
    let n = c.work_len-n.ensures in
    let h = r.public_key in
    public_half_ended_lem a.set p c.params_of-p.ensures a.secret_key.now a.public_key.now a.work.now right true _ _
    (sym c.if-consistent.true ∙ answer.ensures.0)
    (lent-answered (consistent_key p a.secret_key.now) (public_half p a.secret_key.now) a.public_key.now _ c.public_key_len-b.result answer.ensures.1 (omega (arith, c.public_key_len-b.ensures)) answer.auto.pk)
    (c.clear_work.ensures ∙ cleared-lent a.work.now answer.new.work _ n r.work answer.auto.work)

pub returns-else-consistent : goal.returns-else-consistent
returns-else-consistent c =
    let a = c.args in
    let right = sym c.in_ok-public_half_sizes.ensures in
    let r = public_half_right a.set (length a.secret_key.now) (length a.public_key.now) (length a.work.now) right in
    let answer = c.public_half-consistent in
    let p = c.params_of-p.result in
    let n = c.work_len-n.ensures in
    let h = r.public_key in
    public_half_ended_lem a.set p c.params_of-p.ensures a.secret_key.now a.public_key.now a.work.now right false _ _
    (sym c.if-consistent.false ∙ answer.ensures.0)
    (lent-answered (consistent_key p a.secret_key.now) (public_half p a.secret_key.now) a.public_key.now _ c.public_key_len-b.result answer.ensures.1 (omega (arith, c.public_key_len-b.ensures)) answer.auto.pk)
    (c.clear_work.ensures ∙ cleared-lent a.work.now answer.new.work _ n r.work answer.auto.work)
