-- `calls::sign` meets its contract: what the sizes refuse changes nothing; else the output is lent and comes back with the signature or as it was, and work is cleared behind it.
-- Assumes nothing.
use Rattle.std.proofs.Common.{sym, ◌∙◌, true, false, length, arith}
use Rattle.std.proofs.lemmas.Result.{err_from_is_err_and}
use Rattle.refusals.proofs.Numbers.{refusal_from_one}
use Rattle.refusals.proofs.Refusals.{sign_right}
use Rattle.biscuit.specs.Keys.{consistent_key}
use Rattle.biscuit.specs.Sign.{signature}
use Rattle.biscuit.proofs.Outcomes.{sign_refused}
use Rattle.calls.proofs.Ended.{sign_asked, sign_ended_lem}
use Rattle.calls.proofs.Lending.{lent-answered, cleared-lent}
use Rattle.calls.proofs.sign.Goals as goal

pub returns-in_err-sign_sizes : goal.returns-in_err-sign_sizes
returns-in_err-sign_sizes c =
    let a = c.args in
    let p = err_from_is_err_and c.from_residual.result c.from_residual.ensures.1 in
    let positive = refusal_from_one c.in_err-sign_sizes.field-0.0 in
    rw (p.1, p.2) (sign_refused a.set a.secret_key.now a.message.now a.random.now a.signature.now a.work.now _ c.in_err-sign_sizes.ensures (λ z. omega arith))

pub sign-signed-requires : goal.sign-signed-requires
sign-signed-requires c =
    let a = c.args in
    let right = sym c.in_ok-sign_sizes.ensures in
    let r = sign_right a.set (length a.secret_key.now) (length a.message.now) (length a.random.now) (length a.signature.now) (length a.work.now) right in
    sign_asked a.set _ c.params_of-p.ensures a.secret_key.now a.message.now a.random.now a.signature.now a.work.now r _ _ c.signature_len-a.ensures c.work_len-n.ensures

pub returns-then-signed : goal.returns-then-signed
returns-then-signed c =
    let a = c.args in
    let right = sym c.in_ok-sign_sizes.ensures in
    let r = sign_right a.set (length a.secret_key.now) (length a.message.now) (length a.random.now) (length a.signature.now) (length a.work.now) right in
    let answer = c.sign-signed in
    let p = c.params_of-p.result in
    let h = r.signature in
    sign_ended_lem a.set p c.params_of-p.ensures a.secret_key.now a.message.now a.random.now a.signature.now a.work.now right true _ _
    (sym c.if-signed.true ∙ answer.ensures.0)
    (lent-answered (consistent_key p a.secret_key.now) (signature p a.secret_key.now a.random.now a.message.now) a.signature.now _ c.signature_len-a.result answer.ensures.1 (omega (arith, c.signature_len-a.ensures)) answer.auto.signature)
    (c.clear_work.ensures ∙ cleared-lent a.work.now answer.new.work _ c.work_len-n.ensures r.work answer.auto.work)

pub returns-else-signed : goal.returns-else-signed
returns-else-signed c =
    let a = c.args in
    let right = sym c.in_ok-sign_sizes.ensures in
    let r = sign_right a.set (length a.secret_key.now) (length a.message.now) (length a.random.now) (length a.signature.now) (length a.work.now) right in
    let answer = c.sign-signed in
    let p = c.params_of-p.result in
    let h = r.signature in
    sign_ended_lem a.set p c.params_of-p.ensures a.secret_key.now a.message.now a.random.now a.signature.now a.work.now right false _ _
    (sym c.if-signed.false ∙ answer.ensures.0)
    (lent-answered (consistent_key p a.secret_key.now) (signature p a.secret_key.now a.random.now a.message.now) a.signature.now _ c.signature_len-a.result answer.ensures.1 (omega (arith, c.signature_len-a.ensures)) answer.auto.signature)
    (c.clear_work.ensures ∙ cleared-lent a.work.now answer.new.work _ c.work_len-n.ensures r.work answer.auto.work)
