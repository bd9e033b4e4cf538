-- `calls::verify` meets its contract: what the sizes refuse changes nothing; else the answer is that of algorithm 13, and work is cleared behind it. Assumes nothing.
use Rattle.std.proofs.Common.{sym, ◌∙◌, true, false, length, arith}
use Rattle.std.proofs.lemmas.Result.{err_from_is_err_and}
use Rattle.refusals.proofs.Numbers.{refusal_from_one}
use Rattle.refusals.proofs.Refusals.{verify_right}
use Rattle.biscuit.proofs.Outcomes.{verify_refused}
use Rattle.calls.proofs.Ended.{verify_asked, verify_ended_lem}
use Rattle.calls.proofs.Lending.{cleared-lent}
use Rattle.calls.proofs.verify.Goals as goal

pub returns-in_err-verify_sizes : goal.returns-in_err-verify_sizes
returns-in_err-verify_sizes c =
    let a = c.args in
    let p = err_from_is_err_and c.from_residual.result c.from_residual.ensures.1 in
    let positive = refusal_from_one c.in_err-verify_sizes.field-0.0 in
    rw (p.1, p.2) (verify_refused a.set a.public_key.now a.message.now a.signature.now a.work.now _ c.in_err-verify_sizes.ensures (λ z. omega arith))

pub accepts-accepted-requires : goal.accepts-accepted-requires
accepts-accepted-requires c =
    let a = c.args in
    let right = sym c.in_ok-verify_sizes.ensures in
    let r = verify_right a.set (length a.public_key.now) (length a.message.now) (length a.signature.now) (length a.work.now) right in
    verify_asked a.set _ c.params_of-p.ensures a.public_key.now a.message.now a.signature.now a.work.now r _ c.work_len-n.ensures

pub returns-then-accepted : goal.returns-then-accepted
returns-then-accepted c =
    let a = c.args in
    let right = sym c.in_ok-verify_sizes.ensures in
    let r = verify_right a.set (length a.public_key.now) (length a.message.now) (length a.signature.now) (length a.work.now) right in
    let answer = c.accepts-accepted in
    verify_ended_lem a.set c.params_of-p.result c.params_of-p.ensures a.public_key.now a.message.now a.signature.now a.work.now right true _
    (sym c.if-accepted.true ∙ answer.ensures)
    (c.clear_work.ensures ∙ cleared-lent a.work.now answer.new.work _ c.work_len-n.ensures r.work answer.auto.work)

pub returns-else-accepted : goal.returns-else-accepted
returns-else-accepted c =
    let a = c.args in
    let right = sym c.in_ok-verify_sizes.ensures in
    let r = verify_right a.set (length a.public_key.now) (length a.message.now) (length a.signature.now) (length a.work.now) right in
    let answer = c.accepts-accepted in
    verify_ended_lem a.set c.params_of-p.result c.params_of-p.ensures a.public_key.now a.message.now a.signature.now a.work.now right false _
    (sym c.if-accepted.false ∙ answer.ensures)
    (c.clear_work.ensures ∙ cleared-lent a.work.now answer.new.work _ c.work_len-n.ensures r.work answer.auto.work)
