-- `report::genuine_header` meets its contract: the numbers of reading and of verifying give the line, and what work holds. Assumes nothing.
use Rattle.std.proofs.Common.{refl}
use Rattle.std.proofs.lemmas.Result.{err_from_is_err_and}
use Rattle.envelope.specs.Envelope.{lent}
use Rattle.envelope.proofs.Outcomes.{key_told, signature_told, message_told}
use Rattle.report.proofs.Outcomes.{report_unread, work_unread, work_verified, report_refused, report_genuine}
use Rattle.report.proofs.genuine_header.Goals as goal

pub returns-in_err-header : goal.returns-in_err-header
returns-in_err-header c =
    let p = err_from_is_err_and c.from_residual.result c.from_residual.ensures.1 in
    let a = c.args in
    let refusal = c.in_err-header.field-0.0 in
    record {
      line = rw (p.1, p.2) (report_unread a.input.now refusal c.in_err-header.ensures);
      work = work_unread a.input.now refusal c.in_err-header.ensures a.work.now;
    }

pub returns-in_err-verify : goal.returns-in_err-verify
returns-in_err-verify c =
    let a = c.args in
    let p = err_from_is_err_and c.from_residual-in_err-verify.result c.from_residual-in_err-verify.ensures.1 in
    let k = key_told (lent a.input) (lent c.public_key_of-key.result) c.public_key_of-key.ensures in
    let m = message_told (lent a.input) (lent c.message_of-message.result) c.message_of-message.ensures in
    let s = signature_told (lent a.input) (lent c.signature_of-signature.result) c.signature_of-signature.ensures in
    let kept = work_verified a.input.now a.work.now _ c.requires _ c.in_ok-header.ensures _ _ _ _ k m s c.in_err-verify.ensures in
    record { line = rw (p.1, p.2) (report_refused a.input.now a.work.now _ c.requires _ c.in_ok-header.ensures _ _ _ _ k m s c.in_err-verify.ensures c.in_err-verify.field-0.0 refl); work = kept }

pub returns : goal.returns
returns c =
    let a = c.args in
    let k = key_told (lent a.input) (lent c.public_key_of-key.result) c.public_key_of-key.ensures in
    let m = message_told (lent a.input) (lent c.message_of-message.result) c.message_of-message.ensures in
    let s = signature_told (lent a.input) (lent c.signature_of-signature.result) c.signature_of-signature.ensures in
    let kept = work_verified a.input.now a.work.now _ c.requires _ c.in_ok-header.ensures _ _ _ _ k m s c.in_ok-verify.ensures in
    record { line = report_genuine a.input.now a.work.now _ c.requires _ c.in_ok-header.ensures _ _ _ _ k m s c.in_ok-verify.ensures refl; work = kept }
