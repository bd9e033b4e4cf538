-- `envelope::write` meets its contract: what the sizes refuse changes nothing, and each part is put behind the one before. Assumes nothing.
use Rattle.std.proofs.Common.{arith, refl, sym, ap, ◌∙◌, length}
use Rattle.std.proofs.lemmas.Result.{err_from_is_err_and}
use Rattle.refusals.proofs.Numbers.{refusal_from_one}
use Rattle.envelope.specs.Envelope.{header_bytes}
use Rattle.envelope.proofs.Laid.{four_parts}
use Rattle.envelope.proofs.Outcomes.{write_refused, write_done}
use Rattle.envelope.proofs.Sizes.{write_right}
use Rattle.envelope.proofs.write.Goals as goal

pub returns-in_err-write_sizes : goal.returns-in_err-write_sizes
returns-in_err-write_sizes c =
    let a = c.args in
    let p = err_from_is_err_and c.from_residual.result c.from_residual.ensures.1 in
    let positive = refusal_from_one c.in_err-write_sizes.field-0.0 in
    rw (p.1, p.2) (write_refused a.set a.public_key.now a.signature.now a.message.now a.envelope.now _ c.in_err-write_sizes.ensures (λ z. omega arith))

pub returns : goal.returns
returns c =
    let a = c.args in
    let r = write_right a.set (length a.public_key.now) (length a.signature.now) (length a.message.now) (length a.envelope.now) (sym c.in_ok-write_sizes.ensures) in
    let p = r.public_key in
    let q = r.signature in
    let m = r.room in
    write_done a.set a.public_key.now a.signature.now a.message.now a.envelope.now _ (sym c.in_ok-write_sizes.ensures)
    (four_parts a.set a.envelope.now c.to_bytes-first.result a.public_key.now a.signature.now a.message.now
    c.copy.new.dst c.copy-2.new.dst c.copy-3.new.dst c.copy-4.new.dst
    _ _ _
    (c.to_bytes-first.ensures ∙ ap header_bytes c.written.ensures) refl refl refl (omega arith)
    c.copy.ensures c.copy-2.ensures c.copy-3.ensures c.copy-4.ensures)
