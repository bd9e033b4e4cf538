-- How `genuine_header` ends, from the answers of reading and of verifying: with work enough the line is the clip's, and work is what the clip's number leaves.
-- Assumes nothing.
use mathlib.Core.Path.{◌≡◌, sym, ap, ◌∙◌}
use mathlib.Core.List.{List}
use Prim.Native.Nat.{ℕ, ◌≤◌}
use native.Mathlib.Omega.{arith}
use lib.ListN.{length}
use Rattle.std.proofs.lemmas.Bool.Decides.{nat_tests}
use Rattle.refusals.specs.Refusals.{work_length, verify_sizes, work_after}
use Rattle.refusals.proofs.Refusals.{right_verify, or_else_right, or_else_refused}
use Rattle.envelope.specs.declared.Header.{Header}
use Rattle.envelope.specs.Envelope.{header_of, header_number, read_number, key_bytes, signature_bytes, message_bytes}
use Rattle.refusals.specs.declared.Refusal.{Refusal}
use Rattle.refusals.specs.Refusals.{refusal_number}
use Rattle.refusals.proofs.Numbers.{refusal_from_one}
use Rattle.envelope.specs.Envelope.{header, read_ended, read_outcome}
use Rattle.envelope.proofs.Outcomes.{parts_sized, told_number, told_header}
use Rattle.envelope.proofs.Sizes.{read_right}
use Rattle.biscuit.specs.Desk.{VerifyOutcome, verify_number, verify_ended, verify_outcome}
use Rattle.report.specs.Report.{genuine_line, refused_line, said, clip_number, clip_line}

pub said_genuine : (h : Header) (number : ℕ) → number ≡ 0 → said number h ≡ genuine_line h
unfolding said
said_genuine h number z = grind (arith, nat_tests)

pub said_refused : (h : Header) (number : ℕ) → (number ≡ 0 → ⊥) → said number h ≡ refused_line number
unfolding said
said_refused h number n = grind (arith, nat_tests)

-- where reading refuses, work is untouched after it
reading_keeps_work : (e work : List ℕ) → (read_number e ≡ 0 → ⊥) → work_after (read_number e) work ≡ work
unfolding read_number header_number work_after
reading_keeps_work e work n = grind (arith, nat_tests)

-- where reading says 0 the sizes are those that verifying asks for
verify_right : (e work : List ℕ) → read_number e ≡ 0 → work_length ≤ length work
    → verify_sizes (header_of e).set (length (key_bytes e)) (length (message_bytes e)) (length (signature_bytes e)) (length work) ≡ 0
verify_right e work z room =
    let right = (read_right e z).right in
    let size = parts_sized e z in
    let m = right.message in
    let l = size.message in
    right_verify (header_of e).set (length (key_bytes e)) (length (message_bytes e)) (length (signature_bytes e)) (length work) (
    record { known = right.known; message = omega arith; public_key = size.key; signature = size.signature; work = room }
    )

-- With 65,536 bytes of work or more, the number of verifying what was read is the clip's.
pub verified_number : (e work : List ℕ) → read_number e ≡ 0 → work_length ≤ length work
    → verify_number (header_of e).set (key_bytes e) (message_bytes e) (signature_bytes e) work ≡ clip_number e
unfolding verify_number clip_number
verified_number e work z room = or_else_right _ _ (verify_right e work z room) ∙ sym (or_else_right (read_number e) _ z)

module _ (e : List ℕ) where
  -- a line is that of the clip, where its number is the clip's
  refused_clip : (refusal : Refusal) → refusal_number refusal ≡ clip_number e → refused_line (refusal_number refusal) ≡ clip_line e
  unfolding clip_line
  refused_clip refusal same =
      let positive = refusal_from_one refusal in
      ap refused_line same ∙ sym (said_refused (header_of e) (clip_number e) (λ z. omega arith))

  genuine_clip : clip_number e ≡ 0 → genuine_line (header_of e) ≡ clip_line e
  unfolding clip_line
  genuine_clip z = sym (said_genuine (header_of e) (clip_number e) z)

  -- reading refuses
  number_unread : (read_number e ≡ 0 → ⊥) → clip_number e ≡ read_number e
  unfolding clip_number
  number_unread n = or_else_refused (read_number e) _ n

  module _ (refusal : Refusal) (read : read_ended (refusal_number refusal) (header 0 0 0) ≡ read_outcome e) where
    not-0 : read_number e ≡ 0 → ⊥
    not-0 z =
        let positive = refusal_from_one refusal in
        let number = told_number e _ read in
        omega arith

    pub report_unread : refused_line (refusal_number refusal) ≡ clip_line e
    report_unread = refused_clip refusal (told_number e _ read ∙ sym (number_unread not-0))

    pub work_unread : (work : List ℕ) → work ≡ work_after (clip_number e) work
    work_unread work = sym (ap (λ (k : ℕ). work_after k work) (number_unread not-0) ∙ reading_keeps_work e work not-0)

  -- the number of reading, where an answer is the header
  pub read_legal : (h : Header) → read_ended 0 h ≡ read_outcome e → read_number e ≡ 0
  read_legal h read = sym (told_number e _ read)

  -- reading says 0, and verifying ended so
  module _ (work workAfter : List ℕ) (room : work_length ≤ length work) (h : Header) (read : read_ended 0 h ≡ read_outcome e) (pk msg sig : List ℕ) (n : ℕ)
      (key : pk ≡ key_bytes e) (message : msg ≡ message_bytes e) (signature : sig ≡ signature_bytes e)
      (verified : verify_ended n workAfter ≡ verify_outcome h.set pk msg sig work) where
    same_header : h ≡ header_of e
    same_header = told_header e _ read (read_legal h read)

    told : verify_ended n workAfter ≡ verify_outcome (header_of e).set (key_bytes e) (message_bytes e) (signature_bytes e) work
    told = cc same_header

    number_verified : n ≡ clip_number e
    unfolding verify_outcome
    number_verified = ap (λ (o : VerifyOutcome). o.number) told ∙ verified_number e work (read_legal h read) room

    pub work_verified : workAfter ≡ work_after (clip_number e) work
    unfolding verify_outcome
    work_verified = ap (λ (o : VerifyOutcome). o.work) told ∙ ap (λ (k : ℕ). work_after k work) (verified_number e work (read_legal h read) room)

    pub report_refused : (refusal : Refusal) → refusal_number refusal ≡ n → refused_line (refusal_number refusal) ≡ clip_line e
    report_refused refusal same = refused_clip refusal (same ∙ number_verified)

    pub report_genuine : n ≡ 0 → genuine_line h ≡ clip_line e
    report_genuine z = ap genuine_line same_header ∙ genuine_clip (sym number_verified ∙ z)
