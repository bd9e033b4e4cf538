-- Over what the calls promise, as equations to their outcomes: whatever signing wrote with the number 0, written into an envelope with the number 0, is genuine to the clip program.
-- `EveryClip` says it of the contracts themselves. Assumes nothing.
use mathlib.Core.Path.{◌≡◌, refl, sym, ap, ◌∙◌}
use mathlib.Core.List.{List}
use Prim.Native.Nat.{ℕ, ◌≤◌}
use native.Mathlib.Omega.{arith}
use lib.ListN.{length, take, replicate, length-replicate}
use Rattle.sets.specs.Sets.{params_of, secret_key_length, public_key_length, signature_length}
use Rattle.refusals.specs.Refusals.{work_length}
use Rattle.envelope.specs.declared.Header.{Header}
use Rattle.envelope.specs.Envelope.{Reading, the_version, header, header_of, placed, WriteOutcome, write_outcome, read_number, read_outcome, key_bytes, signature_bytes, message_bytes, Lent, key_in, signature_in, message_in}
use Rattle.envelope.proofs.Outcomes.{told_number, told_header, key_told, signature_told, message_told}
use Rattle.envelope.proofs.RoundTrip.{read_what_was_written}
use Rattle.biscuit.specs.Keys.{public_half}
use Rattle.biscuit.specs.Desk.{MakeKeysOutcome, make_keys_outcome, SignOutcome, sign_outcome, verify_number, verify_outcome}
use Rattle.biscuit.proofs.SignedIsAccepted.{signed_is_accepted, made_signed_accepted}
use Rattle.report.specs.Report.{genuine_line, clip_number, clip_line}
use Rattle.report.proofs.Outcomes.{said_genuine, verified_number}

-- the number of the call that verifies
outcome_number : (set : ℕ) (pk msg sig work : List ℕ) → (verify_outcome set pk msg sig work).number ≡ verify_number set pk msg sig work
unfolding verify_outcome
outcome_number set pk msg sig work = refl

-- an envelope that was written with the number 0, of parts that a call with work enough verifies with the number 0
module _ (set : ℕ) (pk sig msg envelopeBefore : List ℕ) (writing : WriteOutcome)
    (wrote : writing ≡ write_outcome set pk sig msg envelopeBefore) (done : writing.number ≡ 0)
    (work : List ℕ) (room : work_length ≤ length work) (accepted : verify_number set pk msg sig work ≡ 0) where
  abbrev written : List ℕ
  written = take (placed (header the_version set (length msg))).end writing.envelope

  accepted_clip : clip_line written ≡ genuine_line (header the_version set (length msg))
  unfolding clip_line
  accepted_clip =
      let x : Lent = record { block = 0; place = 0; held = written } in
      let back = read_what_was_written set pk sig msg envelopeBefore writing wrote done x refl in
      let legal : read_number written ≡ 0 = sym (told_number written (read_outcome written) refl) ∙ ap (λ (r : Reading). r.number) back.reading in
      let head : header_of written ≡ header the_version set (length msg) =
      sym (told_header written (read_outcome written) refl legal) ∙ ap (λ (r : Reading). r.header) back.reading in
      let k = sym (key_told x (key_in x) refl) ∙ back.key in
      let s = sym (signature_told x (signature_in x) refl) ∙ back.signature in
      let m = sym (message_told x (message_in x) refl) ∙ back.message in
      let at = ap (λ (h : Header). h.set) head in
      let same : verify_number (header_of written).set (key_bytes written) (message_bytes written) (signature_bytes written) work ≡ verify_number set pk msg sig work = cc in
      let zero : clip_number written ≡ 0 = sym (verified_number written work legal room) ∙ same ∙ accepted in
      said_genuine (header_of written) (clip_number written) zero ∙ ap genuine_line head

-- work of 65,536 zeros, for which the theorems on signing are asked
abbrev zeros : List ℕ
zeros = replicate work_length 0

zeros_enough : work_length ≤ length zeros
zeros_enough = let e = length-replicate {A = ℕ} work_length 0 in omega arith

-- Whatever signing wrote with the number 0 is genuine: an envelope that was written with the number 0 of the public half of the key, that signature and that message has
-- the line `genuine S L`, whatever stands behind it in the output.
pub signed_clip_is_genuine : (set : ℕ) (sk msg rnd sigBefore signWork envelopeBefore : List ℕ) (signing : SignOutcome) (writing : WriteOutcome)
    → signing ≡ sign_outcome set sk msg rnd sigBefore signWork → signing.number ≡ 0
    → writing ≡ write_outcome set (public_half (params_of set) sk) (take (signature_length (params_of set)) signing.signature) msg envelopeBefore → writing.number ≡ 0
    → clip_line (take (placed (header the_version set (length msg))).end writing.envelope) ≡ genuine_line (header the_version set (length msg))
signed_clip_is_genuine set sk msg rnd sigBefore signWork envelopeBefore signing writing p z q y =
    let pk = public_half (params_of set) sk in
    let sig = take (signature_length (params_of set)) signing.signature in
    accepted_clip set pk sig msg envelopeBefore writing q y zeros zeros_enough
    (sym (outcome_number set pk msg sig zeros)
    ∙ signed_is_accepted set sk msg rnd sigBefore signWork zeros signing (verify_outcome set pk msg sig zeros) p z zeros_enough refl)

-- The same with keys that were made with the number 0, under the public key that was made with the secret one.
pub made_signed_clip_is_genuine : (set : ℕ) (circuit_seed secret_seed skBefore pkBefore makeWork msg rnd sigBefore signWork envelopeBefore : List ℕ)
    (made : MakeKeysOutcome) (signing : SignOutcome) (writing : WriteOutcome)
    → made ≡ make_keys_outcome set circuit_seed secret_seed skBefore pkBefore makeWork → made.number ≡ 0
    → signing ≡ sign_outcome set (take (secret_key_length (params_of set)) made.secret_key) msg rnd sigBefore signWork → signing.number ≡ 0
    → writing ≡ write_outcome set (take (public_key_length (params_of set)) made.public_key) (take (signature_length (params_of set)) signing.signature) msg envelopeBefore
    → writing.number ≡ 0
    → clip_line (take (placed (header the_version set (length msg))).end writing.envelope) ≡ genuine_line (header the_version set (length msg))
made_signed_clip_is_genuine set circuit_seed secret_seed skBefore pkBefore makeWork msg rnd sigBefore signWork envelopeBefore made signing writing g x p z q y =
    let pk = take (public_key_length (params_of set)) made.public_key in
    let sig = take (signature_length (params_of set)) signing.signature in
    accepted_clip set pk sig msg envelopeBefore writing q y zeros zeros_enough
    (sym (outcome_number set pk msg sig zeros)
    ∙ made_signed_accepted set circuit_seed secret_seed skBefore pkBefore makeWork msg rnd sigBefore signWork zeros made signing (verify_outcome set pk msg sig zeros) g x p z zeros_enough refl)
