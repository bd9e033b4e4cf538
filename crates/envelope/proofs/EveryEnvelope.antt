-- The round trips, said of the contracts of the calls themselves: an outcome of a call is any that its own `ensures` allows, so a call whose promise were weaker would have no
-- such theorem. An outcome's first part is the result; the arguments are meant by their places, set first and then the slices as they are declared. Assumes nothing.
use mathlib.Core.Path.{◌≡◌, refl, sym, ap, ap₂, ◌∙◌}
use mathlib.Core.List.{List}
use Prim.Native.Nat.{ℕ, ◌≤◌}
use lib.ListN.{length, take}
use contract.Lifetimes.{Lfts}
use borrow.Fn.Kinds.{Dens}
use Rattle.std.proofs.Common.{Result, Ok}
use Rattle.memory.specs.Lists.{over}
use Rattle.memory.specs.Outcome.{Outcome, Allowed}
use Rattle.field.specs.Packing.{Bytes}
use Rattle.refusals.specs.declared.Refusal.{Refusal}
use Rattle.refusals.specs.Refusals.{number_of}
use Rattle.refusals.proofs.Numbers.{done_is_ok}
use Rattle.envelope.specs.declared.Header.{Header}
use Rattle.envelope.specs.Envelope.{the_version, header, placed, WriteOutcome, write_ended, write_outcome, read_ended, reading_of, Lent, lent, key_in, signature_in, message_in}
use Rattle.envelope.proofs.Outcomes.{read_ok}
use Rattle.envelope.proofs.RoundTrip.{read_what_was_written, write_what_was_read}
use Rattle.envelope.proofs.write as write
use Rattle.envelope.proofs.read as read
use Rattle.envelope.proofs.public_key_of as public-key-of
use Rattle.envelope.proofs.signature_of as signature-of
use Rattle.envelope.proofs.message_of as message-of

-- what the four readers say of an envelope of these parts
pub record AllReadBack (set : ℕ) (pk sig msg : List ℕ) (reading : Result Header Refusal) (key signature message : List ℕ) : Type 0 where
  pub header_read : reading ≡ Ok (header the_version set (length msg))
  pub key_read : key ≡ pk
  pub signature_read : signature ≡ sig
  pub message_read : message ≡ msg

-- Where writing answers `Ok` and the readers are called with the bytes that were written, whatever stands behind them in the output, they say `Ok` and the header, and hand back the key, the
-- signature and the message.
pub every_envelope_is_read_back :
    (κ : Lfts 4) (a : Dens κ write.Kinds.ps) (writing : Outcome write.Kinds.ps write.Kinds.r κ a)
    (κs : Lfts 1) (b : Dens κs read.Kinds.ps) (reading : Outcome read.Kinds.ps read.Kinds.r κs b)
    (κs' : Lfts 1) (c : Dens κs' public-key-of.Kinds.ps) (key : Outcome public-key-of.Kinds.ps public-key-of.Kinds.r κs' c)
    (κs'' : Lfts 1) (d : Dens κs'' signature-of.Kinds.ps) (signature : Outcome signature-of.Kinds.ps signature-of.Kinds.r κs'' d)
    (κs''' : Lfts 1) (e : Dens κs''' message-of.Kinds.ps) (message : Outcome message-of.Kinds.ps message-of.Kinds.r κs''' e)
    → Allowed write.Kinds.ps write.Kinds.r write.Reads.Asked write.Reads.Learnt κ a writing
    → Allowed read.Kinds.ps read.Kinds.r read.Reads.Asked read.Reads.Learnt κs b reading
    → Allowed public-key-of.Kinds.ps public-key-of.Kinds.r public-key-of.Reads.Asked public-key-of.Reads.Learnt κs' c key
    → Allowed signature-of.Kinds.ps signature-of.Kinds.r signature-of.Reads.Asked signature-of.Reads.Learnt κs'' d signature
    → Allowed message-of.Kinds.ps message-of.Kinds.r message-of.Reads.Asked message-of.Reads.Learnt κs''' e message
    → writing.0 ≡ Ok tt
    → b.0.now ≡ take (placed (header the_version a.0 (length a.1.1.1.0.now))).end writing.1.1.1.1.1.0
    → c.0.now ≡ b.0.now → d.0.now ≡ b.0.now → e.0.now ≡ b.0.now
    → AllReadBack a.0 a.1.0.now a.1.1.0.now a.1.1.1.0.now reading.0 key.0.now signature.0.now message.0.now
every_envelope_is_read_back κ a writing κs b reading κs' c key κs'' d signature κs''' e message w r k s m z bytes same_key same_signature same-message =
    let back = read_what_was_written a.0 a.1.0.now a.1.1.0.now a.1.1.1.0.now a.1.1.1.1.0.now (write_ended (number_of writing.0) writing.1.1.1.1.1.0) w.promised (ap number_of z) in
    record {
      header_read = read_ok reading.0 _ (r.promised ∙ (back (lent b.0) bytes).reading);
      key_read = ap (λ (x : Lent). x.held) k.promised ∙ (back (lent c.0) (same_key ∙ bytes)).key;
      signature_read = ap (λ (x : Lent). x.held) s.promised ∙ (back (lent d.0) (same_signature ∙ bytes)).signature;
      message_read = ap (λ (x : Lent). x.held) m.promised ∙ (back (lent e.0) (same-message ∙ bytes)).message;
    }

-- Where reading answers `Ok` and writing is called with the set that was read, the key, the signature and the message that the readers handed back, and an output with room, it answers `Ok`, and the
-- output begins with the bytes that were read and keeps what it held behind them.
pub every_reading_is_written_back :
    (κs : Lfts 1) (b : Dens κs read.Kinds.ps) (reading : Outcome read.Kinds.ps read.Kinds.r κs b)
    (κs' : Lfts 1) (c : Dens κs' public-key-of.Kinds.ps) (key : Outcome public-key-of.Kinds.ps public-key-of.Kinds.r κs' c)
    (κs'' : Lfts 1) (d : Dens κs'' signature-of.Kinds.ps) (signature : Outcome signature-of.Kinds.ps signature-of.Kinds.r κs'' d)
    (κs''' : Lfts 1) (e : Dens κs''' message-of.Kinds.ps) (message : Outcome message-of.Kinds.ps message-of.Kinds.r κs''' e)
    (κ : Lfts 4) (a : Dens κ write.Kinds.ps) (writing : Outcome write.Kinds.ps write.Kinds.r κ a)
    → Allowed read.Kinds.ps read.Kinds.r read.Reads.Asked read.Reads.Learnt κs b reading
    → Allowed public-key-of.Kinds.ps public-key-of.Kinds.r public-key-of.Reads.Asked public-key-of.Reads.Learnt κs' c key
    → Allowed signature-of.Kinds.ps signature-of.Kinds.r signature-of.Reads.Asked signature-of.Reads.Learnt κs'' d signature
    → Allowed message-of.Kinds.ps message-of.Kinds.r message-of.Reads.Asked message-of.Reads.Learnt κs''' e message
    → Allowed write.Kinds.ps write.Kinds.r write.Reads.Asked write.Reads.Learnt κ a writing
    → Bytes b.0.now → (h : Header) → reading.0 ≡ Ok h
    → lent c.0 ≡ lent b.0 → lent d.0 ≡ lent b.0 → lent e.0 ≡ lent b.0
    → a.0 ≡ h.set → a.1.0.now ≡ key.0.now → a.1.1.0.now ≡ signature.0.now → a.1.1.1.0.now ≡ message.0.now
    → length b.0.now ≤ length a.1.1.1.1.0.now
    → (writing.0 ≡ Ok tt) × (writing.1.1.1.1.1.0 ≡ over b.0.now a.1.1.1.1.0.now)
every_reading_is_written_back κs b reading κs' c key κs'' d signature κs''' e message κ a writing r k s m w bytes h z same_key same_signature same-message set pk sig msg room =
    let output = a.1.1.1.1.0.now in
    let p : write_ended (number_of writing.0) writing.1.1.1.1.1.0 ≡ write_outcome h.set key.0.now signature.0.now message.0.now output =
    w.promised
    ∙ ap₂ (λ (n : ℕ) (x : List ℕ). write_outcome n x a.1.1.0.now a.1.1.1.0.now output) set pk
    ∙ ap₂ (λ (x y : List ℕ). write_outcome h.set key.0.now x y output) sig msg in
    let ended = write_what_was_read (lent b.0) (read_ended 0 h) (lent key.0) (lent signature.0) (lent message.0) output (write_ended (number_of writing.0) writing.1.1.1.1.1.0) bytes
    (sym (ap reading_of z) ∙ r.promised) refl (k.promised ∙ ap key_in same_key) (s.promised ∙ ap signature_in same_signature) (m.promised ∙ ap message_in same-message) room p in
    (done_is_ok writing.0 (ap (λ (o : WriteOutcome). o.number) ended), ap (λ (o : WriteOutcome). o.envelope) ended)
