-- Round trips over what the calls promise, as equations to their outcomes: what was written with the number 0 is read back, whatever stood behind it in the output; and what was read with
-- the number 0 is written as the same bytes. `EveryEnvelope` says it of the contracts themselves. Assumes nothing.
use mathlib.Core.Path.{◌≡◌, refl, sym, ap, ap₂, ◌∙◌, subst}
use mathlib.Core.List.{List, [], ◌++◌, append_assoc, append-nil}
use Prim.Native.Nat.{ℕ, ◌+◌, ◌-◌, ◌≤◌}
use native.Mathlib.Omega.{arith}
use lib.Dec.{lit<}
use lib.ListN.{length, get_or, take, drop, length-append}
use lib.Seq.{take_at, drop_at}
use Rattle.memory.specs.Lists.{over}
use Rattle.memory.proofs.Parts.{over_fits}
use Rattle.field.specs.Packing.{Bytes}
use Rattle.sets.specs.Sets.{params_of, public_key_length, signature_length}
use Rattle.envelope.specs.declared.Header.{Header}
use Rattle.envelope.specs.declared.Places.{Places}
use Rattle.envelope.specs.Envelope.{Reading, the_version, header, header_bytes, header_of, envelope_of, placed, WriteOutcome, write_ended, write_outcome, read_number, read_ended, read_outcome, places_of, between, key_bytes, signature_bytes, message_bytes, Lent, key_in, signature_in, message_in}
use Rattle.envelope.proofs.Heading.{header_of_append, header_read_back, header-written_back}
use Rattle.envelope.proofs.Laid.{length-header, length-envelope, first_three, cut_in_four}
use Rattle.envelope.proofs.Outcomes.{headed, write_done, read_done, places-done, told_number, told_header, key_told, signature_told, message_told, parts_sized}
use Rattle.envelope.proofs.Sizes.{WriteRight, write_right, right_write, HeaderRight, read_right, right_read}

-- ---- a part that stands in a list

standing : (a b c : List ℕ) (i j : ℕ) → length a ≡ i → i + length b ≡ j → take (j - i) (drop i (a ++ (b ++ c))) ≡ b
standing a b c i j e f = ap (take (j - i)) (drop_at a (b ++ c) i e) ∙ take_at b c (j - i) (omega arith)

-- ---- what was written

-- what a writing call found and wrote
pub record Written (set : ℕ) (pk sig msg envelopeBefore : List ℕ) (ended : WriteOutcome) : Type 0 where
  pub sizes : WriteRight set (length pk) (length sig) (length msg) (length envelopeBefore)
  pub bytes : take (placed (header the_version set (length msg))).end ended.envelope ≡ envelope_of set pk sig msg

pub written_with_0 : (set : ℕ) (pk sig msg envelopeBefore : List ℕ) (ended : WriteOutcome)
    → ended ≡ write_outcome set pk sig msg envelopeBefore → ended.number ≡ 0 → Written set pk sig msg envelopeBefore ended
unfolding write_outcome
written_with_0 set pk sig msg envelopeBefore ended p z =
    let zero = sym (ap (λ (o : WriteOutcome). o.number) p) ∙ z in
    let right = write_right set (length pk) (length sig) (length msg) (length envelopeBefore) zero in
    let size : length (envelope_of set pk sig msg) ≡ (placed (header the_version set (length msg))).end =
    (let l = length-envelope set pk sig msg in let a = right.public_key in let b = right.signature in omega arith) in
    let room : length (envelope_of set pk sig msg) ≤ length envelopeBefore = (let r = right.room in omega arith) in
    record {
      sizes = right;
      bytes =
          ap (λ (o : WriteOutcome). take (placed (header the_version set (length msg))).end o.envelope) (p ∙ sym (write_done set pk sig msg envelopeBefore _ zero refl))
          ∙ ap (take (placed (header the_version set (length msg))).end) (over_fits (envelope_of set pk sig msg) envelopeBefore room)
          ∙ take_at (envelope_of set pk sig msg) (drop (length (envelope_of set pk sig msg)) envelopeBefore) _ size;
    }

-- ---- what was written is read back

-- what reading says of x where it holds the envelope of these parts: the header, and the parts themselves
pub record ReadBack (set : ℕ) (pk sig msg : List ℕ) (x : Lent) : Type 0 where
  pub reading : read_outcome x.held ≡ read_ended 0 (header the_version set (length msg))
  pub key : (key_in x).held ≡ pk
  pub signature : (signature_in x).held ≡ sig
  pub message : (message_in x).held ≡ msg

module _ (set : ℕ) (pk sig msg : List ℕ) (n : ℕ) (right : WriteRight set (length pk) (length sig) (length msg) n) where
  abbrev whole : List ℕ
  whole = envelope_of set pk sig msg

  abbrev head : List ℕ
  head = header_bytes (header the_version set (length msg))

  header_in_whole : header_of whole ≡ header the_version set (length msg)
  unfolding envelope_of
  header_in_whole =
      header_of_append head (pk ++ (sig ++ msg)) (length-header 1 set (length msg))
      ∙ header_read_back 1 set (length msg) (lit< tt) (let k = right.known.to in omega arith) (let m = right.message in omega arith)

  read_whole : read_number whole ≡ 0
  read_whole =
      let size = length-envelope set pk sig msg in
      let p = right.public_key in
      let q = right.signature in
      right_read whole (
      record {
        long = omega arith;
        right = subst (λ (h : Header). HeaderRight h (length whole)) (sym header_in_whole) (
            record { version = refl; known = right.known; message = right.message; total = omega arith }
            );
      }
      )

  places_in_whole : places_of whole ≡ placed (header the_version set (length msg))
  places_in_whole = places-done whole read_whole ∙ ap placed header_in_whole

  whole_read_back : (x : Lent) → x.held ≡ whole → ReadBack set pk sig msg x
  unfolding key_in signature_in message_in key_bytes signature_bytes message_bytes envelope_of
  whole_read_back x e =
      let h = length-header 1 set (length msg) in
      let p = right.public_key in
      let q = right.signature in
      let at = ap places_of e ∙ places_in_whole in
      let last : head ++ (pk ++ (sig ++ msg)) ≡ (head ++ (pk ++ sig)) ++ (msg ++ []) = simp (append_assoc, append-nil) in
      record {
        reading = ap read_outcome e ∙ sym (read_done whole read_whole) ∙ ap (read_ended 0) header_in_whole;
        key =
            ap₂ (λ (w : Places) (l : List ℕ). between w.key w.signature l) at e
            ∙ standing head pk (sig ++ msg) 3 (3 + public_key_length (params_of set)) h (omega arith);
        signature =
            ap₂ (λ (w : Places) (l : List ℕ). between w.signature w.message l) at (e ∙ sym (append_assoc head pk (sig ++ msg)))
            ∙ standing (head ++ pk) sig msg (3 + public_key_length (params_of set)) (3 + public_key_length (params_of set) + signature_length (params_of set)) (simp length-append (omega arith)) (omega arith);
        message =
            ap₂ (λ (w : Places) (l : List ℕ). between w.message w.end l) at (e ∙ last)
            ∙ standing (head ++ (pk ++ sig)) msg [] (3 + public_key_length (params_of set) + signature_length (params_of set)) (3 + public_key_length (params_of set) + signature_length (params_of set) + length msg) (simp length-append (omega arith)) (omega arith);
      }

-- What was written with the number 0 is read back: reading the bytes that were written, whatever stands behind them in the output, says 0 and the header, and hands back
-- the key, the signature and the message.
pub read_what_was_written : (set : ℕ) (pk sig msg envelopeBefore : List ℕ) (writing : WriteOutcome)
    → writing ≡ write_outcome set pk sig msg envelopeBefore → writing.number ≡ 0
    → (x : Lent) → x.held ≡ take (placed (header the_version set (length msg))).end writing.envelope → ReadBack set pk sig msg x
read_what_was_written set pk sig msg envelopeBefore writing p z x e =
    let w = written_with_0 set pk sig msg envelopeBefore writing p z in
    whole_read_back set pk sig msg (length envelopeBefore) w.sizes x (e ∙ w.bytes)

-- ---- what was read is written again

module _ (e : List ℕ) (legal : read_number e ≡ 0) where
  abbrev right : HeaderRight (header_of e) (length e)
  right = (read_right e legal).right

  abbrev at : Places
  at = placed (header_of e)

  -- what was read has the sizes that writing asks for
  parts_right : (n : ℕ) → length e ≤ n → WriteRight (header_of e).set (length (key_bytes e)) (length (signature_bytes e)) (length (message_bytes e)) n
  parts_right n h =
      let size = parts_sized e legal in
      let l = size.message in
      let m = right.message in
      let t = right.total in
      record { known = right.known; message = omega arith; public_key = size.key; signature = size.signature; room = omega arith }

  module _ (whole-bytes : Bytes e) where
    header_again : header_bytes (header the_version (header_of e).set (length (message_bytes e))) ≡ take 3 e
    header_again =
        ap₂ (λ (v l : ℕ). header_bytes (header v (header_of e).set l)) (sym right.version) (parts_sized e legal).message
        ∙ ap header_bytes (sym (headed e (read_right e legal).long))
        ∙ header-written_back (get_or e 0 0) (get_or e 1 0) (get_or e 2 0) (whole-bytes 0) (whole-bytes 1) (whole-bytes 2)
        ∙ sym (first_three e (read_right e legal).long)

    envelope_again : envelope_of (header_of e).set (key_bytes e) (signature_bytes e) (message_bytes e) ≡ e
    unfolding envelope_of key_bytes signature_bytes message_bytes
    envelope_again =
        ap (λ (l : List ℕ). l ++ (key_bytes e ++ (signature_bytes e ++ message_bytes e))) header_again
        ∙ ap (λ (p : Places). take 3 e ++ (between p.key p.signature e ++ (between p.signature p.message e ++ between p.message p.end e))) (places-done e legal)
        ∙ cut_in_four e 3 at.signature at.message at.end (omega arith) (omega arith) (omega arith) right.total

-- What was read with the number 0 is written as the same bytes: writing the key, the signature and the message that the readers hand back, for the set of the header that was
-- read, into an output with room, has the number 0, and the output then holds the bytes that were read first, and its later bytes unchanged.
pub write_what_was_read : (x : Lent) (reading : Reading) (key signature message : Lent) (envelopeBefore : List ℕ) (writing : WriteOutcome) → Bytes x.held
    → reading ≡ read_outcome x.held → reading.number ≡ 0 → key ≡ key_in x → signature ≡ signature_in x → message ≡ message_in x → length x.held ≤ length envelopeBefore
    → writing ≡ write_outcome reading.header.set key.held signature.held message.held envelopeBefore
    → writing ≡ write_ended 0 (over x.held envelopeBefore)
write_what_was_read x reading key signature message envelopeBefore writing b told z k s m room p =
    let e = x.held in
    let legal = sym (told_number e reading told) ∙ z in
    let set = ap (λ (h : Header). h.set) (told_header e reading told legal) in
    let k' = key_told x key k in
    let s' = signature_told x signature s in
    let m' = message_told x message m in
    let same : write_outcome reading.header.set key.held signature.held message.held envelopeBefore
    ≡ write_outcome (header_of e).set (key_bytes e) (signature_bytes e) (message_bytes e) envelopeBefore = cc in
    p ∙ same
    ∙ sym (write_done (header_of e).set (key_bytes e) (signature_bytes e) (message_bytes e) envelopeBefore (over e envelopeBefore)
    (right_write _ _ _ _ _ (parts_right e legal (length envelopeBefore) room))
    (ap (λ (l : List ℕ). over l envelopeBefore) (sym (envelope_again e legal b))))
