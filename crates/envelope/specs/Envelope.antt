-- The clip envelope (document 01, "The clip envelope" and "What the desk says"): its header, its bytes, what writing and reading promise, and where the parts lie.
-- `..Before` of an output is what stood there when the call began. Assumes nothing.
use Rattle.std.specs.Prelude.{cond, List, ◌++◌, ℕ, ◌+◌, ◌-◌, eqb, ltb, length, take, drop, Result, Ok, Err}
use Rattle.std.specs.Borrow.{Bor}
use Rattle.sets.specs.Sets.{params_of, public_key_length, signature_length}
use Rattle.refusals.specs.Refusals.{done, no_such_set, message_too_long, key_length_wrong, signature_length_wrong, output_too_short, envelope_length_wrong, envelope_version_wrong, message_limit, bad_set, differs, output_after, refusal_number}
use Rattle.refusals.specs.declared.Refusal.{Refusal}
use Rattle.envelope.specs.declared.Header.{Header}
use Rattle.envelope.specs.declared.Places.{Places}
use Rattle.envelope.specs.Bits.{bits, bytes, field}

-- ---- the header

-- the version that is written, and the only one that is read
abbrev pub the_version : ℕ
the_version = 1

-- the bytes of a header
abbrev pub header_length : ℕ
header_length = 3

abbrev pub header : ℕ → ℕ → ℕ → Header
header version set length = record { version = version; set = set; length = length }

-- "version in 4 bits (1), set in 4, message length in 16"
unfoldable pub header_bytes : Header → List ℕ
header_bytes h = bytes header_length (bits 4 h.version ++ (bits 4 h.set ++ bits 16 h.length))

-- the header that stands at the start of an envelope
unfoldable pub header_of : List ℕ → Header
header_of e = header (field 0 4 (take header_length e)) (field 4 4 (take header_length e)) (field 8 16 (take header_length e))

-- ---- the bytes

-- "Then public key, signature, message, and nothing after"
unfoldable pub envelope_of : ℕ → List ℕ → List ℕ → List ℕ → List ℕ
envelope_of set public_key signature message = header_bytes (header the_version set (length message)) ++ (public_key ++ (signature ++ message))

abbrev pub places : ℕ → ℕ → ℕ → ℕ → Places
places key signature message end = record { key = key; signature = signature; message = message; end = end }

-- where the parts begin behind a header, and where the last ends
abbrev pub placed : Header → Places
placed h =
    let key = public_key_length (params_of h.set) in
    let signature = signature_length (params_of h.set) in
    places header_length (header_length + key) (header_length + key + signature) (header_length + key + signature + h.length)

-- ---- writing

-- the tests of sizes, in order: 1, 3, 4, 5, 6
unfoldable pub write_sizes : ℕ → ℕ → ℕ → ℕ → ℕ → ℕ
write_sizes set public_key signature message room =
    cond (bad_set set) no_such_set
    (cond (ltb message_limit message) message_too_long
    (cond (differs public_key (public_key_length (params_of set))) key_length_wrong
    (cond (differs signature (signature_length (params_of set))) signature_length_wrong
    (cond (ltb room (placed (header the_version set message)).end) output_too_short done))))

-- the number, and what the output holds afterwards
pub record WriteOutcome : Type 0 where
  pub number : ℕ
  pub envelope : List ℕ

-- how the call ended
abbrev pub write_ended : ℕ → List ℕ → WriteOutcome
write_ended number envelope = record { number = number; envelope = envelope }

-- what it promises
unfoldable pub write_outcome : ℕ → List ℕ → List ℕ → List ℕ → List ℕ → WriteOutcome
write_outcome set public_key signature message envelopeBefore =
    let number = write_sizes set (length public_key) (length signature) (length message) (length envelopeBefore) in
    write_ended number (output_after number (envelope_of set public_key signature message) envelopeBefore)

-- ---- reading

-- the tests of a header and of the total length: 11, 1, 3, total (10)
unfoldable pub header_number : Header → ℕ → ℕ
header_number h total =
    cond (differs h.version the_version) envelope_version_wrong
    (cond (bad_set h.set) no_such_set
    (cond (ltb message_limit h.length) message_too_long
    (cond (differs total (placed h).end) envelope_length_wrong done)))

-- "Envelope reading alone tests in an order of its own: under 3 bytes (10), 11, 1, 3, total (10)"
unfoldable pub read_number : List ℕ → ℕ
read_number e = cond (ltb (length e) header_length) envelope_length_wrong (header_number (header_of e) (length e))

-- the number, and the header
pub record Reading : Type 0 where
  pub number : ℕ
  pub header : Header

-- how reading ended
abbrev pub read_ended : ℕ → Header → Reading
read_ended number header = record { number = number; header = header }

-- the reading that an answer stands for
abbrev pub reading_of : Result Header Refusal → Reading
reading_of (Ok h) = read_ended done h
reading_of (Err refusal) = read_ended (refusal_number refusal) (header 0 0 0)

-- what it promises: the number, and the header, on refusal one of zeros
unfoldable pub read_outcome : List ℕ → Reading
read_outcome e = read_ended (read_number e) (cond (eqb (read_number e) done) (header_of e) (header 0 0 0))

-- where the parts lie; on refusal all are 0, so that each is "the part of length 0 at the start"
unfoldable pub places_of : List ℕ → Places
places_of e = cond (eqb (read_number e) done) (placed (header_of e)) (places 0 0 0 0)

-- the bytes from a to e
abbrev pub between : ℕ → ℕ → List ℕ → List ℕ
between a e x = take (e - a) (drop a x)

-- the bytes of the key, of the signature and of the message; none on refusal
unfoldable pub key_bytes : List ℕ → List ℕ
key_bytes e = between (places_of e).key (places_of e).signature e

unfoldable pub signature_bytes : List ℕ → List ℕ
signature_bytes e = between (places_of e).signature (places_of e).message e

unfoldable pub message_bytes : List ℕ → List ℕ
message_bytes e = between (places_of e).message (places_of e).end e

-- ---- "that part of the caller's own bytes"

-- lent bytes: the block of memory they lie in, their place in it, and what they hold
pub record Lent : Type 0 where
  pub block : ℕ
  pub place : ℕ
  pub held : List ℕ

abbrev pub lent : Bor (List ℕ) → Lent
lent x = record { block = x.ref_ptr.0; place = x.ref_ptr.1; held = x.now }

-- the part of lent bytes that begins `at` bytes behind their start and holds these
abbrev pub part : ℕ → List ℕ → Lent → Lent
part at held x = record { block = x.block; place = at + x.place; held = held }

-- the key, the signature and the message of a lent envelope
unfoldable pub key_in : Lent → Lent
key_in x = part (places_of x.held).key (key_bytes x.held) x

unfoldable pub signature_in : Lent → Lent
signature_in x = part (places_of x.held).signature (signature_bytes x.held) x

unfoldable pub message_in : Lent → Lent
message_in x = part (places_of x.held).message (message_bytes x.held) x
