-- How a call ended, from its number: writing that is refused changes nothing, reading that is refused gives a header of zeros.
-- Assumes nothing.
use mathlib.Core.Path.{◌≡◌, refl, sym, ap, ◌∙◌, subst}
use mathlib.Core.List.{List, [], ◌∷◌}
use Prim.Native.Nat.{ℕ, ◌+◌, ◌-◌, ◌≤◌}
use native.Mathlib.Omega.{arith}
use lib.ListN.{length, get_or, drop, length-drop}
use lib.Seq.{length-take-le}
use Rattle.std.proofs.Common.{Result, Ok, Err}
use Rattle.std.proofs.lemmas.Bool.Decides.{nat_tests}
use Rattle.memory.specs.Lists.{over}
use Rattle.sets.specs.Sets.{params_of, public_key_length, signature_length}
use Rattle.refusals.specs.Refusals.{output_after}
use Rattle.refusals.proofs.Numbers.{refusal_from_one, same_refusal}
use Rattle.refusals.proofs.Lent.{output_after_refused, output_after-done}
use Rattle.refusals.specs.declared.Refusal.{Refusal}
use Rattle.envelope.specs.declared.Header.{Header}
use Rattle.envelope.specs.declared.Places.{Places}
use Rattle.envelope.specs.Envelope.{Reading, header_length, header_of, envelope_of, placed, write_sizes, write_ended, write_outcome, header_number, read_number, read_ended, reading_of, read_outcome, places, places_of, between, key_bytes, signature_bytes, message_bytes, Lent, key_in, signature_in, message_in}
use Rattle.envelope.proofs.Sizes.{read_right}

-- ---- writing

module _ (set : ℕ) (pk sig msg before : List ℕ) where
  abbrev sizes : ℕ
  sizes = write_sizes set (length pk) (length sig) (length msg) (length before)

  pub write_refused : (r : ℕ) → r ≡ sizes → (r ≡ 0 → ⊥) → write_ended r before ≡ write_outcome set pk sig msg before
  unfolding write_outcome
  write_refused r e n =
      ap (λ (k : ℕ). write_ended k before) e
      ∙ ap (write_ended sizes) (sym (output_after_refused sizes (envelope_of set pk sig msg) before (λ z. n (e ∙ z))))

  pub write_done : (after : List ℕ) → sizes ≡ 0 → after ≡ over (envelope_of set pk sig msg) before → write_ended 0 after ≡ write_outcome set pk sig msg before
  unfolding write_outcome
  write_done after z e =
      ap (write_ended 0) (e ∙ sym (output_after-done (envelope_of set pk sig msg) before))
      ∙ ap (λ (k : ℕ). write_ended k (output_after k (envelope_of set pk sig msg) before)) (sym z)

-- ---- reading

-- the header is read off the first three bytes
pub headed : (e : List ℕ) → header_length ≤ length e → header_of (get_or e 0 0 ∷ get_or e 1 0 ∷ get_or e 2 0 ∷ []) ≡ header_of e
unfolding header_of
headed [] h = absurd (omega arith)
headed (a ∷ []) h = absurd (omega arith)
headed (a ∷ b ∷ []) h = absurd (omega arith)
headed (a ∷ b ∷ c ∷ e) h = refl

pub read_long : (e : List ℕ) → header_length ≤ length e → read_number e ≡ header_number (header_of e) (length e)
unfolding read_number
read_long e h = grind (arith, nat_tests)

module _ (e : List ℕ) where
  pub read_done : read_number e ≡ 0 → read_ended 0 (header_of e) ≡ read_outcome e
  unfolding read_outcome
  read_done z = grind (arith, nat_tests)

  -- what a reading tells
  pub told_number : (r : Reading) → r ≡ read_outcome e → r.number ≡ read_number e
  unfolding read_outcome
  told_number r told = ap (λ (x : Reading). x.number) told

  pub told_header : (r : Reading) → r ≡ read_outcome e → read_number e ≡ 0 → r.header ≡ header_of e
  told_header r told z = ap (λ (x : Reading). x.header) (told ∙ sym (read_done z))

  pub places_refused : (read_number e ≡ 0 → ⊥) → places_of e ≡ places 0 0 0 0
  unfolding places_of
  places_refused n = grind (arith, nat_tests)

  pub places-done : read_number e ≡ 0 → places_of e ≡ placed (header_of e)
  unfolding places_of
  places-done z = grind (arith, nat_tests)

-- what an answer tells: with the number 0 it is the header
pub read_ok : (r : Result Header Refusal) (h : Header) → reading_of r ≡ read_ended 0 h → r ≡ Ok h
read_ok (Ok k) h told = ap (λ (x : Reading). Ok x.header) told
read_ok (Err refusal) h told =
    let positive = refusal_from_one refusal in
    let number = ap (λ (x : Reading). x.number) told in
    absurd (omega arith)

pub same_reading : (r q : Result Header Refusal) → reading_of r ≡ reading_of q → r ≡ q
same_reading (Ok h) q told = sym (read_ok q h (sym told))
same_reading (Err refusal) (Ok h) told = read_ok (Err refusal) h told
same_reading (Err refusal) (Err other) told = ap Err (same_refusal refusal other (ap (λ (x : Reading). x.number) told))

-- ---- places

-- the parts lie one behind the other inside the bytes
pub record InOrder (p : Places) (n : ℕ) : Type 0 where
  pub key : p.key ≤ p.signature
  pub signature : p.signature ≤ p.message
  pub message : p.message ≤ p.end
  pub inside : p.end ≤ n

pub places_in_order : (e : List ℕ) → InOrder (places_of e) (length e)
unfolding places_of
places_in_order e = grind (arith, nat_tests, read_right)

-- the same of places that a call gave
pub told_in_order : (e : List ℕ) (p : Places) → p ≡ places_of e → InOrder p (length e)
told_in_order e p told = subst (λ (q : Places). InOrder q (length e)) (sym told) (places_in_order e)

-- what the parts that readers hand back hold
pub key_told : (x y : Lent) → y ≡ key_in x → y.held ≡ key_bytes x.held
unfolding key_in
key_told x y e = ap (λ (z : Lent). z.held) e

pub signature_told : (x y : Lent) → y ≡ signature_in x → y.held ≡ signature_bytes x.held
unfolding signature_in
signature_told x y e = ap (λ (z : Lent). z.held) e

pub message_told : (x y : Lent) → y ≡ message_in x → y.held ≡ message_bytes x.held
unfolding message_in
message_told x y e = ap (λ (z : Lent). z.held) e

-- the bytes of the parts where reading says 0: the key and the signature have the set's lengths, and the message the one that the header says
pub record PartsSized (e : List ℕ) : Type 0 where
  pub key : length (key_bytes e) ≡ public_key_length (params_of (header_of e).set)
  pub signature : length (signature_bytes e) ≡ signature_length (params_of (header_of e).set)
  pub message : length (message_bytes e) ≡ (header_of e).length

length-between : (a n : ℕ) (e : List ℕ) → a + n ≤ length e → length (between a (a + n) e) ≡ n
length-between a n e h = length-take-le (a + n - a) (drop a e) (simp length-drop (omega arith)) ∙ (let s : a + n - a ≡ n = omega arith in s)

pub parts_sized : (e : List ℕ) → read_number e ≡ 0 → PartsSized e
unfolding key_bytes signature_bytes message_bytes
parts_sized e z =
    let at = places-done e z in
    let t = (read_right e z).right.total in
    let key = public_key_length (params_of (header_of e).set) in
    let signature = signature_length (params_of (header_of e).set) in
    record {
      key = ap (λ (p : Places). length (between p.key p.signature e)) at ∙ length-between 3 key e (omega arith);
      signature = ap (λ (p : Places). length (between p.signature p.message e)) at ∙ length-between (3 + key) signature e (omega arith);
      message = ap (λ (p : Places). length (between p.message p.end e)) at ∙ length-between (3 + key + signature) (header_of e).length e (omega arith);
    }
