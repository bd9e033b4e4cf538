-- An input that is cut behind more bytes than any legal envelope has is read like the whole: it is still longer than any legal envelope.
-- Assumes nothing.
use mathlib.Core.Path.{◌≡◌, sym, ap, ap₂, ◌∙◌}
use mathlib.Core.List.{List}
use Prim.Native.Nat.{ℕ, ◌≤◌, ◌<◌}
use native.Mathlib.Omega.{arith}
use native.Mathlib.Decide.{dec_lt}
use lib.ListN.{length, take}
use lib.Seq.{take_all, take-take, length-take-le}
use Rattle.std.proofs.lemmas.Bool.Decides.{nat_tests}
use Rattle.refusals.specs.Refusals.{differs}
use Rattle.envelope.specs.declared.Header.{Header}
use Rattle.envelope.specs.Bits.{field}
use Rattle.envelope.specs.Envelope.{header, header_of, header_number, read_number}
use Rattle.envelope.proofs.Outcomes.{read_long}
use Rattle.envelope.proofs.Sizes.{longest, public_key_small, signature_small}

-- a header with two lengths that are both too long for it
too_long_alike : (h : Header) (m n : ℕ) → longest < m → longest < n → header_number h m ≡ header_number h n
unfolding header_number differs
too_long_alike h m n f g =
    let p = public_key_small h.set in
    let q = signature_small h.set in
    grind (arith, nat_tests)

-- the header of what is left
header_of_cut : (n : ℕ) (e : List ℕ) → 3 ≤ n → header_of (take n e) ≡ header_of e
unfolding header_of
header_of_cut n e h = ap (λ (l : List ℕ). header (field 0 4 l) (field 4 4 l) (field 8 16 l)) (take-take 3 n e h)

-- "It reads at most 65,536 bytes; a longer input is still longer than any legal envelope"
pub cut_reads_alike : (n : ℕ) (e : List ℕ) → longest < n → read_number (take n e) ≡ read_number e
cut_reads_alike n e h =
    elim (dec_lt n (length e)) as (λ d. read_number (take n e) ≡ read_number e) [
      | yes l ↦ (let size : length (take n e) ≡ n = length-take-le n e (omega arith) in
          read_long (take n e) (omega arith)
          ∙ ap₂ header_number (header_of_cut n e (omega arith)) size
          ∙ too_long_alike (header_of e) n (length e) h (omega arith)
          ∙ sym (read_long e (omega arith)))
      | no l ↦ ap read_number (take_all n e (omega arith))
    ]
