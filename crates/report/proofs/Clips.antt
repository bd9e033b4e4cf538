-- What the clip program says: every line has room in sixteen bytes; an input that is cut behind 65,536 bytes has the line of the whole. Assumes nothing.
use mathlib.Core.Path.{◌≡◌, refl, sym, ap, ◌∙◌, subst}
use mathlib.Core.List.{List, [], ◌∷◌}
use Prim.Native.Nat.{ℕ, ◌≤◌, ◌<◌, min}
use native.Mathlib.Nat.{min-eq_left, min-eq_right}
use native.Mathlib.Omega.{arith}
use native.Mathlib.Decide.{dec_le, dec_lt, ℕ_discrete}
use lib.ListN.{length, take}
use lib.Seq.{take_all}
use Rattle.std.proofs.lemmas.Bool.Decides.{nat_tests}
use Rattle.field.specs.Packing.{packed_length}
use Rattle.sets.specs.Sets.{S, rows, params_of, public_key_length, signature_length}
use Rattle.refusals.specs.Refusals.{bad_set, differs, or_else}
use Rattle.refusals.proofs.Refusals.{or_else_refused, or_else-done}
use Rattle.envelope.specs.Bits.{bits, spelled, bits_of, field}
use Rattle.envelope.specs.Envelope.{header_of, header_number, read_number, key_bytes, signature_bytes, message_bytes}
use Rattle.envelope.proofs.Cut.{cut_reads_alike}
use Rattle.envelope.proofs.Sizes.{longest, read_right, legal_at_most}
use Rattle.biscuit.specs.Desk.{accept_number}
use Rattle.report.specs.Decimal.{last_digits, decimal}
use Rattle.report.specs.Report.{refused_word, refused_line, said, clip_number, clip_line}
use Rattle.report.proofs.Lines.{refused_fits, genuine_fits}
use Rattle.report.proofs.Outcomes.{said_genuine, said_refused}

-- ---- numbers

clip_small : (e : List ℕ) → clip_number e < 256
unfolding clip_number or_else read_number header_number accept_number
clip_small e = grind (arith, nat_tests)

clip_read : (e : List ℕ) → clip_number e ≡ 0 → read_number e ≡ 0
unfolding clip_number
clip_read e z = let d = or_else-done (read_number e) _ z in d.0

-- ---- every line has room in sixteen bytes

pub line_fits : (e : List ℕ) → length (clip_line e) ≤ 16
unfolding clip_line
line_fits e =
    elim (ℕ_discrete (clip_number e) 0) as (λ d. length (clip_line e) ≤ 16) [
      | yes z ↦ (let right = (read_right e (clip_read e z)).right in
          let known = right.known.to in
          let message = right.message in
          subst (λ (l : List ℕ). length l ≤ 16) (sym (said_genuine (header_of e) (clip_number e) z)) (genuine_fits (header_of e) (omega arith) (omega arith)))
      | no n ↦
          subst (λ (l : List ℕ). length l ≤ 16) (sym (said_refused (header_of e) (clip_number e) n)) (refused_fits (clip_number e) (clip_small e))
    ]

-- ---- an input that is cut

-- the part that is read of a list: its first n entries, or all of them where n is more
pub part_read : (n end most : ℕ) (l : List ℕ) → length l ≡ most → end ≡ min n most → take end l ≡ take n l
part_read n end most l size e =
    elim (dec_le n most) as (λ d. take end l ≡ take n l) [
      | yes h ↦ (let m = e ∙ min-eq_left h in
          ap (λ (k : ℕ). take k l) m)
      | no h ↦ (let m = e ∙ min-eq_right {n = most} {m = n} (omega arith) in
          take_all end l (omega arith) ∙ sym (take_all n l (omega arith)))
    ]

-- "It reads at most 65,536 bytes; a longer input is still longer than any legal envelope": what is cut behind that many bytes has the line of the whole.
pub cut_line : (n : ℕ) (e : List ℕ) → longest < n → clip_line (take n e) ≡ clip_line e
unfolding clip_line clip_number
cut_line n e h =
    elim (dec_lt n (length e)) as (λ d. clip_line (take n e) ≡ clip_line e) [
      | yes l ↦ (let long : read_number e ≡ 0 → ⊥ = (λ z. let a = legal_at_most e z in omega arith) in
          let same = cut_reads_alike n e h in
          let cut : read_number (take n e) ≡ 0 → ⊥ = (λ z. long (sym same ∙ z)) in
          refused (take n e) cut ∙ ap refused_line same ∙ sym (refused e long))
      | no l ↦ ap clip_line (take_all n e (omega arith))
    ]
  where
    refused : (x : List ℕ) → (read_number x ≡ 0 → ⊥) → clip_line x ≡ refused_line (read_number x)
    refused x never =
        let number = or_else_refused (read_number x) (accept_number (header_of x).set (key_bytes x) (message_bytes x) (signature_bytes x)) never in
        said_refused (header_of x) (clip_number x) (λ z. never (sym number ∙ z)) ∙ ap refused_line number

-- ---- "With input bytes 12 00 00 (hexadecimal) its whole output is `refused 10` and a newline"

pub line_of_12_00_00 : clip_line (0x12 ∷ 0 ∷ 0 ∷ []) ≡ 114 ∷ 101 ∷ 102 ∷ 117 ∷ 115 ∷ 101 ∷ 100 ∷ 32 ∷ 49 ∷ 48 ∷ 10 ∷ []
unfolding clip_line clip_number or_else read_number header_number header_of field bits_of bits spelled differs bad_set public_key_length signature_length S packed_length params_of rows said refused_line refused_word decimal last_digits
line_of_12_00_00 = refl
