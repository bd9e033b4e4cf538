-- Words and the eight bytes that they are read from and written to: lane q of the word is the q-th four bits of the bytes.
-- Assumes nothing.
use mathlib.Core.Path.{◌≡◌, sym, ap, ◌∙◌}
use mathlib.Core.List.{List, [], ◌∷◌, ◌++◌}
use Prim.Native.Nat.{ℕ, zero, suc, ◌+◌, ◌-◌, ◌*◌, ◌/◌, ◌%◌, ◌^◌, ◌≤◌, ◌<◌}
use native.Mathlib.Nat.{zero-div, div-one, mod-lt}
use native.Mathlib.Omega.{arith}
use lib.Dec.{lit<}
use lib.ListN.{length, get_or, take, drop}
use Rattle.std.specs.Int.{w64, from_le_bytes, to_le_bytes}
use lib.Pow.{shr-shr}
use lib.Seq.{drop-drop}
use Rattle.memory.specs.Lists.{table, put}
use Rattle.memory.proofs.Bits.{one_bit}
use Rattle.memory.proofs.Lists.{get_or-table, length-table, table_of}
use Rattle.memory.proofs.Parts.{lent-put, length-lent, get_d_part, drop-put, get_or-put-before, get_or-put_in, get_or-put_after}
use Rattle.field.specs.Packing.{nib}
use Rattle.lanes.specs.Lanes.{lane, word_bytes, WordAt}
use Rattle.lanes.proofs.Laws.{lane-zero}

-- the number of a list of bytes, the lowest first
little : List ℕ → ℕ
little [] = 0
little (b ∷ bs) = b + 256 * little bs

abbrev Bytes : List ℕ → Type 0
Bytes [] = Unit
Bytes (b ∷ bs) = (b < 256) × Bytes bs

lane-little : (bs : List ℕ) → Bytes bs → (q : ℕ) → lane q (little bs) ≡ nib bs q
unfolding little lane nib
lane-little [] h q = lane-zero q ∙ sym (ap (λ (n : ℕ). n % 16) (zero-div (16 ^ (q % 2))))
lane-little (b ∷ bs) h zero = omega arith
lane-little (b ∷ bs) h (suc zero) = omega arith
lane-little (b ∷ bs) h (suc (suc q)) =
    let l : b < 256 = h.0 in
    let e : 4 * suc (suc q) ≡ 8 + 4 * q = omega arith in
    let f : suc (suc q) / 2 ≡ suc (q / 2) = omega arith in
    let g : suc (suc q) % 2 ≡ q % 2 = omega arith in
    let d : (b + 256 * little bs) / 2 ^ 8 ≡ little bs = omega arith in
    rw (e, f, g) (ap (λ (n : ℕ). n % 16) (sym (shr-shr (b + 256 * little bs) 8 (4 * q)) ∙ ap (λ (n : ℕ). n / 2 ^ (4 * q)) d)
    ∙ lane-little bs h.1 q)

-- eight bytes by their rule, summed up as the library does
le_little : (f : ℕ → ℕ) → from_le_bytes w64 (table 8 f) ≡ little (table 8 f)
unfolding little table
le_little f = omega arith

-- the word of the eight bytes of a list from the place `at` on, which were copied to `word`
pub read_lanes : (bytes : List ℕ) (at : ℕ) (word : List ℕ) → ((i : ℕ) → get_or bytes i 0 < 256) → at + 8 ≤ length bytes
    → word ≡ take (at + 8 - at) (drop at bytes) → WordAt bytes at (from_le_bytes w64 word)
unfolding WordAt nib table
read_lanes bytes at word small fits e q h =
    let f : at + q / 2 ≡ (2 * at + q) / 2 = omega arith in
    let g : (2 * at + q) % 2 ≡ q % 2 = omega arith in
    ap (λ (l : List ℕ). lane q (from_le_bytes w64 l)) (e ∙ part)
    ∙ ap (lane q) (le_little byte)
    ∙ lane-little (table 8 byte) bounded q
    ∙ ap (λ (n : ℕ). n / 16 ^ (q % 2) % 16) (get_or-table 8 byte (q / 2) (omega arith))
    ∙ rw (f, g)
  where
    byte : ℕ → ℕ
    byte i = get_or bytes (at + i) 0

    part : take (at + 8 - at) (drop at bytes) ≡ table 8 byte
    part =
        let n = length-lent bytes at (at + 8) (omega arith) fits in
        table_of _ 8 byte (omega arith) (λ i l. get_d_part bytes at (at + 8) i (omega arith))

    bounded : Bytes (table 8 byte)
    bounded = (small _, (small _, (small _, (small _, (small _, (small _, (small _, (small _, tt))))))))

-- the bytes of a word hold its lanes
pub nib-word_bytes : (w q : ℕ) → q < 16 → nib (word_bytes w) q ≡ lane q w
unfolding nib word_bytes lane
nib-word_bytes w q h =
    let e : 8 * (q / 2) + 4 * (q % 2) ≡ 4 * q = omega arith in
    ap (λ (n : ℕ). n / 16 ^ (q % 2) % 16) (get_or-table 8 (λ i. w / 2 ^ (8 * i) % 256) (q / 2) (omega arith))
    ∙ half (w / 2 ^ (8 * (q / 2))) (q % 2) (mod-lt q (lit< tt))
    ∙ ap (λ (n : ℕ). n % 16) (shr-shr w (8 * (q / 2)) (4 * (q % 2)) ∙ ap (λ (n : ℕ). w / 2 ^ n) e)
  where
    half : (a b : ℕ) → b < 2 → a % 256 / 16 ^ b % 16 ≡ a / 2 ^ (4 * b) % 16
    half a b h = one_bit (λ (b : ℕ). a % 256 / 16 ^ b % 16 ≡ a / 2 ^ (4 * b) % 16) (omega arith) (omega arith) b h

pub length-word_bytes : (w : ℕ) → length (word_bytes w) ≡ 8
unfolding word_bytes
length-word_bytes w = length-table 8 (λ i. w / 2 ^ (8 * i) % 256)

-- the eight bytes that the library makes of a word, put into a list
pub lent_word : (l : List ℕ) (at w : ℕ) (new : List ℕ) → new ≡ to_le_bytes w64 w → take at l ++ (new ++ drop (at + 8 - at) (drop at l)) ≡ put l at (word_bytes w)
unfolding word_bytes table
lent_word l at w new e =
    let made : to_le_bytes w64 w ≡ word_bytes w = rw (div-one w) in
    let size : 8 ≡ at + 8 - at = omega arith in
    lent-put l at (at + 8) new (ap length e ∙ size) ∙ ap (put l at) (e ∙ made)

-- ---- a part of bytes, by elements

module _ (old : List ℕ) (at : ℕ) (new : List ℕ) (fits : at + length new ≤ length old) where
  pub nib-put-before : (i : ℕ) → i < 2 * at → nib (put old at new) i ≡ nib old i
  unfolding nib
  nib-put-before i h = ap (λ (n : ℕ). n / 16 ^ (i % 2) % 16) (get_or-put-before old at new fits (i / 2) (omega arith))

  pub nib-put_in : (i : ℕ) → i < 2 * length new → nib (put old at new) (2 * at + i) ≡ nib new i
  unfolding nib
  nib-put_in i h =
      let f : (2 * at + i) / 2 ≡ at + i / 2 = omega arith in
      let g : (2 * at + i) % 2 ≡ i % 2 = omega arith in
      rw (f, g) (ap (λ (n : ℕ). n / 16 ^ (i % 2) % 16) (get_or-put_in old at new fits (i / 2) (omega arith)))

  pub nib-put_after : (i : ℕ) → 2 * (at + length new) ≤ i → nib (put old at new) i ≡ nib old i
  unfolding nib
  nib-put_after i h = ap (λ (n : ℕ). n / 16 ^ (i % 2) % 16) (get_or-put_after old at new fits (i / 2) (omega arith))

-- a word put into bytes is there, lane by lane
pub nib-put_word : (old : List ℕ) (at w i : ℕ) → at + 8 ≤ length old → i < 16 → nib (put old at (word_bytes w)) (2 * at + i) ≡ lane i w
nib-put_word old at w i fits h =
    let n = length-word_bytes w in
    nib-put_in old at (word_bytes w) (omega arith) i (omega arith) ∙ nib-word_bytes w i h

-- what lies behind the words is kept
pub put-behind : (out : List ℕ) (at n w : ℕ) → at + 8 ≤ n → at + 8 ≤ length out → drop n (put out at (word_bytes w)) ≡ drop n out
put-behind out at n w h fits =
    let c = length-word_bytes w in
    let e : n ≡ at + length (word_bytes w) + (n - (at + length (word_bytes w))) = omega arith in
    let rest = n - (at + length (word_bytes w)) in
    ap (λ (k : ℕ). drop k (put out at (word_bytes w))) e
    ∙ sym (drop-drop rest (at + length (word_bytes w)) (put out at (word_bytes w)))
    ∙ ap (drop rest) (drop-put out at (word_bytes w) (omega arith))
    ∙ drop-drop rest (at + length (word_bytes w)) out ∙ ap (λ (k : ℕ). drop k out) (sym e)
