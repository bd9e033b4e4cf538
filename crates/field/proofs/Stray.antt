-- The half byte behind an odd last element: what was read is packed to the same bytes with it set to zero, and a reader ignores it.
-- Assumes nothing.
use mathlib.Core.Path.{◌≡◌, sym, ap, ◌∙◌, subst}
use mathlib.Core.Logic.{⊎_elim}
use mathlib.Core.Bool.{cond}
use mathlib.Core.List.{List}
use Prim.Native.Nat.{ℕ, ◌+◌, ◌*◌, ◌/◌, ◌%◌, ◌<◌}
use native.Mathlib.Decide.{ℕ_discrete}
use native.Mathlib.Omega.{arith}
use borrow.Author.Tests.{eq-eqb, ne_eqb}
use lib.Dec.{eqb}
use lib.ListN.{length, get_or}
use lib.Seq.{ext_get_or}
use Rattle.memory.specs.Lists.{table}
use Rattle.memory.proofs.Lists.{length-table, get_or-table}
use Rattle.field.specs.Packing.{Bytes, pack, packed_length, nib, unpack}
use Rattle.field.proofs.Packing.{Low, High, low_or_high, nib_low, nib_high, nib-even, nib_odd, length-pack, byte_pack, length-unpack, get_or-unpack, get_or-unpack_past, unpack-same}

-- the bytes of n elements with the half byte behind an odd last element set to zero: that byte keeps its low four bits
unfoldable pub stray_cleared : ℕ → List ℕ → List ℕ
stray_cleared n bytes = table (packed_length n) (λ i. cond (eqb (i * 2 + 1) n) (get_or bytes i 0 % 16) (get_or bytes i 0))

-- the byte at a place, where it is not that of an odd last element, and where it is
stray_byte : (n : ℕ) (b : List ℕ) (i : ℕ) → i < packed_length n → ((i * 2 + 1 ≡ n) → ⊥)
    → get_or (stray_cleared n b) i 0 ≡ get_or b i 0
unfolding stray_cleared
stray_byte n b i h ne =
    get_or-table (packed_length n) (λ j. cond (eqb (j * 2 + 1) n) (get_or b j 0 % 16) (get_or b j 0)) i h
    ∙ rw (ne_eqb (i * 2 + 1) n ne)

stray_last : (n : ℕ) (b : List ℕ) (i : ℕ) → i < packed_length n → i * 2 + 1 ≡ n
    → get_or (stray_cleared n b) i 0 ≡ get_or b i 0 % 16
unfolding stray_cleared
stray_last n b i h e =
    get_or-table (packed_length n) (λ j. cond (eqb (j * 2 + 1) n) (get_or b j 0 % 16) (get_or b j 0)) i h
    ∙ rw (eq-eqb (i * 2 + 1) n e)

length_stray : (n : ℕ) (b : List ℕ) → length (stray_cleared n b) ≡ packed_length n
unfolding stray_cleared
length_stray n b = length-table (packed_length n) (λ j. cond (eqb (j * 2 + 1) n) (get_or b j 0 % 16) (get_or b j 0))

-- what was read is packed to the same bytes, but for the stray half byte, which is zero
pub pack-unpack : (n : ℕ) (b : List ℕ) → Bytes b → pack (unpack n b) ≡ stray_cleared n b
unfolding packed_length
pack-unpack n b hb =
    ext_get_or 0 (pack (unpack n b)) (stray_cleared n b) (size ∙ sym (length_stray n b)) (λ i h. entry i (subst (λ (k : ℕ). i < k) size h))
  where
    size : length (pack (unpack n b)) ≡ packed_length n
    size = length-pack (unpack n b) ∙ ap packed_length (length-unpack n b)

    entry : (i : ℕ) → i < packed_length n → get_or (pack (unpack n b)) i 0 ≡ get_or (stray_cleared n b) i 0
    entry i h =
        let byte = byte_pack (unpack n b) i in
        let low = get_or-unpack n b (i * 2) (omega arith) in
        let even = nib-even b i in
        elim (ℕ_discrete (i * 2 + 1) n) as (λ d. get_or (pack (unpack n b)) i 0 ≡ get_or (stray_cleared n b) i 0) [
          | yes y ↦
              (let past = get_or-unpack_past n b (i * 2 + 1) (omega arith) in
              let last = stray_last n b i h y in
              omega arith)
          | no y ↦
              (let high = get_or-unpack n b (i * 2 + 1) (omega arith) in
              let odd = nib_odd b i in
              let same = stray_byte n b i h y in
              let small = hb i in
              omega arith)
        ]

-- a reader ignores the stray half byte
pub unpack_stray : (n : ℕ) (b : List ℕ) → unpack n (stray_cleared n b) ≡ unpack n b
unfolding packed_length
unpack_stray n b = unpack-same n (stray_cleared n b) b (λ i h. ⊎_elim (low i h) (high i h) (low_or_high i))
  where
    low : (i : ℕ) → i < n → Low i → nib (stray_cleared n b) i ≡ nib b i
    low i h l =
        let here = nib_low (stray_cleared n b) i l in
        let there = nib_low b i l in
        let place = l.place in
        elim (ℕ_discrete (i / 2 * 2 + 1) n) as (λ d. nib (stray_cleared n b) i ≡ nib b i) [
          | yes y ↦ (let last = stray_last n b (i / 2) (omega arith) y in omega arith)
          | no y ↦ (let same = stray_byte n b (i / 2) (omega arith) y in omega arith)
        ]

    high : (i : ℕ) → i < n → High i → nib (stray_cleared n b) i ≡ nib b i
    high i h l =
        let here = nib_high (stray_cleared n b) i l in
        let there = nib_high b i l in
        let place = l.place in
        let same = stray_byte n b (i / 2) (omega arith) (omega arith) in
        omega arith
