-- Sums of packed vectors: the bytes of a sum are the sums of the bytes, so packed vectors are added byte by byte and read back as the sum.
-- Assumes nothing.
use mathlib.Core.Path.{◌≡◌, sym, ap, ap₂, ◌∙◌}
use mathlib.Core.Logic.{⊎_elim}
use mathlib.Core.List.{List}
use Prim.Native.Nat.{ℕ, ◌+◌, ◌*◌, ◌/◌, ◌%◌, ◌<◌}
use native.Mathlib.Omega.{arith}
use lib.Bits.{bit_xor, xor_mod, xor_shr, xor_block}
use lib.ListN.{length}
use lib.Seq.{ext_get_or}
use Rattle.field.specs.Packing.{pack, packed_length, nib, unpack}
use Rattle.field.specs.Vectors.{◌!◌, ◌⊕◌}
use Rattle.field.proofs.Laws.{low_lt}
use Rattle.field.proofs.Packing.{Low, High, low_or_high, nib_low, nib_high, joined, length-pack, byte_pack, length-unpack, get_or-unpack}
use Rattle.field.proofs.Vectors.{⊕-at, length_⊕}

-- four bits of a sum of bytes
pub nib_⊕ : (b c : List ℕ) (i : ℕ) → nib (b ⊕ c) i ≡ bit_xor (nib b i) (nib c i)
nib_⊕ b c i = ⊎_elim low high (low_or_high i)
  where
    low : Low i → nib (b ⊕ c) i ≡ bit_xor (nib b i) (nib c i)
    low l =
        nib_low (b ⊕ c) i l ∙ ap (λ (x : ℕ). x % 16) (⊕-at b c (i / 2)) ∙ xor_mod (b ! (i / 2)) (c ! (i / 2)) 4
        ∙ sym (ap₂ bit_xor (nib_low b i l) (nib_low c i l))

    high : High i → nib (b ⊕ c) i ≡ bit_xor (nib b i) (nib c i)
    high h =
        nib_high (b ⊕ c) i h ∙ ap (λ (x : ℕ). x / 16 % 16) (⊕-at b c (i / 2))
        ∙ ap (λ (x : ℕ). x % 16) (xor_shr (b ! (i / 2)) (c ! (i / 2)) 4)
        ∙ xor_mod (b ! (i / 2) / 16) (c ! (i / 2) / 16) 4
        ∙ sym (ap₂ bit_xor (nib_high b i h) (nib_high c i h))

pub unpack_⊕ : (n : ℕ) (b c : List ℕ) → unpack n (b ⊕ c) ≡ unpack n b ⊕ unpack n c
unpack_⊕ n b c = ext_get_or 0 (unpack n (b ⊕ c)) (unpack n b ⊕ unpack n c) size (λ i h. entry i (let e = length-unpack n (b ⊕ c) in omega arith))
  where
    size : length (unpack n (b ⊕ c)) ≡ length (unpack n b ⊕ unpack n c)
    size =
        let x = length-unpack n (b ⊕ c) in
        let y = length-unpack n b in
        let z = length-unpack n c in
        let s = length_⊕ (unpack n b) (unpack n c) in
        omega arith

    entry : (i : ℕ) → i < n → unpack n (b ⊕ c) ! i ≡ (unpack n b ⊕ unpack n c) ! i
    entry i h =
        get_or-unpack n (b ⊕ c) i h ∙ nib_⊕ b c i
        ∙ sym (⊕-at (unpack n b) (unpack n c) i ∙ ap₂ bit_xor (get_or-unpack n b i h) (get_or-unpack n c i h))

-- a byte of two sums is the sum of the bytes
joined_xor : (a b c d : ℕ) → joined (bit_xor a c) (bit_xor b d) ≡ bit_xor (joined a b) (joined c d)
unfolding joined
joined_xor a b c d =
    ap₂ (λ (x y : ℕ). x + 16 * y) (xor_mod a c 4) (xor_mod b d 4)
    ∙ turned (bit_xor (a % 16) (c % 16)) (bit_xor (b % 16) (d % 16))
    ∙ sym (xor_block 4 (b % 16) (d % 16) (a % 16) (c % 16) (low_lt a) (low_lt c))
    ∙ sym (ap₂ bit_xor (turned (a % 16) (b % 16)) (turned (c % 16) (d % 16)))
  where
    turned : (x y : ℕ) → x + 16 * y ≡ y * 16 + x
    turned x y = omega arith

-- the packing of a sum is the sum of the packings
pub pack_⊕ : (u v : List ℕ) → pack (u ⊕ v) ≡ pack u ⊕ pack v
unfolding packed_length joined
pack_⊕ u v = ext_get_or 0 (pack (u ⊕ v)) (pack u ⊕ pack v) size (λ i h. entry i)
  where
    size : length (pack (u ⊕ v)) ≡ length (pack u ⊕ pack v)
    size =
        let x = length-pack (u ⊕ v) in
        let y = length-pack u in
        let z = length-pack v in
        let s = length_⊕ u v in
        let t = length_⊕ (pack u) (pack v) in
        omega arith

    entry : (i : ℕ) → pack (u ⊕ v) ! i ≡ (pack u ⊕ pack v) ! i
    entry i =
        byte_pack (u ⊕ v) i
        ∙ ap₂ joined (⊕-at u v (i * 2)) (⊕-at u v (i * 2 + 1))
        ∙ joined_xor (u ! (i * 2)) (u ! (i * 2 + 1)) (v ! (i * 2)) (v ! (i * 2 + 1))
        ∙ sym (⊕-at (pack u) (pack v) i ∙ ap₂ bit_xor (byte_pack u i) (byte_pack v i))
