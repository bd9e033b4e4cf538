-- The laws of packing: lengths, what stands in each byte and each half byte, reading back what was written,
-- and packing a concatenation. They hold of all lists; where elements or bytes are asked for, the premise says so.
-- Assumes nothing.
use mathlib.Core.Path.{◌≡◌, refl, sym, ap, ap₂, ◌∙◌}
use mathlib.Core.Logic.{◌⊎◌, inl, inr, ⊎_elim}
use mathlib.Core.List.{List, [], ◌∷◌, ◌++◌}
use Prim.Native.Nat.{ℕ, zero, suc, ◌+◌, ◌*◌, ◌/◌, ◌%◌, ◌^◌, ◌<◌, ◌≤◌}
use native.Mathlib.Nat.{mod-lt, mod-eq_of_lt, zero-div}
use native.Mathlib.Decide.{ℕ_discrete, dec_lt}
use native.Mathlib.Omega.{arith}
use lib.Dec.{lit<}
use lib.ListN.{length, get_or, take, drop, replicate, get_or-append, get_or-eq_default}
use lib.Seq.{ext_get_or, get_or-append-add, get_or-take, get_or-drop}
use Rattle.memory.proofs.Lists.{length-table, get_or-table, table_of, table_same, table-add}
use Rattle.memory.proofs.Xors.{get_or_zeros}
use Rattle.field.specs.Packing.{Elements, Bytes, pack, packed_length, nib, unpack}

-- ---- even and odd places

-- a place in the low half of a byte, or in the high half
pub record Low (i : ℕ) : Type 0 where
  pub place : i / 2 * 2 ≡ i
  pub half : i % 2 ≡ 0

pub record High (i : ℕ) : Type 0 where
  pub place : i / 2 * 2 + 1 ≡ i
  pub half : i % 2 ≡ 1

pub low_of : (i : ℕ) → i % 2 ≡ 0 → Low i
low_of i h = record { place = omega arith; half = h }

pub high_of : (i : ℕ) → (i % 2 ≡ 0 → ⊥) → High i
high_of i h = record { place = omega arith; half = omega arith }

pub low_or_high : (i : ℕ) → Low i ⊎ High i
low_or_high i = elim (ℕ_discrete (i % 2) 0) as (λ d. Low i ⊎ High i) [ yes y ↦ inl (low_of i y) | no y ↦ inr (high_of i y) ]

-- ---- four bits of a list of bytes

pub nib-lt : (b : List ℕ) (i : ℕ) → nib b i < 16
unfolding nib
nib-lt b i = mod-lt (get_or b (i / 2) 0 / 16 ^ (i % 2)) (lit< tt)

pub nib_low : (b : List ℕ) (i : ℕ) → Low i → nib b i ≡ get_or b (i / 2) 0 % 16
unfolding nib
nib_low b i l = rw l.half (omega arith)

pub nib_high : (b : List ℕ) (i : ℕ) → High i → nib b i ≡ get_or b (i / 2) 0 / 16 % 16
unfolding nib
nib_high b i h = rw h.half

-- the two halves of a byte, by the byte's place
pub nib-even : (b : List ℕ) (i : ℕ) → nib b (i * 2) ≡ get_or b i 0 % 16
nib-even b i =
    let e : i * 2 / 2 ≡ i = omega arith in
    nib_low b (i * 2) (record { place = omega arith; half = omega arith }) ∙ ap (λ (k : ℕ). get_or b k 0 % 16) e

pub nib_odd : (b : List ℕ) (i : ℕ) → nib b (i * 2 + 1) ≡ get_or b i 0 / 16 % 16
nib_odd b i =
    let e : (i * 2 + 1) / 2 ≡ i = omega arith in
    nib_high b (i * 2 + 1) (record { place = omega arith; half = omega arith }) ∙ ap (λ (k : ℕ). get_or b k 0 / 16 % 16) e

-- past the end of the bytes
pub nib_past : (b : List ℕ) (i : ℕ) → length b ≤ i / 2 → nib b i ≡ 0
unfolding nib
nib_past b i h = ap (λ (x : ℕ). x / 16 ^ (i % 2) % 16) (get_or-eq_default b 0 h) ∙ ap (λ (x : ℕ). x % 16) (zero-div (16 ^ (i % 2)))

-- zeros hold zeros
pub nib_zeros : (n i : ℕ) → nib (replicate n 0) i ≡ 0
unfolding nib
nib_zeros n i = ap (λ (x : ℕ). x / 16 ^ (i % 2) % 16) (get_or_zeros n (i / 2)) ∙ ap (λ (x : ℕ). x % 16) (zero-div (16 ^ (i % 2)))

-- in a part of the bytes, and in bytes put one after the other
pub nib-take : (k : ℕ) (b : List ℕ) (i : ℕ) → i < k * 2 → nib (take k b) i ≡ nib b i
unfolding nib
nib-take k b i h = ap (λ (x : ℕ). x / 16 ^ (i % 2) % 16) (get_or-take k b (i / 2) 0 (omega arith))

pub nib-drop : (k : ℕ) (b : List ℕ) (i : ℕ) → nib (drop k b) i ≡ nib b (k * 2 + i)
unfolding nib
nib-drop k b i =
    let d : (k * 2 + i) / 2 ≡ k + i / 2 = omega arith in
    let m : (k * 2 + i) % 2 ≡ i % 2 = omega arith in
    rw (get_or-drop k b (i / 2) 0, d, m)

pub nib-append_left : (b c : List ℕ) (i : ℕ) → i < length b * 2 → nib (b ++ c) i ≡ nib b i
unfolding nib
nib-append_left b c i h = ap (λ (x : ℕ). x / 16 ^ (i % 2) % 16) (get_or-append b c 0 (i / 2) (omega arith))

pub nib-append_right : (b c : List ℕ) (i : ℕ) → nib (b ++ c) (length b * 2 + i) ≡ nib c i
unfolding nib
nib-append_right b c i =
    let d : (length b * 2 + i) / 2 ≡ length b + i / 2 = omega arith in
    let m : (length b * 2 + i) % 2 ≡ i % 2 = omega arith in
    rw (d, m, get_or-append-add b c (i / 2) 0)

-- half bytes and length fix a list of bytes
pub bytes_by_halves : (a b : List ℕ) → Bytes a → Bytes b → length a ≡ length b → ((j : ℕ) → j < 2 * length a → nib a j ≡ nib b j) → a ≡ b
bytes_by_halves a b ha hb e h = ext_get_or 0 a b e (λ i l. entry i l)
  where
    entry : (i : ℕ) → i < length a → get_or a i 0 ≡ get_or b i 0
    entry i l =
        let x = h (i * 2) (omega arith) in
        let y = h (i * 2 + 1) (omega arith) in
        let p = nib-even a i in
        let q = nib-even b i in
        let r = nib_odd a i in
        let s = nib_odd b i in
        let t = ha i in
        let u = hb i in
        omega arith

-- ---- packing

-- the size as the code works it out
pub half_up : (n : ℕ) → n / 2 + n % 2 ≡ packed_length n
unfolding packed_length
half_up n = omega arith

pub length-pack : (v : List ℕ) → length (pack v) ≡ packed_length (length v)
unfolding pack packed_length
length-pack [] = refl
length-pack (a ∷ []) = refl
length-pack (a ∷ b ∷ v) = let e = length-pack v in omega arith

-- the places of the next pair
next_low : (n : ℕ) → suc n * 2 ≡ suc (suc (n * 2))
next_low n = omega arith

next_high : (n : ℕ) → suc n * 2 + 1 ≡ suc (suc (n * 2 + 1))
next_high n = omega arith

-- a byte of two elements, the first in the low half
unfoldable pub joined : ℕ → ℕ → ℕ
joined a b = a % 16 + 16 * (b % 16)

-- behind a pair, the next pair
next_pair : (l : List ℕ) (i : ℕ)
    → joined (get_or l (suc i * 2) 0) (get_or l (suc i * 2 + 1) 0) ≡ joined (get_or l (suc (suc (i * 2))) 0) (get_or l (suc (suc (i * 2 + 1))) 0)
next_pair l i = ap₂ (λ (x y : ℕ). joined (get_or l x 0) (get_or l y 0)) (next_low i) (next_high i)

-- the byte at each place, 0 past the end
pub byte_pack : (v : List ℕ) (i : ℕ) → get_or (pack v) i 0 ≡ get_or v (i * 2) 0 % 16 + 16 * (get_or v (i * 2 + 1) 0 % 16)
unfolding pack joined
byte_pack [] i = refl
byte_pack (a ∷ []) zero = omega arith
byte_pack (a ∷ []) (suc i) = sym (next_pair (a ∷ []) i)
byte_pack (a ∷ b ∷ v) zero = refl
byte_pack (a ∷ b ∷ v) (suc i) = byte_pack v i ∙ sym (next_pair (a ∷ b ∷ v) i)

-- the bytes of a packing are bytes
pub pack-lt : (v : List ℕ) → Bytes (pack v)
pack-lt v i = let e = byte_pack v i in omega arith

-- the half byte at each place is the element there, 0 past the end: an odd last element leaves four zero bits
pub nib-pack : (v : List ℕ) (i : ℕ) → nib (pack v) i ≡ get_or v i 0 % 16
nib-pack v i = ⊎_elim low high (low_or_high i)
  where
    low : Low i → nib (pack v) i ≡ get_or v i 0 % 16
    low l =
        let e = byte_pack v (i / 2) in
        let n = nib_low (pack v) i l in
        let p = ap (λ (k : ℕ). get_or v k 0) l.place in
        omega arith

    high : High i → nib (pack v) i ≡ get_or v i 0 % 16
    high h =
        let e = byte_pack v (i / 2) in
        let n = nib_high (pack v) i h in
        let p = ap (λ (k : ℕ). get_or v k 0) h.place in
        omega arith

pub nib-pack_past : (v : List ℕ) (i : ℕ) → length v ≤ i → nib (pack v) i ≡ 0
nib-pack_past v i h = nib-pack v i ∙ ap (λ (x : ℕ). x % 16) (get_or-eq_default v 0 h)

-- packing goes pair by pair, so after a first part of even length it starts anew
pub pack-append : (u v : List ℕ) → length u % 2 ≡ 0 → pack (u ++ v) ≡ pack u ++ pack v
unfolding pack
pack-append [] v h = refl
pack-append (a ∷ []) v h = absurd (omega arith)
pack-append (a ∷ b ∷ u) v h =
    ap (λ (l : List ℕ). (a % 16 + 16 * (b % 16)) ∷ l) (pack-append u v (omega arith))

-- ---- unpacking

pub length-unpack : (n : ℕ) (b : List ℕ) → length (unpack n b) ≡ n
unfolding unpack
length-unpack n b = length-table n (nib b)

pub get_or-unpack : (n : ℕ) (b : List ℕ) (i : ℕ) → i < n → get_or (unpack n b) i 0 ≡ nib b i
unfolding unpack
get_or-unpack n b i h = get_or-table n (nib b) i h

pub get_or-unpack_past : (n : ℕ) (b : List ℕ) (i : ℕ) → n ≤ i → get_or (unpack n b) i 0 ≡ 0
get_or-unpack_past n b i h =
    let e = length-unpack n b in
    get_or-eq_default (unpack n b) 0 (omega arith)

-- a reader gets elements, whatever the bytes
pub unpack-elements : (n : ℕ) (b : List ℕ) → Elements (unpack n b)
unpack-elements n b i =
    elim (dec_lt i n) as (λ d. get_or (unpack n b) i 0 < 16) [
      | yes y ↦ (let e = get_or-unpack n b i y in let l = nib-lt b i in omega arith)
      | no y ↦ (let e = get_or-unpack_past n b i (omega arith) in omega arith)
    ]

-- a list of elements is what a reader gets where each four bits are its entry
pub unpack_of : (v b : List ℕ) (n : ℕ) → length v ≡ n → ((i : ℕ) → i < n → get_or v i 0 ≡ nib b i) → v ≡ unpack n b
unfolding unpack
unpack_of v b n e h = table_of v n (nib b) e h

-- a reader of n elements sees only the first n half bytes
pub unpack-same : (n : ℕ) (b c : List ℕ) → ((i : ℕ) → i < n → nib b i ≡ nib c i) → unpack n b ≡ unpack n c
unfolding unpack
unpack-same n b c h = table_same n (nib b) (nib c) h

-- bytes put one after the other are read one after the other
pub unpack-append : (b c : List ℕ) (n : ℕ) → unpack (length b * 2 + n) (b ++ c) ≡ unpack (length b * 2) b ++ unpack n c
unfolding unpack
unpack-append b c n =
    table-add (length b * 2) n (nib (b ++ c))
    ∙ ap₂ (λ (x y : List ℕ). x ++ y)
    (table_same (length b * 2) (nib (b ++ c)) (nib b) (λ i h. nib-append_left b c i h))
    (table_same n (λ i. nib (b ++ c) (length b * 2 + i)) (nib c) (λ i h. nib-append_right b c i))

-- ---- there and back

-- what was packed is read back
pub unpack-pack : (v : List ℕ) → Elements v → unpack (length v) (pack v) ≡ v
unpack-pack v h = sym (unpack_of v (pack v) (length v) refl (λ i k. sym (nib-pack v i ∙ mod-eq_of_lt (h i))))

-- two vectors of elements with one packing and one length are one
pub pack_injective : (u v : List ℕ) → Elements u → Elements v → length u ≡ length v → pack u ≡ pack v → u ≡ v
pack_injective u v hu hv e p =
    sym (unpack-pack u hu) ∙ ap₂ unpack e p ∙ unpack-pack v hv
