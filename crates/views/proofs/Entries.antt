-- The loops that write sums and corrections entry by entry: the entry that is written next is that of the whole vector.
-- Assumes nothing.
use mathlib.Core.Path.{◌≡◌, sym, ap, ap₂, ◌∙◌}
use mathlib.Core.List.{List, ◌++◌}
use Prim.Native.Nat.{ℕ, ◌+◌, ◌*◌, ◌-◌, ◌≤◌, ◌<◌}
use native.Mathlib.Omega.{arith}
use lib.Bits.{bit_xor}
use lib.ListN.{length, get_or, set, take, drop}
use lib.Seq.{length-take-le}
use Rattle.memory.proofs.Copied.{copied_rest}
use Rattle.field.specs.Field.{mul}
use Rattle.field.specs.Packing.{nib, packed_length, unpack}
use Rattle.field.specs.Vectors.{◌⊕◌, ◌⊙◌}
use Rattle.field.proofs.Packing.{nib-drop, length-unpack, get_or-unpack}
use Rattle.field.proofs.Vectors.{⊕-at, length_⊕, ⊙-at, length_⊙}
use Rattle.sponge.specs.Sponge.{shake256}
use Rattle.sponge.proofs.Laws.{length-shake256}
use Rattle.hashes.specs.Hashes.{tape_fields, expand_tape}
use Rattle.views.specs.Views.{correction_s, correction_c}
use Rattle.memory.proofs.Xors.{written_more, lent_start}

-- ---- sums of bytes

pub length-sum : (dst more : List ℕ) → length more ≡ length dst → length (dst ⊕ more) ≡ length dst
length-sum dst more h = let e = length_⊕ dst more in omega arith

pub sum-entry : (more dst cur : List ℕ) (i : ℕ) → length more ≡ length dst → i < length dst → cur ≡ take i (dst ⊕ more) ++ drop i dst
    → set cur i (bit_xor (get_or cur i 0) (get_or more i 0)) ≡ take (i + 1) (dst ⊕ more) ++ drop (i + 1) dst
sum-entry more dst cur i e h c =
    let l = length-sum dst more e in
    written_more (dst ⊕ more) dst cur i (bit_xor (get_or cur i 0) (get_or more i 0)) (omega arith) l c
    (ap (λ (x : ℕ). bit_xor x (get_or more i 0)) (ap (λ (x : List ℕ). get_or x i 0) c ∙ copied_rest (dst ⊕ more) dst i (omega arith)) ∙ sym (⊕-at dst more i))

-- a tape that fills the start of a room is added
pub added-tape : (salt seed : List ℕ) (e i : ℕ) (room last sums new : List ℕ) → length sums ≤ length room
    → last ≡ shake256 (tape_fields salt e i seed) (length (take (length sums - 0) (drop 0 room)))
    → new ≡ sums ⊕ take (length sums - 0) (drop 0 (take 0 room ++ (last ++ drop (length sums - 0) (drop 0 room))))
    → new ≡ sums ⊕ expand_tape salt e i seed (length sums)
unfolding expand_tape
added-tape salt seed e i room last sums new h el en =
    let n = length sums in
    let size : length (take (n - 0) (drop 0 room)) ≡ n = length-take-le (n - 0) room (omega arith) ∙ (let z : n - 0 ≡ n = omega arith in z) in
    en
    ∙ ap (λ (x : List ℕ). sums ⊕ x)
    (lent_start room last n h (ap length el ∙ length-shake256 (tape_fields salt e i seed) (length (take (n - 0) (drop 0 room))))
    ∙ el
    ∙ ap (shake256 (tape_fields salt e i seed)) size)

-- ---- Δs

pub length-correction_s : (s sums : List ℕ) → length (correction_s (length s) s sums) ≡ length s
unfolding correction_s
length-correction_s s sums =
    let a = length_⊕ s (unpack (length s) sums) in
    let b = length-unpack (length s) sums in
    omega arith

pub secret-entry : (s sums : List ℕ) (k r : ℕ) → k < length s → r ≡ nib sums k → bit_xor (get_or s k 0) r ≡ get_or (correction_s (length s) s sums) k 0
unfolding correction_s
secret-entry s sums k r h e =
    ap (bit_xor (get_or s k 0)) (e ∙ sym (get_or-unpack (length s) sums k h)) ∙ sym (⊕-at s (unpack (length s) sums) k)

-- ---- Δc

module _ (y sums : List ℕ) (mask helper : ℕ) where
  pub length-correction_c : length (y ⊙ unpack (length y) (drop mask sums) ⊕ unpack (length y) (drop helper sums)) ≡ length y
  length-correction_c =
      let a = length_⊕ (y ⊙ unpack (length y) (drop mask sums)) (unpack (length y) (drop helper sums)) in
      let b = length_⊙ y (unpack (length y) (drop mask sums)) in
      let d = length-unpack (length y) (drop mask sums) in
      let f = length-unpack (length y) (drop helper sums) in
      omega arith

  pub helper-entry : (k a c v : ℕ) → k < length y → a ≡ nib sums (mask * 2 + k) → c ≡ nib sums (helper * 2 + k) → v ≡ mul (get_or y k 0) a
      → bit_xor v c ≡ get_or (y ⊙ unpack (length y) (drop mask sums) ⊕ unpack (length y) (drop helper sums)) k 0
  helper-entry k a c v h ea ec ev =
      let m = length y in
      ap₂ bit_xor
      (ev ∙ ap (mul (get_or y k 0)) (ea ∙ sym (nib-drop mask sums k) ∙ sym (get_or-unpack m (drop mask sums) k h)) ∙ sym (⊙-at y (unpack m (drop mask sums)) k))
      (ec ∙ sym (nib-drop helper sums k) ∙ sym (get_or-unpack m (drop helper sums) k h))
      ∙ sym (⊕-at (y ⊙ unpack m (drop mask sums)) (unpack m (drop helper sums)) k)

-- with the places of mask and helper worked out
pub correction_c_at : (y sums : List ℕ) (n a b : ℕ) → a ≡ packed_length n → b ≡ packed_length (length y)
    → y ⊙ unpack (length y) (drop a sums) ⊕ unpack (length y) (drop (a + b) sums) ≡ correction_c n (length y) y sums
unfolding correction_c
correction_c_at y sums n a b ea eb =
    ap₂ (λ (i j : ℕ). y ⊙ unpack (length y) (drop i sums) ⊕ unpack (length y) (drop (i + j) sums)) ea eb
