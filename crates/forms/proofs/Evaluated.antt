-- The values of affine forms whose table stands in lent bytes: a row times a vector as a sum, one product more, a form's value at each place,
-- and that the three tables give algorithm 10. Assumes nothing.
use mathlib.Core.Path.{◌≡◌, refl, sym, ap, ap₂, ◌∙◌}
use mathlib.Core.List.{List, ◌++◌, append-nil}
use Prim.Native.Nat.{ℕ, ◌+◌, ◌*◌, ◌≤◌, ◌<◌, max}
use native.Mathlib.Numerals.{add-one}
use native.Mathlib.Omega.{arith}
use lib.Bits.{bit_xor, xor_zero_l}
use lib.ListN.{length, take, drop, set, replicate, length-replicate, drop_of_length-le}
use lib.Seq.{take_all, drop-drop, ext_get_or}
use Rattle.memory.proofs.Copied.{copied_rest}
use Rattle.memory.proofs.Parts.{copied_more}
use Rattle.memory.proofs.Xors.{get_or_zeros}
use Rattle.field.specs.Field.{mul}
use Rattle.field.specs.Packing.{packed_length, nib, unpack}
use Rattle.field.specs.Sums.{dot_of}
use Rattle.field.specs.Vectors.{◌!◌, ◌⊕◌, ◌⊙◌, dot}
use Rattle.field.proofs.Packing.{nib-drop, length-unpack}
use Rattle.field.proofs.Sums.{dot_of-suc, dot_of-same, dot-table}
use Rattle.field.proofs.Vectors.{⊕-at, length_⊕}
use Rattle.forms.specs.Circuit.{Circuit, affine_length, affine, eval_circuit}
use Rattle.forms.specs.Room.{affine_in, circuit_in, HoldsCircuit}
use Rattle.forms.proofs.Circuit.{Forms, affine_at, length-affine}
use Rattle.forms.proofs.Room.{constant_in, row_in, length-rows_in}

-- a row that stands in the bytes, times a vector
pub row-dot : (bytes : List ℕ) (row n : ℕ) (s : List ℕ) → dot (unpack n (drop row bytes)) s ≡ dot_of n (λ j. nib bytes (row * 2 + j)) (λ j. s ! j)
unfolding unpack
row-dot bytes row n s =
    dot-table n (nib (drop row bytes)) s
    ∙ dot_of-same n (nib (drop row bytes)) (λ j. nib bytes (row * 2 + j)) (λ j. s ! j) (λ j. s ! j) (λ j h. nib-drop row bytes j) (λ j h. refl)

-- one product more
pub sum_more : (n sum p : ℕ) (f g : ℕ → ℕ) → sum ≡ dot_of n f g → p ≡ mul (f n) (g n) → bit_xor sum p ≡ dot_of (n + 1) f g
sum_more n sum p f g e h = ap₂ bit_xor e h ∙ sym (dot_of-suc n f g) ∙ ap (λ (k : ℕ). dot_of k f g) (sym (add-one n))

-- ---- a loop that writes v over o, entry by entry, where an entry goes by the old one

module _ (v o x : List ℕ) (k : ℕ) (so_far : x ≡ take k v ++ drop k o) (long : length v ≡ length o) where
  -- what stands at the place
  pub written_next : k < length o → x ! k ≡ o ! k
  written_next h = ap (λ (l : List ℕ). l ! k) so_far ∙ copied_rest v o k (omega arith)

  pub written_more : (b : ℕ) → k < length o → b ≡ v ! k → set x k b ≡ take (k + 1) v ++ drop (k + 1) o
  written_more b h e = ap₂ (λ (l : List ℕ) (a : ℕ). set l k a) so_far e ∙ copied_more v o k (omega arith) h

  pub written_all : length o ≤ k → x ≡ v
  written_all h = so_far ∙ ap₂ (λ (y z : List ℕ). y ++ z) (take_all k v (omega arith)) (drop_of_length-le o {i = k} h) ∙ append-nil v

-- ---- a table of affine forms in the bytes

pub forms_in : (n m : ℕ) (bytes : List ℕ) → Forms m (affine_in n m bytes)
unfolding affine_in
forms_in n m bytes = record { constants = length-unpack m bytes; rows = length-rows_in n m (drop (packed_length m) bytes) }

pub length-affine_in : (n m : ℕ) (bytes s : List ℕ) → length (affine (affine_in n m bytes) s) ≡ m
length-affine_in n m bytes s = length-affine m (affine_in n m bytes) s (forms_in n m bytes)

pub affine_in_at : (bytes : List ℕ) (start n m : ℕ) (s : List ℕ) (k : ℕ) → k < m
    → affine (affine_in n m (drop start bytes)) s ! k
    ≡ bit_xor (nib bytes (start * 2 + k)) (dot (unpack n (drop (start + packed_length m + k * packed_length n) bytes)) s)
affine_in_at bytes start n m s k h =
    let e : start + (packed_length m + k * packed_length n) ≡ start + packed_length m + k * packed_length n = omega arith in
    affine_at (affine_in n m (drop start bytes)) s k
    ∙ ap₂ (λ (c : ℕ) (row : List ℕ). bit_xor c (dot row s)) (constant_in n m (drop start bytes) k h ∙ nib-drop start bytes k)
    (row_in n m (drop start bytes) k h ∙ ap (unpack n) (drop-drop (packed_length m + k * packed_length n) start bytes ∙ ap (λ (j : ℕ). drop j bytes) e))

-- added to a vector of m entries
module _ (old bytes : List ℕ) (start n : ℕ) (s : List ℕ) where
  pub length-added : length (old ⊕ affine (affine_in n (length old) (drop start bytes)) s) ≡ length old
  length-added =
      let e = length-affine_in n (length old) (drop start bytes) s in
      length_⊕ old (affine (affine_in n (length old) (drop start bytes)) s) ∙ omega arith

  pub added_at : (k : ℕ) → k < length old → (old ⊕ affine (affine_in n (length old) (drop start bytes)) s) ! k
      ≡ bit_xor (old ! k) (bit_xor (nib bytes (start * 2 + k)) (dot (unpack n (drop (start + packed_length (length old) + k * packed_length n) bytes)) s))
  added_at k h =
      ⊕-at old (affine (affine_in n (length old) (drop start bytes)) s) k ∙ ap (bit_xor (old ! k)) (affine_in_at bytes start n (length old) s k h)

-- added to zeros
zeros_⊕ : (m : ℕ) (v : List ℕ) → length v ≡ m → replicate m 0 ⊕ v ≡ v
zeros_⊕ m v e =
    let z : List ℕ = replicate m 0 in
    let r : length z ≡ m = length-replicate m 0 in
    let g : max (length z) (length v) ≡ length v = omega arith in
    ext_get_or 0 (replicate m 0 ⊕ v) v (length_⊕ z v ∙ g)
    (λ k h. ⊕-at (replicate m 0) v k ∙ ap (λ (z : ℕ). bit_xor z (v ! k)) (get_or_zeros m k) ∙ xor_zero_l (v ! k))

-- ---- algorithm 10

-- zeros, A1 added; zeros, A2 added; the product; A0 added
module _ (n m size : ℕ) (bytes s t₀ t₁ t₂ t₃ y₀ y₁ : List ℕ) (width : length s ≡ n) (place : size ≡ affine_length n m) where
  -- the forms of a table, where the vectors have their lengths
  sized : (v b : List ℕ) → length v ≡ m → affine (affine_in (length s) (length v) b) s ≡ affine (affine_in n m b) s
  sized v b e = ap₂ (λ (i j : ℕ). affine (affine_in i j b) s) width e

  cleared : (v w : List ℕ) (b : List ℕ) → length v ≡ m → v ≡ replicate (length v) 0 → w ≡ v ⊕ affine (affine_in (length s) (length v) b) s → w ≡ affine (affine_in n m b) s
  cleared v w b e z h =
      h ∙ ap₂ ◌⊕◌ (z ∙ ap (λ (k : ℕ). replicate k 0) e) (sized v b e) ∙ zeros_⊕ m (affine (affine_in n m b) s) (length-affine_in n m b s)

  pub evaluated : length t₀ ≡ m → t₀ ≡ replicate (length t₀) 0 → length y₀ ≡ m → y₀ ≡ replicate (length y₀) 0 → length t₂ ≡ m
      → t₁ ≡ t₀ ⊕ affine (affine_in (length s) (length t₀) (drop 0 bytes)) s
      → y₁ ≡ y₀ ⊕ affine (affine_in (length s) (length y₀) (drop size bytes)) s
      → t₂ ≡ t₁ ⊙ y₁
      → t₃ ≡ t₂ ⊕ affine (affine_in (length s) (length t₂) (drop (size + size) bytes)) s
      → (f : Circuit) → HoldsCircuit n m f bytes → eval_circuit s f ≡ record { y = y₁; t = t₃ }
  unfolding eval_circuit HoldsCircuit circuit_in
  evaluated lt zt ly zy l₂ first second product third f holds =
      ap (eval_circuit s) (sym holds)
      ∙ ap₂ (λ (y t : List ℕ). record { y = y; t = t }) (sym a2)
      (ap₂ ◌⊕◌ (ap₂ ◌⊙◌ (sym a1) (sym a2) ∙ sym product) (sym a0) ∙ sym third)
    where
      a1 : t₁ ≡ affine (affine_in n m (drop 0 bytes)) s
      a1 = cleared t₀ t₁ (drop 0 bytes) lt zt first

      a2 : y₁ ≡ affine (affine_in n m (drop (affine_length n m) bytes)) s
      a2 = cleared y₀ y₁ (drop size bytes) ly zy second ∙ ap (λ (k : ℕ). affine (affine_in n m (drop k bytes)) s) place

      a0 : affine (affine_in (length s) (length t₂) (drop (size + size) bytes)) s ≡ affine (affine_in n m (drop (affine_length n m + affine_length n m) bytes)) s
      a0 = sized t₂ (drop (size + size) bytes) l₂ ∙ ap (λ (k : ℕ). affine (affine_in n m (drop (k + k) bytes)) s) place
