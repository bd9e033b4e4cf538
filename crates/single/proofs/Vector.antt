-- One vector under the forms: the masks of its elements, and that the rows of the first table give the linear forms there.
-- Assumes nothing.
use mathlib.Core.Path.{◌≡◌, sym, ap, ap₂, ◌∙◌}
use mathlib.Core.List.{List, ◌++◌}
use Prim.Native.Nat.{ℕ, ◌+◌, ◌-◌, ◌*◌, ◌/◌, ◌%◌, ◌^◌, ◌≤◌}
use native.Mathlib.Nat.{zero-div, mul-le-mul_right}
use native.Mathlib.Decide.{dec_lt}
use native.Mathlib.Omega.{arith}
use lib.ListN.{length, get_or, drop}
use lib.Seq.{ext_get_or, get_or-drop}
use Rattle.memory.specs.Lists.{over}
use Rattle.memory.proofs.Parts.{over_fits}
use Rattle.memory.proofs.Words.{get_d_past}
use Rattle.field.specs.Field.{coefficient}
use Rattle.field.specs.Packing.{nib, pack, unpack, packed_length}
use Rattle.field.specs.Vectors.{◌!◌, dot}
use Rattle.field.proofs.Packing.{half_up, length-pack, nib-pack, nib-append_left, nib-append_right}
use Rattle.field.proofs.Sums.{dot_of_stop}
use Rattle.marks.specs.Marks.{EachWord, lane_sum}
use Rattle.forms.specs.Circuit.{linear}
use Rattle.forms.specs.Room.{circuit_length, affine_in}
use Rattle.forms.proofs.Circuit.{linear_at, length-linear}
use Rattle.forms.proofs.Evaluated.{row-dot}
use Rattle.forms.proofs.Room.{packed_holds, affine_two, circuit_three, row_in, length-rows_in}
use Rattle.single.specs.Masks.{MasksOf, RowsOf}
use Rattle.single.proofs.Weighing.{bits_low}

-- ---- the elements, packed over zeros

zero-nib : (b : List ℕ) (i : ℕ) → ((j : ℕ) → get_or b j 0 ≡ 0) → nib b i ≡ 0
unfolding nib
zero-nib b i h = ap (λ (x : ℕ). x / 16 ^ (i % 2) % 16) (h (i / 2)) ∙ ap (λ (x : ℕ). x % 16) (zero-div (16 ^ (i % 2)))

packed_fits : (n : ℕ) → n ≤ 128 → packed_length n ≤ 64
unfolding packed_length
packed_fits n h = omega arith

module _ (s packed packed' : List ℕ) (small : length s ≤ 128) (size : length packed ≡ 64) (zeros : (i : ℕ) → get_or packed i 0 ≡ 0) (written : packed' ≡ over (pack s) packed) where
  pub packed_elements : (j : ℕ) → nib packed' j ≡ s ! j % 16
  packed_elements j =
      let l = length-pack s in
      let f = packed_fits (length s) small in
      let c = packed_holds (length s) in
      let n = length (pack s) in
      let rest = drop n packed in
      ap (λ (b : List ℕ). nib b j) (written ∙ over_fits (pack s) packed (omega arith))
      ∙ (elim (dec_lt j (n * 2)) as (λ d. nib (pack s ++ rest) j ≡ s ! j % 16) [
        | yes y ↦ nib-append_left (pack s) rest j y ∙ nib-pack s j
        | no y ↦
            let e : n * 2 + (j - n * 2) ≡ j = omega arith in
            ap (nib (pack s ++ rest)) (sym e) ∙ nib-append_right (pack s) rest (j - n * 2)
            ∙ zero-nib rest (j - n * 2) (λ i. get_or-drop n packed i 0 ∙ zeros (n + i))
            ∙ sym (ap (λ (x : ℕ). x % 16) (get_d_past s j (omega arith)))
      ])

  -- so their masks are those of the vector
  pub masks_vector : (masks : List ℕ) → MasksOf (nib packed') 8 masks → MasksOf (λ j. s ! j) 8 masks
  unfolding MasksOf
  masks_vector masks held w b k hw hb hk =
      held w b k hw hb hk ∙ ap (λ (x : ℕ). 15 * x) (ap (λ (x : ℕ). coefficient x b) (packed_elements (16 * w + k)) ∙ bits_low (s ! (16 * w + k)) b hb)

-- ---- the first table

rows-length : (n m : ℕ) (circuit : List ℕ) → length (affine_in n m circuit).rows ≡ m
unfolding affine_in
rows-length n m circuit = length-rows_in n m (drop (packed_length m) circuit)

-- the last word of a row may reach into the tables behind it
pub rows_fit : (n m first width words : ℕ) (circuit sums : List ℕ) → first ≡ packed_length m → width ≡ packed_length n → 16 * words ≤ n + 15 → 16 ≤ m → length circuit ≡ circuit_length n m → length sums ≡ m
    → first + length sums * width + 8 * words ≤ length circuit + width
rows_fit n m first width words circuit sums ef ew en some size rows =
    let w = packed_length n in
    let a : 16 * w ≤ m * w = mul-le-mul_right w some in
    let b = affine_two n m in
    let c = circuit_three n m in
    let e : length sums * width ≡ m * w = ap₂ (λ (j k : ℕ). j * k) rows ew in
    let h = half_up n in
    omega arith

pub first_out : (n m first width words size : ℕ) (circuit s sums lent out₀ out : List ℕ) → first ≡ packed_length m → width ≡ packed_length n → n ≤ 16 * words → length s ≡ n
    → length out₀ ≡ m → length out ≡ length out₀ → size ≡ m → RowsOf circuit first width (16 * words) (λ j. s ! j) size sums
    → lent ≡ sums → EachWord (λ k x y. y ≡ lane_sum (lent ! k)) out₀ out → out ≡ linear (affine_in n m circuit) s
unfolding RowsOf EachWord
first_out n m first width words size circuit s sums lent out₀ out ef ew en es eo ek ez rows same each =
    let l = length-linear (affine_in n m circuit) s ∙ rows-length n m circuit in
    ext_get_or 0 out (linear (affine_in n m circuit) s) (ek ∙ eo ∙ sym l) (λ k h.
    each k (omega arith)
    ∙ ap (λ (l : List ℕ). lane_sum (l ! k)) same
    ∙ rows k (omega arith)
    ∙ dot_of_stop n (16 * words) (λ j. nib circuit ((first + k * width) * 2 + j)) (λ j. s ! j) en (λ i g. get_d_past s i (omega arith))
    ∙ sym (row-dot circuit (first + k * width) n s)
    ∙ ap₂ (λ (a b : ℕ). dot (unpack n (drop (a + k * b) circuit)) s) ef ew
    ∙ sym (linear_at (affine_in n m circuit) s k ∙ ap (λ (row : List ℕ). dot row s) (row_in n m circuit k (omega arith))))
