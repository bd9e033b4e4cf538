-- Rows of packed coefficients times words of lanes: one byte of a row more, one row more, and a block of columns more. Assumes nothing.
use mathlib.Core.Path.{◌≡◌, refl, sym, ap, ap₂, ◌∙◌, subst}
use mathlib.Core.List.{List}
use Prim.Native.Nat.{ℕ, ◌+◌, ◌-◌, ◌*◌, ◌/◌, ◌%◌, ◌<◌}
use native.Mathlib.Nat.{zero-add, add-zero, add_assoc}
use native.Mathlib.Omega.{arith}
use lib.Bits.{bit_xor, xor_zero_r}
use lib.ListN.{length, get_or, take, drop}
use Rattle.memory.proofs.Bits.{xor_assoc}
use Rattle.field.specs.Field.{mul}
use Rattle.field.specs.Packing.{nib}
use Rattle.field.specs.Sums.{dot_of}
use Rattle.field.proofs.Packing.{nib-even, nib_odd, nib-take, nib-drop}
use Rattle.field.proofs.Sums.{dot_of-same, dot_of-add, dot_of_two}
use Rattle.linear.specs.Word.{View, Adds}
use Rattle.linear.specs.Rows.{PairValue, PairsFrom, RowAdded, RowsAdded}

module _ {W : Type 0} (v : View W) where
  pub row_none : (bytes : List ℕ) (i : ℕ) (s : List W) (a : ℕ) (x : W) → RowAdded v bytes i s a 0 x x
  unfolding RowAdded dot_of
  row_none bytes i s a x q h = sym (xor_zero_r (v.lane q x))

  -- ---- one byte of a row

  -- the byte i picks what its two coefficients add
  row_byte : Adds v → (bytes : List ℕ) (s : List W) (i a : ℕ) (x p : W)
      → PairValue v (get_or s a v.zero) (get_or s (a + 1) v.zero) (get_or bytes i 0) p → get_or bytes i 0 < 256
      → RowAdded v bytes (i * 2) s a 2 x (v.sum x p)
  unfolding RowAdded PairValue
  row_byte adds bytes s i a x p value small q h =
      let b : ℕ = get_or bytes i 0 in
      let f : ℕ → ℕ = λ j. nib bytes (i * 2 + j) in
      let g : ℕ → ℕ = λ j. v.lane q (get_or s (a + j) v.zero) in
      let low : b % 16 ≡ f 0 = sym (nib-even bytes i) ∙ ap (nib bytes) (sym (add-zero (i * 2))) in
      let half : b / 16 ≡ b / 16 % 16 = omega arith in
      let high : b / 16 ≡ f 1 = half ∙ sym (nib_odd bytes i) in
      adds q x p
      ∙ ap (bit_xor (v.lane q x))
      (value q h
      ∙ ap₂ bit_xor (ap₂ (λ (c k : ℕ). mul c (v.lane q (get_or s k v.zero))) low (sym (add-zero a))) (ap (λ (c : ℕ). mul c (g 1)) high)
      ∙ sym (dot_of_two f g))

  row_then : (bytes : List ℕ) (i : ℕ) (s : List W) (a m n : ℕ) (x y z : W)
      → RowAdded v bytes i s a m x y → RowAdded v bytes (i + m) s (a + m) n y z → RowAdded v bytes i s a (m + n) x z
  unfolding RowAdded
  row_then bytes i s a m n x y z first second q h =
      let f : ℕ → ℕ = λ j. nib bytes (i + j) in
      let g : ℕ → ℕ = λ j. v.lane q (get_or s (a + j) v.zero) in
      second q h
      ∙ ap₂ bit_xor (first q h)
      (dot_of-same n (λ j. nib bytes (i + m + j)) (λ j. f (m + j)) (λ j. v.lane q (get_or s (a + m + j) v.zero)) (λ j. g (m + j))
      (λ j k. ap (nib bytes) (add_assoc i m j)) (λ j k. ap (λ (p : ℕ). v.lane q (get_or s p v.zero)) (add_assoc a m j)))
      ∙ xor_assoc (v.lane q x) (dot_of m f g) (dot_of n (λ j. f (m + j)) (λ j. g (m + j)))
      ∙ ap (bit_xor (v.lane q x)) (sym (dot_of-add m n f g))

  -- the byte i picks from its pair's sums what is added next
  pub row_more : Adds v → (bytes : List ℕ) (s sums : List W) (a n i : ℕ) (x sum : W) → PairsFrom v s a n sums → i < n → get_or bytes i 0 < 256
      → RowAdded v bytes 0 s a (i * 2) x sum
      → RowAdded v bytes 0 s a ((i + 1) * 2) x (v.sum sum (get_or sums (i * 256 + get_or bytes i 0) v.zero))
  unfolding PairsFrom
  row_more adds bytes s sums a n i x sum pairs inside small done =
      let p : W = get_or sums (i * 256 + get_or bytes i 0) v.zero in
      let e : i * 2 + 2 ≡ (i + 1) * 2 = omega arith in
      subst (λ (k : ℕ). RowAdded v bytes 0 s a k x (v.sum sum p)) e
      (row_then bytes 0 s a (i * 2) 2 x sum (v.sum sum p) done
      (subst (λ (k : ℕ). RowAdded v bytes k s (a + i * 2) 2 sum (v.sum sum p)) (sym (zero-add (i * 2)))
      (row_byte adds bytes s i (a + i * 2) sum p (pairs i (get_or bytes i 0) inside small) small)))

  -- a part of the bytes that is a row's, as it is lent
  pub row_lent : (bytes : List ℕ) (from n : ℕ) (s : List W) (a : ℕ) (x r : W)
      → RowAdded v (take (from + n - from) (drop from bytes)) 0 s a (n * 2) x r → RowAdded v bytes (from * 2) s a (n * 2) x r
  unfolding RowAdded
  row_lent bytes from n s a x r row q h =
      let part : List ℕ = take (from + n - from) (drop from bytes) in
      let g : ℕ → ℕ = λ j. v.lane q (get_or s (a + j) v.zero) in
      row q h
      ∙ ap (bit_xor (v.lane q x))
      (dot_of-same (n * 2) (λ j. nib part (0 + j)) (λ j. nib bytes (from * 2 + j)) g g
      (λ j k. ap (nib part) (zero-add j) ∙ nib-take (from + n - from) (drop from bytes) j (omega arith) ∙ nib-drop from bytes j) (λ j k. refl))

  -- ---- a block of columns more

  pub rows_none : (bytes : List ℕ) (start width : ℕ) (s : List W) (a : ℕ) (old : List W) → RowsAdded v bytes start width s a 0 old old
  unfolding RowsAdded
  rows_none bytes start width s a old k h = row_none bytes ((start + k * width) * 2) s a (get_or old k v.zero)

  -- `at` bytes of each row, and then `count` more
  pub rows_on : (bytes : List ℕ) (start from at count width : ℕ) (s : List W) (a : ℕ) (old mid new : List W) → from ≡ start + at → length mid ≡ length old
      → RowsAdded v bytes start width s a (at * 2) old mid → RowsAdded v bytes from width s (a + at * 2) (count * 2) mid new
      → RowsAdded v bytes start width s a ((at + count) * 2) old new
  unfolding RowsAdded
  rows_on bytes start from at count width s a old mid new place size first second k h =
      let e : at * 2 + count * 2 ≡ (at + count) * 2 = omega arith in
      let p : (from + k * width) * 2 ≡ (start + k * width) * 2 + at * 2 = omega arith in
      subst (λ (c : ℕ). RowAdded v bytes ((start + k * width) * 2) s a c (get_or old k v.zero) (get_or new k v.zero)) e
      (row_then bytes ((start + k * width) * 2) s a (at * 2) (count * 2) (get_or old k v.zero) (get_or mid k v.zero) (get_or new k v.zero) (first k h)
      (subst (λ (i : ℕ). RowAdded v bytes i s (a + at * 2) (count * 2) (get_or mid k v.zero) (get_or new k v.zero)) p (second k (omega arith))))
