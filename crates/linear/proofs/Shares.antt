-- The linear parts of the forms at the shares of sixteen parties: rows of the three tables, added to words of zeros, are the values of the forms.
-- A stray half byte behind an odd row meets a word past the end of the shares, which is 0. Assumes nothing.
use mathlib.Core.Path.{◌≡◌, refl, sym, ap, ◌∙◌, subst}
use mathlib.Core.List.{List}
use Rattle.std.proofs.Common.{map}
use Prim.Native.Nat.{ℕ, ◌+◌, ◌-◌, ◌*◌, ◌≤◌, ◌<◌}
use native.Mathlib.Nat.{zero-add}
use native.Mathlib.Omega.{arith}
use lib.Bits.{bit_xor, xor_zero_l}
use lib.ListN.{length, get_or, take, drop, replicate, length-map, length-replicate, get_or-eq_default}
use lib.Seq.{drop-drop, length-take-le, get_or-take}
use Rattle.std.proofs.lemmas.List.{get_or-replicate}
use Rattle.field.specs.Packing.{packed_length, nib, unpack}
use Rattle.field.specs.Sums.{dot_of}
use Rattle.field.specs.Vectors.{◌!◌, dot}
use Rattle.field.proofs.Sums.{dot_of-same, dot_of_stop}
use Rattle.lanes.specs.Lanes.{lane, Holds}
use Rattle.lanes.proofs.Laws.{lane-zero}
use Rattle.forms.specs.Circuit.{Circuit, affine_length, linear}
use Rattle.forms.specs.Room.{affine_in, circuit_in, HoldsCircuit}
use Rattle.forms.proofs.Circuit.{linear_at}
use Rattle.forms.proofs.Evaluated.{row-dot}
use Rattle.forms.proofs.Room.{row_in}
use Rattle.linear.specs.declared.word.Pair.{Pair}
use Rattle.linear.specs.Word.{View, one_word, two_words}
use Rattle.linear.specs.Forms.{HoldsForms}
use Rattle.linear.specs.Tables.{TableAt}
use Rattle.linear.specs.Rows.{RowAdded, RowsAdded}
use Rattle.linear.proofs.Sides.{Side, side_at, rows_side}

-- ---- the values of the forms

-- the table whose constants stand at `start` is added to m words, row by row times the words of a vector
pub record TableAdded {W : Type 0} (v : View W) (n m : ℕ) (bytes : List ℕ) (words : List W) (start : ℕ) (old new : List W) : Type 0 where
  pub table : List ℕ
  pub width : ℕ
  pub rows : ℕ
  pub stands : TableAt n m bytes start table width rows
  pub before : length old ≡ m
  pub after : length new ≡ m
  pub added : RowsAdded v table 0 width words 0 (width * 2) old new

-- the first m words are 0
abbrev pub Zeros : ℕ → List ℕ → Type 0
Zeros m x = (k : ℕ) → k < m → get_or x k 0 ≡ 0

module _ (bytes : List ℕ) (n m : ℕ) (words : List ℕ) (share : ℕ → List ℕ) (size : length words ≡ n) (shares : Holds (λ q i. share q ! i) words) where
  -- the words past the last share are 0, and so count for nothing
  row_share : (t : List ℕ) (row count q : ℕ) → n ≤ count → q < 16
      → dot_of count (λ j. nib t (row * 2 + j)) (λ j. lane q (get_or words (0 + j) 0)) ≡ dot (unpack n (drop row t)) (share q)
  unfolding Holds
  row_share t row count q h hq =
      let f : ℕ → ℕ = λ j. nib t (row * 2 + j) in
      let g : ℕ → ℕ = λ j. lane q (get_or words (0 + j) 0) in
      dot_of_stop n count f g h
      (λ i k. ap (lane q) (get_or-eq_default words 0 (outside i k)) ∙ lane-zero q)
      ∙ dot_of-same n f f g (λ j. share q ! j) (λ j k. refl)
      (λ j k. ap (λ (i : ℕ). lane q (get_or words i 0)) (zero-add j) ∙ shares j q (omega arith) hq)
      ∙ sym (row-dot t row n (share q))
    where
      outside : (i : ℕ) → n ≤ i → length words ≤ 0 + i
      outside i h = omega arith

  -- a table that is added to m zeros
  linear_lanes : (start : ℕ) (zeros x : List ℕ) → TableAdded one_word n m bytes words start zeros x → Zeros m zeros
      → Holds (λ q k. linear (affine_in n m (drop start bytes)) (share q) ! k) x
  unfolding Holds RowsAdded RowAdded packed_length
  linear_lanes start zeros x a none k q hk hq =
      let t : List ℕ = a.table in
      let width : ℕ = a.width in
      let w : width ≡ packed_length n = a.stands.wide in
      let d : k * width ≡ k * packed_length n = ap (λ (v : ℕ). k * v) w in
      let e : start + (packed_length m + k * packed_length n) ≡ start + packed_length m + (0 + k * width) = omega arith in
      let f : ℕ → ℕ = λ i. nib t ((0 + k * width) * 2 + i) in
      let g : ℕ → ℕ = λ i. lane q (get_or words (0 + i) 0) in
      let before = a.before in
      let after = a.after in
      let row : drop (packed_length m + k * packed_length n) (drop start bytes) ≡ drop (0 + k * width) t =
      drop-drop (packed_length m + k * packed_length n) start bytes
      ∙ ap (λ (i : ℕ). drop i bytes) e
      ∙ sym (drop-drop (0 + k * width) (start + packed_length m) bytes)
      ∙ ap (drop (0 + k * width)) (sym a.stands.place)
      in
      a.added k (omega arith) q hq
      ∙ ap (λ (v : ℕ). bit_xor v (dot_of (width * 2) f g)) (ap (lane q) (none k (omega arith)) ∙ lane-zero q)
      ∙ xor_zero_l (dot_of (width * 2) f g)
      ∙ row_share t (0 + k * width) (width * 2) q (omega arith) hq
      ∙ ap (λ (r : List ℕ). dot r (share q)) (sym (row_in n m (drop start bytes) k (omega arith) ∙ ap (unpack n) row))
      ∙ sym (linear_at (affine_in n m (drop start bytes)) (share q) k)

  -- the three tables, each added to m zeros
  pub linear_values : (x₀ y₀ z₀ x y z : List ℕ) → TableAdded one_word n m bytes words 0 x₀ x → TableAdded one_word n m bytes words (affine_length n m) y₀ y
      → TableAdded one_word n m bytes words (affine_length n m + affine_length n m) z₀ z → Zeros m x₀ → Zeros m y₀ → Zeros m z₀
      → (f : Circuit) → HoldsCircuit n m f bytes → HoldsForms f share x y z
  unfolding HoldsCircuit circuit_in
  linear_values x₀ y₀ z₀ x y z first second third zx zy zz f holds =
      subst (λ (c : Circuit). HoldsForms c share x y z) holds
      (record {
        A1 = linear_lanes 0 x₀ x first zx;
        A2 = linear_lanes (affine_length n m) y₀ y second zy;
        A0 = linear_lanes (affine_length n m + affine_length n m) z₀ z third zz;
      })

-- ---- two vectors side by side

-- the first m of j pairs of zeros
abbrev pub zeros : ℕ → ℕ → List Pair
zeros j m = take (m - 0) (drop 0 (replicate j two_words.zero))

module _ (j m : ℕ) (h : m ≤ j) where
  pub length-zeros : length (zeros j m) ≡ m
  length-zeros =
      let e : m - 0 ≡ m = omega arith in
      length-take-le (m - 0) (replicate j two_words.zero) (simp length-replicate (omega arith)) ∙ e

  module _ (side : Pair → ℕ) (o : ℕ) (s : Side side o) where
    side_zeros : Zeros m (map side (zeros j m))
    side_zeros k g =
        sym (side_at side o s (zeros j m) k)
        ∙ ap side
        (get_or-take (m - 0) (replicate j two_words.zero) k two_words.zero (omega arith)
        ∙ get_or-replicate j k two_words.zero two_words.zero (omega arith))
        ∙ s.none

    module _ (bytes : List ℕ) (n : ℕ) (pairs : List Pair) (words : List ℕ) (same : map side pairs ≡ words) where
      -- a table that is added to pairs is added to each side
      side_added : (start : ℕ) (x : List Pair) (v : List ℕ) → TableAdded two_words n m bytes pairs start (zeros j m) x → v ≡ map side x
          → TableAdded one_word n m bytes words start (map side (zeros j m)) v
      side_added start x v a e =
          let before = a.before in
          let after = a.after in
          let long = ap (λ (l : List ℕ). length l) e in
          record {
            table = a.table;
            width = a.width;
            rows = a.rows;
            stands = a.stands;
            before = simp length-map before;
            after = long ∙ simp length-map after;
            added =
                subst (RowsAdded one_word a.table 0 a.width words 0 (a.width * 2) (map side (zeros j m))) (sym e)
                (subst (λ (w : List ℕ). RowsAdded one_word a.table 0 a.width w 0 (a.width * 2) (map side (zeros j m)) (map side x)) same
                (rows_side side o s a.table 0 a.width pairs 0 (a.width * 2) (zeros j m) x a.added));
          }

      -- the three tables, each added to m pairs of zeros: the values at the vector of a side
      pub side_values : (share : ℕ → List ℕ) → length words ≡ n → Holds (λ q i. share q ! i) words → (x y z : List Pair) (a b c : List ℕ)
          → TableAdded two_words n m bytes pairs 0 (zeros j m) x → TableAdded two_words n m bytes pairs (affine_length n m) (zeros j m) y
          → TableAdded two_words n m bytes pairs (affine_length n m + affine_length n m) (zeros j m) z → a ≡ map side x → b ≡ map side y → c ≡ map side z
          → (f : Circuit) → HoldsCircuit n m f bytes → HoldsForms f share a b c
      side_values share size shares x y z a b c first second third ea eb ec =
          linear_values bytes n m words share size shares (map side (zeros j m)) (map side (zeros j m)) (map side (zeros j m)) a b c
          (side_added 0 x a first ea) (side_added (affine_length n m) y b second eb) (side_added (affine_length n m + affine_length n m) z c third ec)
          side_zeros side_zeros side_zeros
