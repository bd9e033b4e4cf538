-- Words side by side: of each side holds what is said of the pairs. Assumes nothing.
use mathlib.Core.Path.{◌≡◌, refl, sym, ap, ap₂, ◌∙◌}
use mathlib.Core.List.{List}
use Rattle.std.proofs.Common.{map}
use Prim.Native.Nat.{ℕ, ◌+◌, ◌-◌, ◌*◌, ◌≤◌, ◌<◌}
use native.Mathlib.Nat.{zero-add}
use native.Mathlib.Omega.{arith}
use Rattle.std.proofs.lemmas.Bool.{lt-ltb, le-ltb}
use lib.Bits.{bit_xor}
use lib.ListN.{length, get_or, length-map, get_or-map}
use Rattle.field.specs.Packing.{nib}
use Rattle.field.proofs.Sums.{dot_of-same}
use Rattle.lanes.specs.Lanes.{lane}
use Rattle.linear.specs.declared.word.Pair.{Pair}
use Rattle.linear.specs.Word.{one_word, two_words}
use Rattle.linear.specs.Rows.{RowAdded, RowsAdded}

-- a side of a pair: its lanes are those of the pair from the o-th on, and it is 0 where the pair is
pub record Side (side : Pair → ℕ) (o : ℕ) : Type 0 where
  pub inside : o ≤ 16
  pub none : side two_words.zero ≡ 0
  pub lanes : (q : ℕ) (p : Pair) → q < 16 → two_words.lane (o + q) p ≡ lane q (side p)

module _ (side : Pair → ℕ) (o : ℕ) (h : Side side o) where
  -- a word of a side
  pub side_at : (l : List Pair) (k : ℕ) → side (get_or l k two_words.zero) ≡ get_or (map side l) k 0
  side_at l k = sym (get_or-map side l k two_words.zero) ∙ ap (get_or (map side l) k) h.none

  lane_at : (q : ℕ) → q < 16 → (l : List Pair) (k : ℕ) → two_words.lane (o + q) (get_or l k two_words.zero) ≡ lane q (get_or (map side l) k 0)
  lane_at q hq l k = h.lanes q (get_or l k two_words.zero) hq ∙ ap (lane q) (side_at l k)

  -- rows that are added to pairs are added to each side
  pub rows_side : (bytes : List ℕ) (start width : ℕ) (s : List Pair) (a count : ℕ) (old new : List Pair)
      → RowsAdded two_words bytes start width s a count old new → RowsAdded one_word bytes start width (map side s) a count (map side old) (map side new)
  unfolding RowsAdded RowAdded
  rows_side bytes start width s a count old new rows k hk q hq =
      let i = h.inside in
      let f : ℕ → ℕ = λ j. nib bytes ((start + k * width) * 2 + j) in
      let inside : k < length old = simp length-map at hk in
      sym (lane_at q hq new k)
      ∙ rows k inside (o + q) (omega arith)
      ∙ ap₂ bit_xor (lane_at q hq old k)
      (dot_of-same count f f (λ j. two_words.lane (o + q) (get_or s (a + j) two_words.zero)) (λ j. lane q (get_or (map side s) (a + j) 0))
      (λ j l. refl) (λ j l. lane_at q hq s (a + j)))

pub first : Side (λ p. p.first) 0
first = record { inside = omega arith; none = refl; lanes = λ q p h. low q p h }
  where
    low : (q : ℕ) (p : Pair) → q < 16 → two_words.lane (0 + q) p ≡ lane q p.first
    low q p h = rw (zero-add q, lt-ltb q 16 h) refl

pub second : Side (λ p. p.second) 16
second = record { inside = omega arith; none = refl; lanes = λ q p h. high q p h }
  where
    high : (q : ℕ) (p : Pair) → q < 16 → two_words.lane (16 + q) p ≡ lane q p.second
    high q p h =
        let back : 16 + q - 16 ≡ q = omega arith in
        rw (le-ltb (16 + q) 16 (omega arith), back) refl
