-- What the functions on words of lanes promise each other: rows of packed coefficients, times the vectors that stand in the lanes of words, added to words.
-- The public promise does not cite these: it speaks of `linear` (crates/forms). Assumes nothing.
use Rattle.std.specs.Prelude.{List, ◌≡◌, ℕ, ◌+◌, ◌*◌, ◌/◌, ◌%◌, ◌≤◌, ◌<◌, length, get_or}
use Rattle.std.specs.Int.Bits.{bit_xor}
use Rattle.field.specs.Field.{mul}
use Rattle.field.specs.Packing.{nib}
use Rattle.field.specs.Sums.{dot_of}
use Rattle.linear.specs.Word.{View}

module _ {W : Type 0} (v : View W) where
  -- x is in each lane the sum of two words times the two coefficients in the byte b
  unfoldable pub PairValue : W → W → ℕ → W → Type 0
  PairValue low high b x = (q : ℕ) → q < v.lanes → v.lane q x ≡ bit_xor (mul (b % 16) (v.lane q low)) (mul (b / 16) (v.lane q high))

  -- such a sum for every byte
  unfoldable pub PairsOf : W → W → List W → Type 0
  PairsOf low high t = (b : ℕ) → b < 256 → PairValue low high b (get_or t b v.zero)

  -- such sums for `count` pairs of words, from the place a of s on: that of the c-th pair and the byte b stands at 256 c + b
  unfoldable pub PairsFrom : List W → ℕ → ℕ → List W → Type 0
  PairsFrom s a count t =
      (c b : ℕ) → c < count → b < 256 → PairValue (get_or s (a + c * 2) v.zero) (get_or s (a + c * 2 + 1) v.zero) b (get_or t (c * 256 + b) v.zero)

  -- the n words behind the first n of `new` are these with w added; the others are those of `old`
  pub record Spread (n : ℕ) (w : W) (old new : List W) : Type 0 where
    pub added : (k : ℕ) → k < n → get_or new (n + k) v.zero ≡ v.sum (get_or old k v.zero) w
    pub before : (k : ℕ) → k < n → get_or new k v.zero ≡ get_or old k v.zero
    pub behind : (k : ℕ) → n + n ≤ k → get_or new k v.zero ≡ get_or old k v.zero

  -- `new` is `old` with, in each lane, the sum of `count` coefficients, from the half byte i of the bytes on, times the words from the place a of s on
  unfoldable pub RowAdded : List ℕ → ℕ → List W → ℕ → ℕ → W → W → Type 0
  RowAdded bytes i s a count old new =
      (q : ℕ) → q < v.lanes → v.lane q new ≡ bit_xor (v.lane q old) (dot_of count (λ j. nib bytes (i + j)) (λ j. v.lane q (get_or s (a + j) v.zero)))

  -- the words `new` are `old` with a row added to each; the rows stand `width` bytes apart, from the byte `start` on
  unfoldable pub RowsAdded : List ℕ → ℕ → ℕ → List W → ℕ → ℕ → List W → List W → Type 0
  RowsAdded bytes start width s a count old new =
      (k : ℕ) → k < length old → RowAdded bytes ((start + k * width) * 2) s a count (get_or old k v.zero) (get_or new k v.zero)
