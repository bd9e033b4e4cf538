-- One vector times rows of packed coefficients, sixteen elements to a word: the masks of a vector's bits, and what the rows give under them.
-- The public promise does not cite these: it speaks of `alpha_of` (crates/parties). Assumes nothing.
use Rattle.std.specs.Prelude.{List, ◌≡◌, ℕ, ◌+◌, ◌*◌, ◌<◌, get_or}
use Rattle.std.specs.Int.Bits.{bit_xor}
use Rattle.field.specs.Field.{mul, coefficient}
use Rattle.field.specs.Packing.{nib}
use Rattle.field.specs.Sums.{dot_of}
use Rattle.lanes.specs.Lanes.{lane}
use Rattle.marks.specs.Marks.{lane_sum}

-- r has 15 in the lanes of x that have the bit b, and 0 elsewhere
unfoldable pub MaskOf : ℕ → ℕ → ℕ → Type 0
MaskOf x b r = (k : ℕ) → k < 16 → lane k r ≡ 15 * coefficient (lane k x) b

-- the masks of a vector, four for each of its words of sixteen elements: 15 in the lanes of the elements that have the bit
unfoldable pub MasksOf : (ℕ → ℕ) → ℕ → List ℕ → Type 0
MasksOf s words masks = (w b k : ℕ) → w < words → b < 4 → k < 16 → lane k (get_or masks (w * 4 + b) 0) ≡ 15 * coefficient (s (16 * w + k)) b

-- the lanes of each of the first m words add up to a row of `count` coefficients times s; the rows stand `width` bytes apart, from the byte `start` on
unfoldable pub RowsOf : List ℕ → ℕ → ℕ → ℕ → (ℕ → ℕ) → ℕ → List ℕ → Type 0
RowsOf bytes start width count s m words = (k : ℕ) → k < m → lane_sum (get_or words k 0) ≡ dot_of count (λ j. nib bytes ((start + k * width) * 2 + j)) s

-- a + 2b + 4c + 8d
abbrev pub weigh : ℕ → ℕ → ℕ → ℕ → ℕ
weigh a b c d = bit_xor a (mul (bit_xor b (mul (bit_xor c (mul d 2)) 2)) 2)
