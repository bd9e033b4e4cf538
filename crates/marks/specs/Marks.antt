-- Words of sixteen lanes, one word for each place: what the loops over words promise, word by word and lane by lane.
-- A mark is a word whose lanes are 0 or 1; lane q of group g belongs to party 16 g + q + 1. Assumes nothing.
use Rattle.std.specs.Prelude.{cond, List, ◌≡◌, ℕ, zero, suc, ◌+◌, ◌-◌, ◌*◌, ◌<◌, eqb, length, get_or, drop}
use Rattle.std.specs.Int.Bits.{bit_xor}
use Rattle.field.specs.Field.{mul}
use Rattle.field.specs.Packing.{nib}
use Rattle.field.specs.Vectors.{◌!◌}
use Rattle.lanes.specs.Lanes.{lane}

-- every lane is 0 or 1
unfoldable pub Flags : ℕ → Type 0
Flags w = (q : ℕ) → q < 16 → lane q w < 2

-- 1 at party i, if it is one of group g, and 0 elsewhere
unfoldable pub Mark : ℕ → ℕ → ℕ → Type 0
Mark g i w = (q : ℕ) → q < 16 → lane q w ≡ cond (eqb (suc (16 * g + q)) i) 1 0

-- every word of `new` is related to that of `old` at its place
unfoldable pub EachWord : (ℕ → ℕ → ℕ → Type 0) → List ℕ → List ℕ → Type 0
EachWord R old new = (k : ℕ) → k < length old → R k (get_or old k 0) (get_or new k 0)

-- y is x with the element v added in the marked lanes
unfoldable pub MarkedWord : ℕ → ℕ → ℕ → ℕ → Type 0
MarkedWord v mark x y = (q : ℕ) → q < 16 → lane q y ≡ bit_xor (lane q x) (v * lane q mark)

-- y is x times the element e, with a added
unfoldable pub MultipliedWord : ℕ → ℕ → ℕ → ℕ → Type 0
MultipliedWord e a x y = (q : ℕ) → q < 16 → lane q y ≡ bit_xor (mul (lane q x) e) (lane q a)

-- y is x with 0 in the marked lanes
unfoldable pub ClearedWord : ℕ → ℕ → ℕ → Type 0
ClearedWord mark x y = (q : ℕ) → q < 16 → lane q y ≡ lane q x * (1 - lane q mark)

-- the values' elements are added in the marked lanes
unfoldable pub Marked : List ℕ → ℕ → List ℕ → List ℕ → Type 0
Marked values mark old new = EachWord (λ k x y. MarkedWord (values ! k) mark x y) old new

-- the elements of the bytes, from the i-th on, are added in the marked lanes
unfoldable pub MarkedBytes : List ℕ → ℕ → ℕ → List ℕ → List ℕ → Type 0
MarkedBytes bytes i mark old new = EachWord (λ k x y. MarkedWord (nib bytes (i + k)) mark x y) old new

-- the words times the values' elements, with the words `more` added
unfoldable pub Multiplied : List ℕ → List ℕ → List ℕ → List ℕ → Type 0
Multiplied values more old new = EachWord (λ k x y. MultipliedWord (values ! k) (more ! k) x y) old new

-- 0 in the marked lanes of each word
unfoldable pub Cleared : ℕ → List ℕ → List ℕ → Type 0
Cleared mark old new = EachWord (λ k x y. ClearedWord mark x y) old new

-- the bytes hold the elements of the words, sixteen to a word
unfoldable pub HoldsWords : List ℕ → List ℕ → Type 0
HoldsWords words bytes = (k q : ℕ) → k < length words → q < 16 → nib bytes (16 * k + q) ≡ lane q (get_or words k 0)

-- the words are stored over the start of the bytes, and what lies behind them is kept
pub record WordsStored (words before after : List ℕ) : Type 0 where
  pub elements : HoldsWords words after
  pub rest : drop (8 * length words) after ≡ drop (8 * length words) before

-- 15 in every lane but the marked ones
unfoldable pub keeping : ℕ → ℕ
keeping mark = bit_xor 0xffffffffffffffff (15 * mark)

-- f 0, f 1, .. added, n of them
unfoldable pub sum_of : ℕ → (ℕ → ℕ) → ℕ
sum_of zero f = 0
sum_of (suc n) f = bit_xor (sum_of n f) (f n)

-- the sum of the sixteen lanes of a word
unfoldable pub lane_sum : ℕ → ℕ
lane_sum w = sum_of 16 (λ q. lane q w)
