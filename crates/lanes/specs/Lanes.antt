-- Sixteen elements of the field of 16 in the sixteen four-bit lanes of a word of 64 bits, lane 0 in the lowest bits.
-- A word below 2 ^ 64 is fixed by its sixteen lanes, so what is said of each lane is said of the word.
-- Assumes nothing.
use Rattle.std.specs.Prelude.{◌≡◌, List, ℕ, ◌+◌, ◌*◌, ◌/◌, ◌%◌, ◌^◌, ◌<◌, length, get_or}
use Rattle.memory.specs.Lists.{table}
use Rattle.field.specs.Field.{mul}
use Rattle.field.specs.Packing.{nib}

-- the element in lane k of a word
unfoldable pub lane : ℕ → ℕ → ℕ
lane k w = w / 2 ^ (4 * k) % 16

-- place k of the words holds in lane q the element f q k
unfoldable pub Holds : (ℕ → ℕ → ℕ) → List ℕ → Type 0
Holds f ws = (k q : ℕ) → k < length ws → q < 16 → lane q (get_or ws k 0) ≡ f q k

-- each lane of r is the product of that lane of w with the element e
unfoldable pub Times : ℕ → ℕ → ℕ → Type 0
Times w e r = (k : ℕ) → k < 16 → lane k r ≡ mul (lane k w) e

-- entry e of the words is e times w, lane by lane
unfoldable pub Multiples : ℕ → List ℕ → Type 0
Multiples w ws = (e k : ℕ) → e < 16 → k < 16 → lane k (get_or ws e 0) ≡ mul e (lane k w)

-- the eight bytes of a word, the lowest first
unfoldable pub word_bytes : ℕ → List ℕ
word_bytes w = table 8 (λ i. w / 2 ^ (8 * i) % 256)

-- the sixteen lanes of r are the sixteen elements that stand in the bytes from the place `at` on
unfoldable pub WordAt : List ℕ → ℕ → ℕ → Type 0
WordAt bytes at r = (q : ℕ) → q < 16 → lane q r ≡ nib bytes (2 * at + q)
