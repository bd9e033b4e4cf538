-- Elements in bytes (section 4.3 of the submission, read by document 01): two to a byte, the first in the low four bits.
-- An odd last element leaves four zero bits when written, and a reader ignores them.
-- Assumes nothing.
use Rattle.std.specs.Prelude.{List, [], ◌∷◌, ℕ, ◌+◌, ◌*◌, ◌/◌, ◌%◌, ◌^◌, ◌<◌, get_or}
use Rattle.memory.specs.Lists.{table}

-- every entry of the vector is an element
abbrev pub Elements : List ℕ → Type 0
Elements v = (i : ℕ) → get_or v i 0 < 16

-- every entry of the list is a byte
abbrev pub Bytes : List ℕ → Type 0
Bytes b = (i : ℕ) → get_or b i 0 < 256

-- section 4.3: pack(v)
unfoldable pub pack : List ℕ → List ℕ
pack [] = []
pack (a ∷ []) = (a % 16) ∷ []
pack (a ∷ b ∷ v) = (a % 16 + 16 * (b % 16)) ∷ pack v

-- the bytes that n packed elements take
unfoldable pub packed_length : ℕ → ℕ
packed_length n = (n + 1) / 2

-- the i-th four bits of a list of bytes, the low half of a byte first; 0 past the end
unfoldable pub nib : List ℕ → ℕ → ℕ
nib bytes i = get_or bytes (i / 2) 0 / 16 ^ (i % 2) % 16

-- the first n elements that a list of bytes holds
unfoldable pub unpack : ℕ → List ℕ → List ℕ
unpack n bytes = table n (nib bytes)
