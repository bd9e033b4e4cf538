-- Bit-packed fields, most significant first (document 01, "The clip envelope"): a number as bits, bits as a number, bits as bytes and bytes as bits.
-- Assumes nothing.
use Rattle.std.specs.Prelude.{List, [], ◌∷◌, ◌++◌, ℕ, zero, suc, ◌+◌, ◌*◌, ◌/◌, ◌%◌, ◌^◌, length, take, drop}

-- the n bits of a field that holds x
unfoldable pub bits : ℕ → ℕ → List ℕ
bits zero x = []
bits (suc n) x = x / 2 ^ n % 2 ∷ bits n x

-- the number that bits spell
unfoldable pub spelled : List ℕ → ℕ
spelled [] = 0
spelled (b ∷ x) = b * 2 ^ length x + spelled x

-- the first n bytes of bits, 8 to a byte
unfoldable pub bytes : ℕ → List ℕ → List ℕ
bytes zero x = []
bytes (suc n) x = spelled (take 8 x) ∷ bytes n (drop 8 x)

-- the bits of bytes
unfoldable pub bits_of : List ℕ → List ℕ
bits_of [] = []
bits_of (b ∷ x) = bits 8 b ++ bits_of x

-- the field of n bits from the bit `at` on
unfoldable pub field : ℕ → ℕ → List ℕ → ℕ
field at n x = spelled (take n (drop at (bits_of x)))
