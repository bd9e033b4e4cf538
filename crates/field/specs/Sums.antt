-- Sums of products by their rules: the product of a row and a vector (specs/Vectors.antt, `dot`) where neither is a list. What functions on words promise each other is said with it.
-- Assumes nothing.
use Rattle.std.specs.Prelude.{ℕ, zero, suc}
use Rattle.std.specs.Int.Bits.{bit_xor}
use Rattle.field.specs.Field.{mul}

-- the sum of the n products f i · g i
unfoldable pub dot_of : ℕ → (ℕ → ℕ) → (ℕ → ℕ) → ℕ
dot_of zero f g = 0
dot_of (suc n) f g = bit_xor (dot_of n f g) (mul (f n) (g n))
