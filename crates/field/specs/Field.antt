-- Numbers from 0 to 15 as elements of the field of 16: polynomials of degree under 4 over the field of 2, modulo x^4 + x + 1 (document 01, "Numbers from 0 to 15").
-- Bit i of a number is the coefficient of x^i. Addition and subtraction are both `bit_xor`. Every definition is total: an operand counts by its low four bits.
-- Assumes nothing.
use Rattle.std.specs.Prelude.{ℕ, ◌+◌, ◌-◌, ◌*◌, ◌/◌, ◌%◌, ◌^◌}
use Rattle.std.specs.Int.Bits.{bit_xor}

-- the coefficient of x^i
unfoldable pub coefficient : ℕ → ℕ → ℕ
coefficient a i = a / 2 ^ i % 2

-- the product of two polynomials of degree under 4: the sum of b times x^i where a has x^i
unfoldable pub polynomial_product : ℕ → ℕ → ℕ
polynomial_product a b =
    bit_xor (bit_xor (bit_xor (coefficient a 0 * (b % 16)) (coefficient a 1 * (b % 16 * 2)))
    (coefficient a 2 * (b % 16 * 4))) (coefficient a 3 * (b % 16 * 8))

-- the field's polynomial, x^4 + x + 1
unfoldable pub modulus : ℕ
modulus = 2 ^ 4 + 2 ^ 1 + 2 ^ 0

-- the term x^d taken away by a multiple of the modulus, where p has it
unfoldable pub without : ℕ → ℕ → ℕ
without d p = bit_xor p (coefficient p d * (modulus * 2 ^ (d - 4)))

-- the product modulo x^4 + x + 1: a polynomial product has degree 6 at most
unfoldable pub mul : ℕ → ℕ → ℕ
mul a b = without 4 (without 5 (without 6 (polynomial_product a b)))
