-- The laws of the field of 16: `mul` is commutative and associative, distributes over `bit_xor`, has 0 and 1, and every division by an element other than 0 has exactly one result.
-- Each rests on a test that antt computes over the elements, at most 16 * 16 * 16 cases, and is carried to all numbers by `mul_low`: an operand counts by its low four bits.
-- Assumes nothing.
use mathlib.Core.Path.{◌≡◌, sym, ap, ap₂, ◌∙◌, subst}
use mathlib.Core.Logic.{◌≢◌, ◌⊎◌, inl, inr}
use Prim.Native.Nat.{ℕ, zero, suc, ◌+◌, ◌-◌, ◌*◌, ◌/◌, ◌%◌, ◌^◌, ◌<◌}
use native.Mathlib.Nat.{mod-mod, mod-lt, mod-eq_of_lt}
use native.Mathlib.Decide.{ℕ_discrete}
use native.Mathlib.Omega.{arith}
use lib.Bits.{bit_xor, xor_mod, xor_lt}
use lib.Dec.{T, ltb, lit<, ltb→lt}
use Rattle.memory.proofs.Every.{every2_at, same1, same2, same3}
use Rattle.field.specs.Field.{coefficient, polynomial_product, modulus, without, mul}

-- the low four bits are an element
pub low_lt : (a : ℕ) → a % 16 < 16
low_lt a = mod-lt a (lit< tt)

-- the four low coefficients are those of the low four bits
coefficient_low : (a : ℕ) → (coefficient (a % 16) 0 ≡ coefficient a 0) × (coefficient (a % 16) 1 ≡ coefficient a 1)
    × (coefficient (a % 16) 2 ≡ coefficient a 2) × (coefficient (a % 16) 3 ≡ coefficient a 3)
unfolding coefficient
coefficient_low a = omega arith

-- an operand counts by its low four bits
pub mul_low : (a b : ℕ) → mul (a % 16) (b % 16) ≡ mul a b
unfolding mul polynomial_product
mul_low a b =
    let e = coefficient_low a in
    simp (e.0, e.1, e.2, e.3, mod-mod b 16)

pub mul_low_l : (a b : ℕ) → mul (a % 16) b ≡ mul a b
mul_low_l a b = sym (mul_low (a % 16) b) ∙ ap (λ (x : ℕ). mul x (b % 16)) (mod-mod a 16) ∙ mul_low a b

pub mul_low_r : (a b : ℕ) → mul a (b % 16) ≡ mul a b
mul_low_r a b = sym (mul_low a (b % 16)) ∙ ap (λ (x : ℕ). mul (a % 16) x) (mod-mod b 16) ∙ mul_low a b

-- ---- the tests

lt-elements : (a b : ℕ) → a < 16 → b < 16 → T (ltb (mul a b) 16)
unfolding mul polynomial_product coefficient without modulus
lt-elements = every2_at 16 (λ a b. ltb (mul a b) 16) tt

zero-elements : (a : ℕ) → a < 16 → mul 0 a ≡ 0
unfolding mul polynomial_product coefficient without modulus
zero-elements = same1 16 (λ a. mul 0 a) (λ a. 0) tt

one-elements : (a : ℕ) → a < 16 → mul 1 a ≡ a
unfolding mul polynomial_product coefficient without modulus
one-elements = same1 16 (λ a. mul 1 a) (λ a. a) tt

comm_elements : (a b : ℕ) → a < 16 → b < 16 → mul a b ≡ mul b a
unfolding mul polynomial_product coefficient without modulus
comm_elements = same2 16 (λ a b. mul a b) (λ a b. mul b a) tt

-- a product is an element
pub mul-lt : (a b : ℕ) → mul a b < 16
mul-lt a b =
    subst (λ (x : ℕ). x < 16) (mul_low a b)
    (ltb→lt (mul (a % 16) (b % 16)) 16 (lt-elements (a % 16) (b % 16) (low_lt a) (low_lt b)))

-- ---- tests of three elements, which look products up in the digits of one number

-- the products of the first n pairs as the digits of a number to the base 16, that of a and b at the place 16 * a + b
digits_below : ℕ → ℕ
digits_below zero = 0
digits_below (suc n) = digits_below n + mul (n / 16) (n % 16) * 16 ^ n

-- the digit of a and b
digit_of : ℕ → ℕ → ℕ
digit_of a b = digits_below 256 / 16 ^ (16 * a + b) % 16

digit-elements : (a b : ℕ) → a < 16 → b < 16 → digit_of a b ≡ mul a b
unfolding digit_of digits_below mul polynomial_product coefficient without modulus
digit-elements = same2 16 (λ a b. digit_of a b) (λ a b. mul a b) tt

assoc_digits : (a b c : ℕ) → a < 16 → b < 16 → c < 16 → digit_of (digit_of a b) c ≡ digit_of a (digit_of b c)
unfolding digit_of digits_below mul polynomial_product coefficient without modulus
assoc_digits = same3 16 (λ a b c. digit_of (digit_of a b) c) (λ a b c. digit_of a (digit_of b c)) tt

xor_digits : (a b c : ℕ) → a < 16 → b < 16 → c < 16 → digit_of a (bit_xor b c) ≡ bit_xor (digit_of a b) (digit_of a c)
unfolding digit_of digits_below mul polynomial_product coefficient without modulus
xor_digits = same3 16 (λ a b c. digit_of a (bit_xor b c)) (λ a b c. bit_xor (digit_of a b) (digit_of a c)) tt

assoc_elements : (a b c : ℕ) → a < 16 → b < 16 → c < 16 → mul (mul a b) c ≡ mul a (mul b c)
assoc_elements a b c ha hb hc =
    sym (ap (λ (x : ℕ). digit_of x c) (digit-elements a b ha hb) ∙ digit-elements (mul a b) c (mul-lt a b) hc)
    ∙ assoc_digits a b c ha hb hc
    ∙ (ap (digit_of a) (digit-elements b c hb hc) ∙ digit-elements a (mul b c) ha (mul-lt b c))

xor-elements : (a b c : ℕ) → a < 16 → b < 16 → c < 16 → mul a (bit_xor b c) ≡ bit_xor (mul a b) (mul a c)
xor-elements a b c ha hb hc =
    sym (digit-elements a (bit_xor b c) ha (xor_lt 4 b c hb hc))
    ∙ xor_digits a b c ha hb hc
    ∙ ap₂ bit_xor (digit-elements a b ha hb) (digit-elements a c ha hc)

-- ---- the laws

pub mul-mod : (a b : ℕ) → mul a b % 16 ≡ mul a b
mul-mod a b = mod-eq_of_lt (mul-lt a b)

pub mul_comm : (a b : ℕ) → mul a b ≡ mul b a
mul_comm a b =
    sym (mul_low a b) ∙ comm_elements (a % 16) (b % 16) (low_lt a) (low_lt b) ∙ mul_low b a

pub mul_assoc : (a b c : ℕ) → mul (mul a b) c ≡ mul a (mul b c)
mul_assoc a b c =
    sym (mul_low_r (mul a b) c) ∙ ap (λ (x : ℕ). mul x (c % 16)) (sym (mul_low a b))
    ∙ assoc_elements (a % 16) (b % 16) (c % 16) (low_lt a) (low_lt b) (low_lt c)
    ∙ ap (mul (a % 16)) (mul_low b c) ∙ mul_low_l a (mul b c)

pub mul-xor_r : (a b c : ℕ) → mul a (bit_xor b c) ≡ bit_xor (mul a b) (mul a c)
mul-xor_r a b c =
    sym (mul_low a (bit_xor b c)) ∙ ap (mul (a % 16)) (xor_mod b c 4)
    ∙ xor-elements (a % 16) (b % 16) (c % 16) (low_lt a) (low_lt b) (low_lt c)
    ∙ ap₂ bit_xor (mul_low a b) (mul_low a c)

pub mul-xor_l : (a b c : ℕ) → mul (bit_xor a b) c ≡ bit_xor (mul a c) (mul b c)
mul-xor_l a b c =
    mul_comm (bit_xor a b) c ∙ mul-xor_r c a b ∙ ap₂ bit_xor (mul_comm c a) (mul_comm c b)

pub mul-zero_l : (a : ℕ) → mul 0 a ≡ 0
mul-zero_l a = sym (mul_low_r 0 a) ∙ zero-elements (a % 16) (low_lt a)

pub mul-zero_r : (a : ℕ) → mul a 0 ≡ 0
mul-zero_r a = mul_comm a 0 ∙ mul-zero_l a

pub mul-one_l : (a : ℕ) → mul 1 a ≡ a % 16
mul-one_l a = sym (mul_low_r 1 a) ∙ one-elements (a % 16) (low_lt a)

pub mul-one_r : (a : ℕ) → mul a 1 ≡ a % 16
mul-one_r a = mul_comm a 1 ∙ mul-one_l a

-- ---- division

-- the square of an element
square : ℕ → ℕ
square a = mul a a

-- the element that times d is 1, for d other than 0: d to the power 14
pub inverse : ℕ → ℕ
inverse d = mul (mul (square d) (square (square d))) (square (square (square d)))

inverse-elements : (d : ℕ) → d < 15 → mul (inverse (suc d)) (suc d) ≡ 1
unfolding inverse square mul polynomial_product coefficient without modulus
inverse-elements = same1 15 (λ d. mul (inverse (suc d)) (suc d)) (λ d. 1) tt

square_low : (a : ℕ) → square (a % 16) ≡ square a
unfolding square
square_low a = mul_low a a

inverse_low : (d : ℕ) → inverse (d % 16) ≡ inverse d
unfolding inverse
inverse_low d = simp (square_low d)

pub inverse-mul : (d : ℕ) → d % 16 ≢ 0 → mul (inverse d) d ≡ 1
inverse-mul d h =
    let lt : d % 16 < 16 = low_lt d in
    let e : suc (d % 16 - 1) ≡ d % 16 = omega arith in
    sym (mul_low_r (inverse d) d) ∙ ap (λ (x : ℕ). mul x (d % 16)) (sym (inverse_low d))
    ∙ subst (λ (x : ℕ). mul (inverse x) x ≡ 1) e (inverse-elements (d % 16 - 1) (omega arith))

-- c divided by d: an element that times d is c, and the only one
pub record Quotient (c d : ℕ) : Type 0 where
  pub result : ℕ
  pub small : result < 16
  pub exact : mul result d ≡ c
  pub only : (e : ℕ) → e < 16 → mul e d ≡ c → e ≡ result

-- for d other than 0 exactly one element times d is c
pub quotient : (c d : ℕ) → d % 16 ≢ 0 → c < 16 → Quotient c d
quotient c d h hc = record {
  result = mul c (inverse d);
  small = mul-lt c (inverse d);
  exact = mul_assoc c (inverse d) d ∙ ap (mul c) (inverse-mul d h) ∙ mul-one_r c ∙ mod-eq_of_lt hc;
  only = λ e he q.
      sym (mod-eq_of_lt he) ∙ sym (mul-one_r e) ∙ ap (mul e) (sym (inverse-mul d h) ∙ mul_comm (inverse d) d)
      ∙ sym (mul_assoc e d (inverse d)) ∙ ap (λ (x : ℕ). mul x (inverse d)) q;
}

-- what two products by the same element other than 0 have in common
pub mul_cancel_r : (a b d : ℕ) → d % 16 ≢ 0 → mul a d ≡ mul b d → a % 16 ≡ b % 16
mul_cancel_r a b d h q =
    let r = quotient (mul b d) d h (mul-lt b d) in
    r.only (a % 16) (low_lt a) (mul_low_l a d ∙ q) ∙ sym (r.only (b % 16) (low_lt b) (mul_low_l b d))

-- a product is 0 only where a factor is
pub mul_no_zero_divisors : (a d : ℕ) → mul a d ≡ 0 → (a % 16 ≡ 0) ⊎ (d % 16 ≡ 0)
mul_no_zero_divisors a d q =
    elim (ℕ_discrete (d % 16) 0) as (λ x. (a % 16 ≡ 0) ⊎ (d % 16 ≡ 0)) [
      | yes y ↦ inr y
      | no y ↦ inl (mul_cancel_r a 0 d y (q ∙ sym (mul-zero_l d)))
    ]
