-- Digits of a number in base two to some power: what stands in n bits from the bit j on, `w / 2 ^ j % 2 ^ n`, of a sum without carries, of a mask,
-- of a shift and of a multiple, and that a number is fixed by its digits. Assumes nothing.
use mathlib.Core.Path.{◌≡◌, sym, ap, ap₂, ◌∙◌}
use Prim.Native.Nat.{ℕ, zero, suc, ◌+◌, ◌-◌, ◌*◌, ◌/◌, ◌%◌, ◌^◌, ◌≤◌, ◌<◌}
use native.Mathlib.Nat.{add_comm, mul_comm, mul-zero, mul-suc, mod-one, add-mul, mul_assoc, mul_right_comm, div-add-mod', mul-mod_left, mul-add-mod_self_right, mul-le-mul_right, lt_of_le_of_lt}
use native.Mathlib.Omega.{arith}
use lib.Arith.{digits_div, digits_mod}
use lib.Bits.{bit_xor, bit_and, xor_shr, xor_mod, and_shr, and_mod, and_le_r}
use lib.Pow.{pow-add, shl-shr, shr-shr, field, mod-mod-pow, mod-pow-add}

-- the digit of an exclusive or, and of a conjunction, is that of the digits
pub digit-xor : (v w j n : ℕ) → bit_xor v w / 2 ^ j % 2 ^ n ≡ bit_xor (v / 2 ^ j % 2 ^ n) (w / 2 ^ j % 2 ^ n)
digit-xor v w j n = rw (xor_shr v w j, xor_mod (v / 2 ^ j) (w / 2 ^ j) n)

pub digit_and : (v w j n : ℕ) → bit_and v w / 2 ^ j % 2 ^ n ≡ bit_and (v / 2 ^ j % 2 ^ n) (w / 2 ^ j % 2 ^ n)
digit_and v w j n = rw (and_shr v w j, and_mod (v / 2 ^ j) (w / 2 ^ j) n)

-- a digit below the bit t is not changed by what is cut off from t on
pub digit-mod : (w t j n : ℕ) → j + n ≤ t → w % 2 ^ t / 2 ^ j % 2 ^ n ≡ w / 2 ^ j % 2 ^ n
digit-mod w t j n h =
    let e : t ≡ (t - j - n + n) + j = omega arith in
    ap (λ (m : ℕ). w % 2 ^ m / 2 ^ j % 2 ^ n) e
    ∙ ap (λ (m : ℕ). m % 2 ^ n) (field w (t - j - n + n) j)
    ∙ mod-mod-pow (w / 2 ^ j) (t - j - n) n

-- a shift to the left by s: the digit at j was at j - s
pub shl-div : (w s j : ℕ) → s ≤ j → w * 2 ^ s / 2 ^ j ≡ w / 2 ^ (j - s)
shl-div w s j h =
    let e : j ≡ s + (j - s) = omega arith in
    ap (λ (m : ℕ). w * 2 ^ s / 2 ^ m) e
    ∙ sym (shr-shr (w * 2 ^ s) s (j - s))
    ∙ ap (λ (m : ℕ). m / 2 ^ (j - s)) (shl-shr w s)

-- and a digit below s is 0
pub shl_low : (w s j n : ℕ) → j + n ≤ s → w * 2 ^ s / 2 ^ j % 2 ^ n ≡ 0
shl_low w s j n h =
    let e : s ≡ (s - j - n + n) + j = omega arith in
    ap (λ (m : ℕ). w * 2 ^ m / 2 ^ j % 2 ^ n) e
    ∙ ap (λ (m : ℕ). w * m / 2 ^ j % 2 ^ n) (pow-add 2 (s - j - n + n) j)
    ∙ ap (λ (m : ℕ). m / 2 ^ j % 2 ^ n) (sym (mul_assoc w (2 ^ (s - j - n + n)) (2 ^ j)))
    ∙ ap (λ (m : ℕ). m % 2 ^ n) (shl-shr (w * 2 ^ (s - j - n + n)) j)
    ∙ ap (λ (m : ℕ). w * m % 2 ^ n) (pow-add 2 (s - j - n) n)
    ∙ ap (λ (m : ℕ). m % 2 ^ n) (sym (mul_assoc w (2 ^ (s - j - n)) (2 ^ n)))
    ∙ mul-mod_left (w * 2 ^ (s - j - n)) (2 ^ n)

-- a multiple of which no digit carries: digits are multiplied one by one
pub scaled_div : (u p s : ℕ) → u % p * s < p → u * s / p ≡ u / p * s
scaled_div u p s h =
    ap (λ (x : ℕ). x * s / p) (sym (div-add-mod' u p))
    ∙ ap (λ (x : ℕ). x / p) (add-mul (u / p * p) (u % p) s ∙ ap (λ (x : ℕ). x + u % p * s) (mul_right_comm (u / p) p s))
    ∙ digits_div (u / p * s) h

pub scaled_mod : (u b s : ℕ) → u * s % b ≡ u % b * s % b
scaled_mod u b s =
    ap (λ (x : ℕ). x * s % b) (sym (div-add-mod' u b))
    ∙ ap (λ (x : ℕ). x % b) (add-mul (u / b * b) (u % b) s ∙ ap (λ (x : ℕ). x + u % b * s) (mul_right_comm (u / b) b s))
    ∙ mul-add-mod_self_right (u / b * s) b (u % b * s)

-- under a mask whose own low part leaves room for the factor s, no digit carries
pub masked_div : (w m s j : ℕ) → m % 2 ^ j * s < 2 ^ j → bit_and w m * s / 2 ^ j ≡ bit_and w m / 2 ^ j * s
masked_div w m s j h =
    scaled_div (bit_and w m) (2 ^ j) s
    (lt_of_le_of_lt (mul-le-mul_right s (rw (and_mod w m j) (and_le_r (w % 2 ^ j) (m % 2 ^ j)))) h)

-- two numbers with the same n digits of b bits agree in their low n * b bits
pub digits_fix : (b v w n : ℕ) → ((k : ℕ) → k < n → v / 2 ^ (b * k) % 2 ^ b ≡ w / 2 ^ (b * k) % 2 ^ b) → v % 2 ^ (b * n) ≡ w % 2 ^ (b * n)
digits_fix b v w zero h = rw (mul-zero b) (mod-one v ∙ sym (mod-one w))
digits_fix b v w (suc n) h =
    rw (mul-suc b n, add_comm (b * n) b, mod-pow-add v b (b * n), mod-pow-add w b (b * n))
    (ap₂ (λ (x y : ℕ). x * 2 ^ (b * n) + y) (h n (omega arith)) (digits_fix b v w n (λ k l. h k (omega arith))))

-- a number has one quotient and one rest
pub same_quotient : (m q r q' r' : ℕ) → r < m → r' < m → m * q + r ≡ m * q' + r' → q ≡ q'
same_quotient m q r q' r' h h' e =
    sym (digits_div q h) ∙ ap (λ (n : ℕ). n / m) (rw (mul_comm q m, mul_comm q' m) e) ∙ digits_div q' h'

pub same_rest : (m q r q' r' : ℕ) → r < m → r' < m → m * q + r ≡ m * q' + r' → r ≡ r'
same_rest m q r q' r' h h' e =
    sym (digits_mod q h) ∙ ap (λ (n : ℕ). n % m) (rw (mul_comm q m, mul_comm q' m) e) ∙ digits_mod q' h'
