-- Laws of the operations on bits: what holds of one or two bits, and sums in another order.
-- Assumes nothing.
use mathlib.Core.Path.{◌≡◌, sym, ap, ◌∙◌}
use Prim.Native.Nat.{ℕ, zero, suc, ◌-◌, ◌%◌, ◌^◌, ◌<◌}
use native.Mathlib.Nat.{mod-lt, zero-lt-suc, div-add-mod', pow-suc, lt_of_lt_of_le}
use native.Mathlib.Omega.{arith}
pub use lib.Bits.{xor_assoc}
use lib.Bits.{xor_assoc, bit_xor, bit_and, xor_comm, xor_self, xor_zero_l, xor_zero_r, xor_add_and, and_mask}

-- a law of one or two bits holds where it holds at 0 and 1
pub one_bit : (P : ℕ → Type 0) → P 0 → P 1 → (x : ℕ) → x < 2 → P x
one_bit P p q zero h = p
one_bit P p q (suc zero) h = q
one_bit P p q (suc (suc x)) h = absurd (omega arith)

pub two_bits : (P : ℕ → ℕ → Type 0) → P 0 0 → P 0 1 → P 1 0 → P 1 1 → (x y : ℕ) → x < 2 → y < 2 → P x y
two_bits P a b c d x y hx hy = one_bit (λ (u : ℕ). P u y) (one_bit (P 0) a b y hy) (one_bit (P 1) c d y hy) x hx

pub xor_left_comm : (a b c : ℕ) → bit_xor a (bit_xor b c) ≡ bit_xor b (bit_xor a c)
xor_left_comm a b c = sym (xor_assoc a b c) ∙ ap (λ (n : ℕ). bit_xor n c) (xor_comm a b) ∙ xor_assoc b a c

-- a sum of two sums, the middle two exchanged
pub xor_middle : (a b c d : ℕ) → bit_xor (bit_xor a b) (bit_xor c d) ≡ bit_xor (bit_xor a c) (bit_xor b d)
xor_middle a b c d = xor_assoc a b (bit_xor c d) ∙ ap (bit_xor a) (xor_left_comm b c d) ∙ sym (xor_assoc a c (bit_xor b d))

-- what is added twice is gone
pub xor_cancel : (a b : ℕ) → bit_xor a (bit_xor a b) ≡ b
xor_cancel a b = sym (xor_assoc a a b) ∙ ap (λ (n : ℕ). bit_xor n b) (xor_self a) ∙ xor_zero_l b

-- a sum is 0 only of equal numbers
pub xor-zero-same : (a b : ℕ) → bit_xor a b ≡ 0 → a ≡ b
xor-zero-same a b e = sym (xor_zero_r a) ∙ ap (bit_xor a) (sym e) ∙ xor_cancel a b

-- the complement within k bits is a sum with k ones
pub xor_ones : (k a : ℕ) → a < 2 ^ k → bit_xor a (2 ^ k - 1) ≡ 2 ^ k - 1 - a
xor_ones k a h =
    let s = xor_add_and a (2 ^ k - 1) in
    let m : bit_and a (2 ^ k - 1) ≡ a = and_mask a k ∙ mod_small a (2 ^ k) h in
    omega arith
  where
    mod_small : (a m : ℕ) → a < m → a % m ≡ a
    mod_small a m h = native.Mathlib.Nat.mod-eq_of_lt h
