-- The laws of bit-packed fields: a field spells its number, fields stand one behind the other, and eight bits are a byte.
-- Assumes nothing.
use mathlib.Core.Path.{◌≡◌, refl, sym, ap, ap₂, ◌∙◌}
use mathlib.Core.List.{List, [], ◌∷◌, ◌++◌}
use Prim.Native.Nat.{ℕ, zero, suc, ◌+◌, ◌*◌, ◌/◌, ◌%◌, ◌^◌}
use native.Mathlib.Nat.{zero-add, suc-add, add_assoc, add_comm, add-mul, mul_assoc, zero-mul, mod-one}
use native.Mathlib.Omega.{arith}
use lib.ListN.{length, length-append}
use lib.Pow.{pow-add, shr-shr, mod-pow-add}
use lib.Seq.{take_at, drop_at}
use Rattle.envelope.specs.Bits.{bits, spelled, bytes}

pub length-bits : (n x : ℕ) → length (bits n x) ≡ n
unfolding bits
length-bits zero x = refl
length-bits (suc n) x = ap suc (length-bits n x)

-- a field spells the low n bits of its number
pub spelled-bits : (n x : ℕ) → spelled (bits n x) ≡ x % 2 ^ n
unfolding bits spelled
spelled-bits zero x = sym (mod-one x)
spelled-bits (suc n) x =
    ap₂ (λ (k r : ℕ). x / 2 ^ n % 2 * 2 ^ k + r) (length-bits n x) (spelled-bits n x)
    ∙ sym (mod-pow-add x 1 n)
    ∙ ap (λ (k : ℕ). x % 2 ^ k) (one n)
  where
    one : (n : ℕ) → 1 + n ≡ suc n
    one n = omega arith

-- the first of two runs of bits weighs as much as the second is long
pub spelled-append : (x y : List ℕ) → spelled (x ++ y) ≡ spelled x * 2 ^ length y + spelled y
unfolding spelled
spelled-append [] y = sym (ap (λ (k : ℕ). k + spelled y) (zero-mul (2 ^ length y)) ∙ zero-add (spelled y))
spelled-append (b ∷ x) y =
    ap₂ (λ (k r : ℕ). b * k + r) (ap (λ (k : ℕ). 2 ^ k) (length-append x y) ∙ pow-add 2 (length x) (length y)) (spelled-append x y)
    ∙ ap (λ (k : ℕ). k + (spelled x * 2 ^ length y + spelled y)) (sym (mul_assoc b (2 ^ length x) (2 ^ length y)))
    ∙ sym (add_assoc (b * 2 ^ length x * 2 ^ length y) (spelled x * 2 ^ length y) (spelled y))
    ∙ ap (λ (k : ℕ). k + spelled y) (sym (add-mul (b * 2 ^ length x) (spelled x) (2 ^ length y)))

-- a field of m + n bits is its upper m bits and its lower n
pub bits-append : (m n x : ℕ) → bits (m + n) x ≡ bits m (x / 2 ^ n) ++ bits n x
unfolding bits
bits-append zero n x = ap (λ (k : ℕ). bits k x) (zero-add n)
bits-append (suc m) n x =
    ap (λ (k : ℕ). bits k x) (suc-add m n)
    ∙ ap₂ (λ (b : ℕ) (y : List ℕ). b ∷ y)
    (ap (λ (k : ℕ). k % 2) (ap (λ (k : ℕ). x / 2 ^ k) (add_comm m n) ∙ sym (shr-shr x n m)))
    (bits-append m n x)

-- the first eight bits are the first byte
pub bytes-append : (n : ℕ) (a x : List ℕ) → length a ≡ 8 → bytes (suc n) (a ++ x) ≡ spelled a ∷ bytes n x
unfolding bytes
bytes-append n a x h = ap₂ (λ (y z : List ℕ). spelled y ∷ bytes n z) (take_at a x 8 h) (drop_at a x 8 h)
