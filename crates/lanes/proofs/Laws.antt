-- The laws of lanes that proofs about words cite: a lane of a sum, a mask, a shift and a multiple, and that a word is fixed by its sixteen lanes, and a list of words by theirs.
-- Assumes nothing.
use mathlib.Core.Path.{◌≡◌, sym, ap, ◌∙◌}
use mathlib.Core.List.{List}
use Prim.Native.Nat.{ℕ, ◌+◌, ◌-◌, ◌*◌, ◌/◌, ◌%◌, ◌^◌, ◌≤◌, ◌<◌}
use native.Mathlib.Nat.{mod-lt, mod-eq_of_lt, zero-div, div-eq_of_lt, lt_of_le_of_lt, lt_of_lt_of_le, mul-le-mul_right}
use native.Mathlib.Omega.{arith}
use lib.Bits.{bit_xor, bit_and, and_le_r}
use lib.Dec.{lit<}
use lib.ListN.{length, get_or}
use lib.Pow.{pow_mono, shr-shr}
use lib.Seq.{ext_get_or}
use Rattle.memory.proofs.Digits.{digit-xor, digit_and, digit-mod, shl-div, shl_low, scaled_mod, masked_div, digits_fix}
use Rattle.lanes.specs.Lanes.{lane, Holds}

pub lane-lt : (k w : ℕ) → lane k w < 16
unfolding lane
lane-lt k w = mod-lt (w / 2 ^ (4 * k)) (lit< tt)

pub lane-zero : (k : ℕ) → lane k 0 ≡ 0
unfolding lane
lane-zero k = ap (λ (n : ℕ). n % 16) (zero-div (2 ^ (4 * k)))

-- the sum of two words is the sum in each lane
pub lane_xor : (k v w : ℕ) → lane k (bit_xor v w) ≡ bit_xor (lane k v) (lane k w)
unfolding lane
lane_xor k v w = digit-xor v w (4 * k) 4

pub lane_and : (k v w : ℕ) → lane k (bit_and v w) ≡ bit_and (lane k v) (lane k w)
unfolding lane
lane_and k v w = digit_and v w (4 * k) 4

-- a shift by whole lanes
pub lane-shr : (k w d : ℕ) → lane k (w / 2 ^ (4 * d)) ≡ lane (d + k) w
unfolding lane
lane-shr k w d =
    let e : 4 * d + 4 * k ≡ 4 * (d + k) = omega arith in
    ap (λ (n : ℕ). n % 16) (shr-shr w (4 * d) (4 * k) ∙ ap (λ (n : ℕ). w / 2 ^ n) e)

pub lane-shl : (k w d : ℕ) → k < 16 → d ≤ k → lane k (w * 2 ^ (4 * d) % 2 ^ 64) ≡ lane (k - d) w
unfolding lane
lane-shl k w d h g =
    let e : 4 * k - 4 * d ≡ 4 * (k - d) = omega arith in
    digit-mod (w * 2 ^ (4 * d)) 64 (4 * k) 4 (omega arith)
    ∙ ap (λ (n : ℕ). n % 16) (shl-div w (4 * d) (4 * k) (omega arith) ∙ ap (λ (n : ℕ). w / 2 ^ n) e)

pub lane-shl_low : (k w d : ℕ) → k < 16 → k < d → lane k (w * 2 ^ (4 * d) % 2 ^ 64) ≡ 0
unfolding lane
lane-shl_low k w d h g =
    digit-mod (w * 2 ^ (4 * d)) 64 (4 * k) 4 (omega arith) ∙ shl_low w (4 * d) (4 * k) 4 (omega arith)

-- a word has sixteen lanes
pub lane_past : (k w : ℕ) → w < 2 ^ 64 → 16 ≤ k → lane k w ≡ 0
unfolding lane
lane_past k w h g = ap (λ (n : ℕ). n % 16) (div-eq_of_lt (lt_of_lt_of_le h (pow_mono {i = 64} {j = 4 * k} (omega arith))))

-- a multiple of a masked word, where no lane carries: m is d in lane k, and its lanes below leave room for the factor s
pub lane_masked : (k w m d s : ℕ) → m % 2 ^ (4 * k) * s < 2 ^ (4 * k) → lane k m ≡ d → d * s < 16
    → lane k (bit_and w m * s) ≡ bit_and (lane k w) d * s
unfolding lane
lane_masked k w m d s room e small =
    ap (λ (n : ℕ). n % 16) (masked_div w m s (4 * k) room)
    ∙ scaled_mod (bit_and w m / 2 ^ (4 * k)) 16 s
    ∙ ap (λ (n : ℕ). n * s % 16) (digit_and w m (4 * k) 4 ∙ ap (bit_and (w / 2 ^ (4 * k) % 16)) e)
    ∙ mod-eq_of_lt (lt_of_le_of_lt (mul-le-mul_right s (and_le_r (w / 2 ^ (4 * k) % 16) d)) small)

-- the high bit of a lane, after a shift by three bits
pub lane_high : (k w : ℕ) → lane k (w / 2 ^ 3) % 2 ≡ lane k w / 8 % 2
unfolding lane
lane_high k w =
    let e : 3 + 4 * k ≡ 4 * k + 3 = omega arith in
    let g : w / 2 ^ 3 / 2 ^ (4 * k) ≡ w / 2 ^ (4 * k) / 8 =
    shr-shr w 3 (4 * k) ∙ ap (λ (n : ℕ). w / 2 ^ n) e ∙ sym (shr-shr w (4 * k) 3) in
    rw g (omega arith)

-- a word is fixed by its sixteen lanes
pub lanes_fix : (v w : ℕ) → v < 2 ^ 64 → w < 2 ^ 64 → ((k : ℕ) → k < 16 → lane k v ≡ lane k w) → v ≡ w
unfolding lane
lanes_fix v w hv hw h = sym (mod-eq_of_lt hv) ∙ digits_fix 4 v w 16 h ∙ mod-eq_of_lt hw

-- words are fixed by their lanes
pub words_fix : (f : ℕ → ℕ → ℕ) (x y : List ℕ) → length x ≡ length y → ((i : ℕ) → get_or x i 0 < 2 ^ 64) → ((i : ℕ) → get_or y i 0 < 2 ^ 64)
    → Holds f x → Holds f y → x ≡ y
unfolding Holds
words_fix f x y e hx hy p q =
    ext_get_or 0 x y e (λ i l. lanes_fix (get_or x i 0) (get_or y i 0) (hx i) (hy i) (λ k h. p i k l h ∙ sym (q i k (omega arith) h)))
