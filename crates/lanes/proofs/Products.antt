-- Words of lanes times an element: what each lane of the masked sums holds, and that it is the product of the field.
-- Assumes nothing.
use mathlib.Core.Path.{◌≡◌, sym, ap, ap₂, ◌∙◌}
use mathlib.Core.List.{List, [], ◌∷◌, map}
use Prim.Native.Nat.{ℕ, ◌*◌, ◌/◌, ◌%◌, ◌^◌, ◌<◌}
use native.Mathlib.Nat.{mul-zero, mul-one, mod-lt}
use native.Mathlib.Omega.{arith}
use lib.Bits.{bit_xor, bit_and, and_mask}
use lib.Dec.{T, ltb, ltb→lt, lit<}
use lib.ListN.{get_or, get_or-map}
use lib.Pow.{mod-mod-pow}
use mir.Syntax.{w64}
use mir.Val.{Fits}
use Rattle.memory.proofs.Bits.{one_bit}
use Rattle.memory.proofs.Digits.{digit-mod}
use Rattle.memory.proofs.Every.{every_at, same1, same2}
use Rattle.field.proofs.Laws.{mul_low_r}
use Rattle.field.specs.Field.{mul, coefficient, polynomial_product, without, modulus}
use Rattle.lanes.specs.Lanes.{lane, Times, Multiples}
use Rattle.lanes.proofs.Laws.{lane-lt, lane-zero, lane_xor, lane_masked, lane_high}

-- a mask with d in each of its lanes leaves room for the factor s below each lane
abbrev Mask : ℕ → ℕ → ℕ → Type 0
Mask m d s = ((k : ℕ) → k < 16 → T (ltb (m % 2 ^ (4 * k) * s) (2 ^ (4 * k)))) × ((k : ℕ) → k < 16 → lane k m ≡ d)

sevens : Mask 0x7777777777777777 7 2
unfolding lane
sevens = (every_at 16 (λ k. ltb (0x7777777777777777 % 2 ^ (4 * k) * 2) (2 ^ (4 * k))) tt, same1 16 (λ k. lane k 0x7777777777777777) (λ k. 7) tt)

ones : Mask 0x1111111111111111 1 3
unfolding lane
ones = (every_at 16 (λ k. ltb (0x1111111111111111 % 2 ^ (4 * k) * 3) (2 ^ (4 * k))) tt, same1 16 (λ k. lane k 0x1111111111111111) (λ k. 1) tt)

masked : (m d s : ℕ) → Mask m d s → d * s < 16 → (k w : ℕ) → k < 16 → lane k (bit_and w m * s) ≡ bit_and (lane k w) d * s
masked m d s f small k w h = lane_masked k w m d s (ltb→lt (m % 2 ^ (4 * k) * s) (2 ^ (4 * k)) (f.0 k h)) (f.1 k h) small

-- x times an element, by the two masks
doubled_element : (v : ℕ) → v < 16 → bit_xor (bit_and v 7 * 2) (v / 8 % 2 * 3) ≡ mul v 2
unfolding mul polynomial_product coefficient without modulus
doubled_element = same1 16 (λ v. bit_xor (bit_and v 7 * 2) (v / 8 % 2 * 3)) (λ v. mul v 2) tt

pub doubled_lanes : (w : ℕ) → Times w 2 (bit_xor (bit_and w 0x7777777777777777 * 2) (bit_and (w / 2 ^ 3) 0x1111111111111111 * 3))
unfolding Times
doubled_lanes w k h =
    lane_xor k (bit_and w 0x7777777777777777 * 2) (bit_and (w / 2 ^ 3) 0x1111111111111111 * 3)
    ∙ ap₂ bit_xor (masked 0x7777777777777777 7 2 sevens (omega arith) k w h)
    (masked 0x1111111111111111 1 3 ones (omega arith) k (w / 2 ^ 3) h
    ∙ ap (λ (n : ℕ). n * 3) (and_mask (lane k (w / 2 ^ 3)) 1 ∙ lane_high k w))
    ∙ doubled_element (lane k w) (lane-lt k w)

-- ---- a word under a bit

pub bit_fits : (w n : ℕ) → w < 2 ^ 64 → Fits w64 (w * (n % 2))
bit_fits w n h = record { fits = one_bit (λ (b : ℕ). w * b < 2 ^ 64) (rw (mul-zero w) (lit< tt)) (rw (mul-one w) h) (n % 2) (mod-lt n (lit< tt)) }

lane_bit : (k w n : ℕ) → lane k (w * (n % 2)) ≡ lane k w * (n % 2)
lane_bit k w n =
    one_bit (λ (b : ℕ). lane k (w * b) ≡ lane k w * b) (rw (mul-zero w, mul-zero (lane k w)) (lane-zero k))
    (rw (mul-one w, mul-one (lane k w))) (n % 2) (mod-lt n (lit< tt))

-- the sum of those of v, 2v, 4v, 8v whose bit e has
abbrev by_bits : ℕ → ℕ → ℕ → ℕ → ℕ → ℕ
by_bits v v2 v4 v8 e = bit_xor (bit_xor (bit_xor (v * (e % 2)) (v2 * (e / 2 % 2))) (v4 * (e / 4 % 2))) (v8 * (e / 8 % 2))

product_element : (v e : ℕ) → v < 16 → e < 16 → by_bits v (mul v 2) (mul (mul v 2) 2) (mul (mul (mul v 2) 2) 2) e ≡ mul v e
unfolding mul polynomial_product coefficient without modulus
product_element = same2 16 (λ v e. by_bits v (mul v 2) (mul (mul v 2) 2) (mul (mul (mul v 2) 2) 2) e) mul tt

bits_low : (v v2 v4 v8 e : ℕ) → by_bits v v2 v4 v8 (e % 16) ≡ by_bits v v2 v4 v8 e
bits_low v v2 v4 v8 e =
    let a : e % 16 % 2 ≡ e % 2 = mod-mod-pow e 3 1 in
    let b : e % 16 / 2 % 2 ≡ e / 2 % 2 = digit-mod e 4 1 1 (omega arith) in
    let c : e % 16 / 4 % 2 ≡ e / 4 % 2 = digit-mod e 4 2 1 (omega arith) in
    let d : e % 16 / 8 % 2 ≡ e / 8 % 2 = digit-mod e 4 3 1 (omega arith) in
    rw (a, b, c, d)

module _ (w w2 w4 w8 : ℕ) (t2 : Times w 2 w2) (t4 : Times w2 2 w4) (t8 : Times w4 2 w8) where
  fourth : (k : ℕ) → k < 16 → lane k w4 ≡ mul (mul (lane k w) 2) 2
  unfolding Times
  fourth k h = t4 k h ∙ ap (λ (v : ℕ). mul v 2) (t2 k h)

  eighth : (k : ℕ) → k < 16 → lane k w8 ≡ mul (mul (mul (lane k w) 2) 2) 2
  unfolding Times
  eighth k h = t8 k h ∙ ap (λ (v : ℕ). mul v 2) (fourth k h)

  pub times_lanes : (n e : ℕ) → n ≡ e → Times w e (by_bits w w2 w4 w8 n)
  unfolding Times
  times_lanes n e g k h =
      simp (lane_xor, lane_bit, t2 k h, fourth k h, eighth k h, g)
      (sym (bits_low (lane k w) (mul (lane k w) 2) (mul (mul (lane k w) 2) 2) (mul (mul (mul (lane k w) 2) 2) 2) e)
      ∙ product_element (lane k w) (e % 16) (lane-lt k w) (mod-lt e (lit< tt)) ∙ mul_low_r (lane k w) e)

-- ---- the sixteen multiples

-- the sums of a, b, c and d, in the order of the numbers whose bits pick them
abbrev pub combined : ℕ → ℕ → ℕ → ℕ → List ℕ
combined a b c d =
    0 ∷ a ∷ b ∷ bit_xor a b ∷ c ∷ bit_xor a c ∷ bit_xor b c ∷ bit_xor (bit_xor a b) c
    ∷ d ∷ bit_xor a d ∷ bit_xor b d ∷ bit_xor (bit_xor a b) d
    ∷ bit_xor c d ∷ bit_xor a (bit_xor c d) ∷ bit_xor b (bit_xor c d) ∷ bit_xor (bit_xor a b) (bit_xor c d) ∷ []

multiple_element : (e v : ℕ) → e < 16 → v < 16 → get_or (combined v (mul v 2) (mul (mul v 2) 2) (mul (mul (mul v 2) 2) 2)) e 0 ≡ mul e v
unfolding mul polynomial_product coefficient without modulus
multiple_element = same2 16 (λ e v. get_or (combined v (mul v 2) (mul (mul v 2) 2) (mul (mul (mul v 2) 2) 2)) e 0) mul tt

lane_combined : (k a b c d e : ℕ) → lane k (get_or (combined a b c d) e 0) ≡ get_or (combined (lane k a) (lane k b) (lane k c) (lane k d)) e 0
lane_combined k a b c d e =
    let m : map (lane k) (combined a b c d) ≡ combined (lane k a) (lane k b) (lane k c) (lane k d) = simp (lane_xor, lane-zero) in
    sym (get_or-map (lane k) (combined a b c d) e 0)
    ∙ ap₂ (λ (l : List ℕ) (n : ℕ). get_or l e n) m (lane-zero k)

module _ (w w2 w4 w8 : ℕ) (t2 : Times w 2 w2) (t4 : Times w2 2 w4) (t8 : Times w4 2 w8) where
  pub multiples_lanes : Multiples w (combined w w2 w4 w8)
  unfolding Multiples Times
  multiples_lanes e k he hk =
      let v = lane k w in
      let m : combined v (lane k w2) (lane k w4) (lane k w8) ≡ combined v (mul v 2) (mul (mul v 2) 2) (mul (mul (mul v 2) 2) 2) =
      rw (t2 k hk, fourth w w2 w4 w8 t2 t4 t8 k hk, eighth w w2 w4 w8 t2 t4 t8 k hk) in
      lane_combined k w w2 w4 w8 e ∙ ap (λ (l : List ℕ). get_or l e 0) m ∙ multiple_element e v he (lane-lt k w)
