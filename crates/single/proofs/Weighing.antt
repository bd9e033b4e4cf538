-- Rows under the masks of a vector: what a mask has in each lane, one word of a row more, and that the four sums, weighed and folded, are the row times the vector.
-- Assumes nothing.
use mathlib.Core.Path.{◌≡◌, refl, sym, ap, ap₂, ◌∙◌}
use mathlib.Core.List.{List, ◌++◌}
use Prim.Native.Nat.{ℕ, zero, suc, ◌+◌, ◌-◌, ◌*◌, ◌/◌, ◌%◌, ◌^◌, ◌≤◌, ◌<◌}
use native.Mathlib.Nat.{mod-lt, mul_comm, add-zero}
use native.Mathlib.Omega.{arith}
use lib.Bits.{bit_xor, bit_and, and_mask}
use lib.Dec.{T, ltb, ltb→lt, lit<}
use lib.ListN.{length, get_or, set, take, drop}
use lib.Pow.{shr-shr, mod-mod-pow}
use Rattle.memory.proofs.Bits.{xor_middle}
use Rattle.memory.proofs.Digits.{digit-mod}
use Rattle.memory.proofs.Every.{every_at, same2}
use Rattle.memory.proofs.Entries.{part-lent, entry_more}
use Rattle.field.specs.Field.{mul, coefficient, polynomial_product, without, modulus}
use Rattle.field.specs.Packing.{nib}
use Rattle.field.specs.Sums.{dot_of}
use Rattle.field.proofs.Laws.{mul-xor_l, mul_low_r}
use Rattle.field.proofs.Sums.{dot_of-add}
use Rattle.lanes.specs.Lanes.{lane, Times, WordAt}
use Rattle.lanes.proofs.Laws.{lane-lt, lane-zero, lane_xor, lane_and, lane_masked}
use Rattle.marks.specs.Marks as marks
use Rattle.marks.proofs.Marks.{ones}
use Rattle.marks.proofs.Sums.{sum_same, sum-xor}
use Rattle.single.specs.Masks.{MaskOf, MasksOf, RowsOf, weigh}

-- ---- a mask

-- a bit of a lane, after a shift by so many bits
lane_bit : (k x b : ℕ) → b < 4 → lane k (x / 2 ^ b) % 2 ≡ lane k x / 2 ^ b % 2
unfolding lane
lane_bit k x b h =
    let e : b + 4 * k ≡ 4 * k + b = omega arith in
    let low : x / 2 ^ b / 2 ^ (4 * k) % 16 % 2 ≡ x / 2 ^ b / 2 ^ (4 * k) % 2 = mod-mod-pow (x / 2 ^ b / 2 ^ (4 * k)) 3 1 in
    let places : x / 2 ^ b / 2 ^ (4 * k) ≡ x / 2 ^ (4 * k) / 2 ^ b = shr-shr x b (4 * k) ∙ ap (λ (n : ℕ). x / 2 ^ n) e ∙ sym (shr-shr x (4 * k) b) in
    low ∙ ap (λ (n : ℕ). n % 2) places ∙ sym (digit-mod (x / 2 ^ (4 * k)) 4 b 1 (omega arith))

room : (k : ℕ) → k < 16 → T (ltb (0x1111111111111111 % 2 ^ (4 * k) * 15) (2 ^ (4 * k)))
room = every_at 16 (λ k. ltb (0x1111111111111111 % 2 ^ (4 * k) * 15) (2 ^ (4 * k))) tt

pub mask_lanes : (x b : ℕ) → b < 4 → MaskOf x b (bit_and (x / 2 ^ b) 0x1111111111111111 * 15)
unfolding MaskOf coefficient
mask_lanes x b h k hk =
    lane_masked k (x / 2 ^ b) 0x1111111111111111 1 15 (ltb→lt (0x1111111111111111 % 2 ^ (4 * k) * 15) (2 ^ (4 * k)) (room k hk)) (ones k hk) (omega arith)
    ∙ ap (λ (n : ℕ). n * 15) (and_mask (lane k (x / 2 ^ b)) 1 ∙ lane_bit k x b h)
    ∙ mul_comm (lane k x / 2 ^ b % 2) 15

-- ---- one word of a row more

-- an element under the four masks of another, weighed, is their product
product_element : (v s : ℕ) → v < 16 → s < 16
    → weigh (bit_and v (15 * coefficient s 0)) (bit_and v (15 * coefficient s 1)) (bit_and v (15 * coefficient s 2)) (bit_and v (15 * coefficient s 3)) ≡ mul v s
unfolding mul polynomial_product coefficient without modulus
product_element = same2 16 (λ v s. weigh (bit_and v (15 * coefficient s 0)) (bit_and v (15 * coefficient s 1)) (bit_and v (15 * coefficient s 2)) (bit_and v (15 * coefficient s 3))) mul tt

pub bits_low : (s b : ℕ) → b < 4 → coefficient (s % 16) b ≡ coefficient s b
unfolding coefficient
bits_low s b h = digit-mod s 4 b 1 (omega arith)

pub product_bits : (v s : ℕ) → v < 16
    → weigh (bit_and v (15 * coefficient s 0)) (bit_and v (15 * coefficient s 1)) (bit_and v (15 * coefficient s 2)) (bit_and v (15 * coefficient s 3)) ≡ mul v s
product_bits v s h =
    let a = bits_low s 0 (omega arith) in
    let b = bits_low s 1 (omega arith) in
    let c = bits_low s 2 (omega arith) in
    let d = bits_low s 3 (omega arith) in
    rw (← a, ← b, ← c, ← d) (product_element v (s % 16) h (mod-lt s (lit< tt))) ∙ mul_low_r v s

weigh-xor : (a b c d a' b' c' d' : ℕ) → weigh (bit_xor a a') (bit_xor b b') (bit_xor c c') (bit_xor d d') ≡ bit_xor (weigh a b c d) (weigh a' b' c' d')
weigh-xor a b c d a' b' c' d' =
    ap (bit_xor (bit_xor a a')) (inner b b' (bit_xor (bit_xor c c') (mul (bit_xor d d') 2)) (bit_xor c (mul d 2)) (bit_xor c' (mul d' 2)) (inner' c c' d d'))
    ∙ xor_middle a a' (mul (bit_xor b (mul (bit_xor c (mul d 2)) 2)) 2) (mul (bit_xor b' (mul (bit_xor c' (mul d' 2)) 2)) 2)
  where
    inner' : (c c' d d' : ℕ) → bit_xor (bit_xor c c') (mul (bit_xor d d') 2) ≡ bit_xor (bit_xor c (mul d 2)) (bit_xor c' (mul d' 2))
    inner' c c' d d' = ap (bit_xor (bit_xor c c')) (mul-xor_l d d' 2) ∙ xor_middle c c' (mul d 2) (mul d' 2)

    inner : (b b' x u v : ℕ) → x ≡ bit_xor u v → mul (bit_xor (bit_xor b b') (mul x 2)) 2 ≡ bit_xor (mul (bit_xor b (mul u 2)) 2) (mul (bit_xor b' (mul v 2)) 2)
    inner b b' x u v e =
        ap (λ (y : ℕ). mul (bit_xor (bit_xor b b') (mul y 2)) 2) e
        ∙ ap (λ (y : ℕ). mul y 2) (inner' b b' u v)
        ∙ mul-xor_l (bit_xor b (mul u 2)) (bit_xor b' (mul v 2)) 2

-- the sum of all lanes, weighed
unfoldable pub weighed : ℕ → ℕ → ℕ → ℕ → ℕ
weighed a b c d = marks.sum_of 16 (λ k. weigh (lane k a) (lane k b) (lane k c) (lane k d))

-- sums of products are sums
sums_same : (n : ℕ) (f g : ℕ → ℕ) → marks.sum_of n (λ i. mul (f i) (g i)) ≡ dot_of n f g
unfolding dot_of marks.sum_of
sums_same zero f g = refl
sums_same (suc n) f g = ap (λ (x : ℕ). bit_xor x (mul (f n) (g n))) (sums_same n f g)

-- a word that has 15 in the lanes of sixteen elements of s, from the place p on, that have the bit b
abbrev Marked : (ℕ → ℕ) → ℕ → ℕ → ℕ → Type 0
Marked s p b m = (k : ℕ) → k < 16 → lane k m ≡ 15 * coefficient (s (p + k)) b

module _ (bytes : List ℕ) (at w : ℕ) (s : ℕ → ℕ) (a b c d x m0 m1 m2 m3 : ℕ) (word : WordAt bytes (at + 8 * w) x)
    (h0 : Marked s (16 * w) 0 m0) (h1 : Marked s (16 * w) 1 m1) (h2 : Marked s (16 * w) 2 m2) (h3 : Marked s (16 * w) 3 m3) where
  row-lane : (k : ℕ) → k < 16 → lane k x ≡ nib bytes (at * 2 + (16 * w + k))
  unfolding WordAt
  row-lane k h = word k h ∙ ap (nib bytes) (let e : 2 * (at + 8 * w) + k ≡ at * 2 + (16 * w + k) = omega arith in e)

  added : (i y m : ℕ) → Marked s (16 * w) i m → (k : ℕ) → k < 16 → lane k (bit_xor y (bit_and x m)) ≡ bit_xor (lane k y) (bit_and (lane k x) (15 * coefficient (s (16 * w + k)) i))
  added i y m h k hk = lane_xor k y (bit_and x m) ∙ ap (bit_xor (lane k y)) (lane_and k x m ∙ ap (bit_and (lane k x)) (h k hk))

  more_lane : (k : ℕ) → k < 16
      → weigh (lane k (bit_xor a (bit_and x m0))) (lane k (bit_xor b (bit_and x m1))) (lane k (bit_xor c (bit_and x m2))) (lane k (bit_xor d (bit_and x m3)))
      ≡ bit_xor (weigh (lane k a) (lane k b) (lane k c) (lane k d)) (mul (nib bytes (at * 2 + (16 * w + k))) (s (16 * w + k)))
  more_lane k h =
      rw (added 0 a m0 h0 k h, added 1 b m1 h1 k h, added 2 c m2 h2 k h, added 3 d m3 h3 k h)
      (weigh-xor (lane k a) (lane k b) (lane k c) (lane k d) _ _ _ _
      ∙ ap (bit_xor (weigh (lane k a) (lane k b) (lane k c) (lane k d))) (product_bits (lane k x) (s (16 * w + k)) (lane-lt k x) ∙ ap (λ (v : ℕ). mul v (s (16 * w + k))) (row-lane k h)))

  weighed_more : weighed a b c d ≡ dot_of (16 * w) (λ j. nib bytes (at * 2 + j)) s
      → weighed (bit_xor a (bit_and x m0)) (bit_xor b (bit_and x m1)) (bit_xor c (bit_and x m2)) (bit_xor d (bit_and x m3)) ≡ dot_of (16 * (w + 1)) (λ j. nib bytes (at * 2 + j)) s
  unfolding weighed
  weighed_more so_far =
      let f : ℕ → ℕ = λ j. nib bytes (at * 2 + j) in
      sum_same 16 (λ k. weigh (lane k (bit_xor a (bit_and x m0))) (lane k (bit_xor b (bit_and x m1))) (lane k (bit_xor c (bit_and x m2))) (lane k (bit_xor d (bit_and x m3))))
      (λ k. bit_xor (weigh (lane k a) (lane k b) (lane k c) (lane k d)) (mul (f (16 * w + k)) (s (16 * w + k)))) more_lane
      ∙ sum-xor 16 (λ k. weigh (lane k a) (lane k b) (lane k c) (lane k d)) (λ k. mul (f (16 * w + k)) (s (16 * w + k)))
      ∙ ap₂ bit_xor so_far (sums_same 16 (λ k. f (16 * w + k)) (λ k. s (16 * w + k)))
      ∙ sym (dot_of-add (16 * w) 16 f s)
      ∙ ap (λ (n : ℕ). dot_of n f s) (let e : 16 * w + 16 ≡ 16 * (w + 1) = omega arith in e)

-- with the masks as they stand
pub row_more : (bytes masks : List ℕ) (at w : ℕ) (s : ℕ → ℕ) (a b c d x : ℕ) → w < 8 → WordAt bytes (at + 8 * w) x → MasksOf s 8 masks
    → weighed a b c d ≡ dot_of (16 * w) (λ j. nib bytes (at * 2 + j)) s
    → weighed (bit_xor a (bit_and x (get_or masks (w * 4) 0))) (bit_xor b (bit_and x (get_or masks (w * 4 + 1) 0))) (bit_xor c (bit_and x (get_or masks (w * 4 + 2) 0))) (bit_xor d (bit_and x (get_or masks (w * 4 + 3) 0)))
    ≡ dot_of (16 * (w + 1)) (λ j. nib bytes (at * 2 + j)) s
unfolding MasksOf
row_more bytes masks at w s a b c d x h word held =
    weighed_more bytes at w s a b c d x (get_or masks (w * 4) 0) (get_or masks (w * 4 + 1) 0) (get_or masks (w * 4 + 2) 0) (get_or masks (w * 4 + 3) 0) word
    (λ k hk. ap (λ (i : ℕ). lane k (get_or masks i 0)) (sym (add-zero (w * 4))) ∙ held w 0 k h (omega arith) hk)
    (λ k hk. held w 1 k h (omega arith) hk) (λ k hk. held w 2 k h (omega arith) hk) (λ k hk. held w 3 k h (omega arith) hk)

weigh_zeros : weigh 0 0 0 0 ≡ 0
unfolding mul polynomial_product coefficient without modulus
weigh_zeros = refl

zeros_sum : marks.sum_of 16 (λ k. 0) ≡ 0
unfolding marks.sum_of
zeros_sum = refl

pub weighed_none : (f s : ℕ → ℕ) → weighed 0 0 0 0 ≡ dot_of (16 * 0) f s
unfolding weighed dot_of
weighed_none f s =
    sum_same 16 (λ k. weigh (lane k 0) (lane k 0) (lane k 0) (lane k 0)) (λ k. 0) (λ k h. rw (lane-zero k) weigh_zeros) ∙ zeros_sum

-- ---- the four sums put together

pub weighted_lanes : (a b c d x2 y2 z2 : ℕ) → Times d 2 x2 → Times (bit_xor c x2) 2 y2 → Times (bit_xor b y2) 2 z2
    → (k : ℕ) → k < 16 → lane k (bit_xor a z2) ≡ weigh (lane k a) (lane k b) (lane k c) (lane k d)
unfolding Times
weighted_lanes a b c d x2 y2 z2 tx ty tz k h =
    lane_xor k a z2
    ∙ ap (bit_xor (lane k a)) (tz k h ∙ ap (λ (v : ℕ). mul v 2) (lane_xor k b y2
    ∙ ap (bit_xor (lane k b)) (ty k h ∙ ap (λ (v : ℕ). mul v 2) (lane_xor k c x2 ∙ ap (bit_xor (lane k c)) (tx k h)))))

pub lanes_weighed : (a b c d r : ℕ) → ((k : ℕ) → k < 16 → lane k r ≡ weigh (lane k a) (lane k b) (lane k c) (lane k d)) → marks.lane_sum r ≡ weighed a b c d
unfolding weighed marks.lane_sum
lanes_weighed a b c d r lanes = sum_same 16 (λ q. lane q r) (λ k. weigh (lane k a) (lane k b) (lane k c) (lane k d)) lanes

-- ---- the masks of one word more

pub masks_none : (s : ℕ → ℕ) (t : List ℕ) → MasksOf s 0 t
unfolding MasksOf
masks_none s t w b k hw hb hk = absurd (omega arith)

-- the word of the packed elements as it is read, and its masks as they are lent and come back
pub masks_lent : (packed : List ℕ) (c x : ℕ) (t ys : List ℕ) → MasksOf (nib packed) c t → WordAt packed (8 * c) x → ((b : ℕ) → b < 4 → MaskOf x b (get_or ys b 0))
    → length ys ≡ length (take (c * 4 + 4 - c * 4) (drop (c * 4) t)) → c * 4 + 4 ≤ length t
    → MasksOf (nib packed) (c + 1) (take (c * 4) t ++ (ys ++ drop (c * 4 + 4 - c * 4) (drop (c * 4) t)))
unfolding MasksOf MaskOf WordAt
masks_lent packed c x t ys done word next kept fits w b k hw hb hk =
    part-lent (λ d b m. (k : ℕ) → k < 16 → lane k m ≡ 15 * coefficient (nib packed (16 * d + k)) b) 4 c t ys (λ d b hd hb k hk. done d b k hd hb hk)
    (λ b hb k hk. next b hb k hk ∙ ap (λ (v : ℕ). 15 * coefficient v b) (word k hk ∙ ap (nib packed) (let e : 2 * (8 * c) + k ≡ 16 * c + k = omega arith in e)))
    kept fits w b hw hb k hk

-- ---- one row more

pub rows_none : (bytes : List ℕ) (start width count : ℕ) (s : ℕ → ℕ) (out : List ℕ) → RowsOf bytes start width count s 0 out
unfolding RowsOf
rows_none bytes start width count s out k h = absurd (omega arith)

pub rows_more : (bytes : List ℕ) (start width count : ℕ) (s : ℕ → ℕ) (out : List ℕ) (k at r : ℕ) → k < length out → at ≡ start + k * width → RowsOf bytes start width count s k out
    → marks.lane_sum r ≡ dot_of count (λ j. nib bytes (at * 2 + j)) s → RowsOf bytes start width count s (k + 1) (set out k r)
unfolding RowsOf
rows_more bytes start width count s out k at r h e done row =
    entry_more (λ i x. marks.lane_sum x ≡ dot_of count (λ j. nib bytes ((start + i * width) * 2 + j)) s) out k r h done
    (row ∙ ap (λ (i : ℕ). dot_of count (λ j. nib bytes (i * 2 + j)) s) e)
