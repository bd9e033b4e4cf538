-- Sums of numbered elements and of the lanes of a word: a sum in two parts, a sum of sums, and the folding of a word.
-- Assumes nothing.
use mathlib.Core.Path.{◌≡◌, refl, sym, ap, ap₂, ◌∙◌}
use Prim.Native.Nat.{ℕ, zero, suc, ◌+◌, ◌*◌, ◌/◌, ◌%◌, ◌^◌, ◌<◌}
use native.Mathlib.Nat.{add-zero, add-suc, div-one}
use native.Mathlib.Omega.{arith}
use lib.Bits.{bit_xor, xor_zero_l, xor_zero_r}
use Rattle.memory.proofs.Bits.{xor_assoc, xor_middle}
use Rattle.field.specs.Field.{mul}
use Rattle.field.proofs.Laws.{mul-xor_l, mul-zero_l}
use Rattle.lanes.specs.Lanes.{lane}
use Rattle.lanes.proofs.Laws.{lane_xor, lane-shr}
use Rattle.marks.specs.Marks.{sum_of, lane_sum}

pub sum_same : (n : ℕ) (f g : ℕ → ℕ) → ((q : ℕ) → q < n → f q ≡ g q) → sum_of n f ≡ sum_of n g
unfolding sum_of
sum_same zero f g h = refl
sum_same (suc n) f g h = ap₂ bit_xor (sum_same n f g (λ q l. h q (omega arith))) (h n (omega arith))

pub sum-add : (n j : ℕ) (f : ℕ → ℕ) → sum_of (n + j) f ≡ bit_xor (sum_of n f) (sum_of j (λ q. f (n + q)))
unfolding sum_of
sum-add n zero f = ap (λ (x : ℕ). sum_of x f) (add-zero n) ∙ sym (xor_zero_r (sum_of n f))
sum-add n (suc j) f =
    ap (λ (x : ℕ). sum_of x f) (add-suc n j)
    ∙ ap (λ (x : ℕ). bit_xor x (f (n + j))) (sum-add n j f)
    ∙ xor_assoc (sum_of n f) (sum_of j (λ q. f (n + q))) (f (n + j))

pub sum-xor : (n : ℕ) (f g : ℕ → ℕ) → sum_of n (λ q. bit_xor (f q) (g q)) ≡ bit_xor (sum_of n f) (sum_of n g)
unfolding sum_of
sum-xor zero f g = sym (xor_zero_r 0)
sum-xor (suc n) f g = ap (λ (x : ℕ). bit_xor x (bit_xor (f n) (g n))) (sum-xor n f g) ∙ xor_middle (sum_of n f) (sum_of n g) (f n) (g n)

pub sum-mul : (n : ℕ) (f : ℕ → ℕ) (e : ℕ) → sum_of n (λ q. mul (f q) e) ≡ mul (sum_of n f) e
unfolding sum_of
sum-mul zero f e = sym (mul-zero_l e)
sum-mul (suc n) f e = ap (λ (x : ℕ). bit_xor x (mul (f n) e)) (sum-mul n f e) ∙ sym (mul-xor_l (sum_of n f) (f n) e)

-- a word and its upper half added to the lower
fold_half : (n w : ℕ) → sum_of (n + n) (λ q. lane q w) ≡ sum_of n (λ q. lane q (bit_xor w (w / 2 ^ (4 * n))))
fold_half n w =
    sum-add n n (λ q. lane q w)
    ∙ sym (sum-xor n (λ q. lane q w) (λ q. lane (n + q) w))
    ∙ sum_same n (λ q. bit_xor (lane q w) (lane (n + q) w)) (λ q. lane q (bit_xor w (w / 2 ^ (4 * n))))
    (λ q h. sym (lane_xor q w (w / 2 ^ (4 * n)) ∙ ap (bit_xor (lane q w)) (lane-shr q w n)))

fold_last : (w : ℕ) → sum_of 1 (λ q. lane q w) ≡ w % 16
unfolding sum_of lane
fold_last w = xor_zero_l (w / 2 ^ (4 * 0) % 16) ∙ ap (λ (x : ℕ). x % 16) (div-one w)

-- four halvings of a word leave the sum of its lanes
pub folded_sum : (w a b c d : ℕ) → a ≡ bit_xor w (w / 2 ^ 32) → b ≡ bit_xor a (a / 2 ^ 16) → c ≡ bit_xor b (b / 2 ^ 8) → d ≡ bit_xor c (c / 2 ^ 4) → d % 16 ≡ lane_sum w
unfolding lane_sum
folded_sum w a b c d ea eb ec ed =
    sym (fold_half 8 w ∙ ap (λ (x : ℕ). sum_of 8 (λ q. lane q x)) (sym ea)
    ∙ fold_half 4 a ∙ ap (λ (x : ℕ). sum_of 4 (λ q. lane q x)) (sym eb)
    ∙ fold_half 2 b ∙ ap (λ (x : ℕ). sum_of 2 (λ q. lane q x)) (sym ec)
    ∙ fold_half 1 c ∙ ap (λ (x : ℕ). sum_of 1 (λ q. lane q x)) (sym ed)
    ∙ fold_last d)
