-- Laws of the complement of a lane: with exclusive or, with the forms of χ that the code has, and under a rotation.
-- Assumes nothing.
use mathlib.Core.Path.{◌≡◌, refl, sym, ap, ap₂, ◌∙◌}
use mathlib.Core.List.{List}
use Prim.Native.Nat.{ℕ, ◌*◌, ◌-◌, ◌/◌, ◌%◌, ◌^◌, ◌<◌}
use native.Mathlib.Nat.{add-zero}
use lib.ListN.{get_or}
use lib.Pow.{pow_pos}
use lib.Bits.{bit_xor, bit_and, bit_or, xor_lt, and_lt, or_lt, xor_block, xor_mod, xor_shr}
use Rattle.memory.specs.Lists.{table}
use Rattle.memory.proofs.Lists.{get_or-table}
use Rattle.memory.proofs.Bits.{xor_middle, xor_ones}
use Rattle.memory.proofs.Words.{complement_complement, complement_xor, xor_complement, complements_xor, or_complement}
use Rattle.keccak.specs.Keccak.{inverse, rotated}
use Rattle.keccak.proofs.Laws.{inverse_word, rotated_word}

pub inverse-inverse : {a : ℕ} → a < 2 ^ 64 → inverse (inverse a) ≡ a
unfolding inverse
inverse-inverse h = complement_complement 64 h

pub inverse-xor : {a b : ℕ} → a < 2 ^ 64 → b < 2 ^ 64 → bit_xor (inverse a) b ≡ inverse (bit_xor a b)
unfolding inverse
inverse-xor p q = complement_xor 64 p q

pub xor-inverse : {a b : ℕ} → a < 2 ^ 64 → b < 2 ^ 64 → bit_xor a (inverse b) ≡ inverse (bit_xor a b)
unfolding inverse
xor-inverse p q = xor_complement 64 p q

pub inverses_xor : {a b : ℕ} → a < 2 ^ 64 → b < 2 ^ 64 → bit_xor (inverse a) (inverse b) ≡ bit_xor a b
unfolding inverse
inverses_xor p q = complements_xor 64 p q

or_inverses : {a b : ℕ} → a < 2 ^ 64 → b < 2 ^ 64 → bit_or a b ≡ inverse (bit_and (inverse a) (inverse b))
unfolding inverse
or_inverses p q = or_complement 64 p q

-- ---- what a lane of χ, x xor (inverse y and z), is where x, y, z or the result is turned over

module _ (x y z : ℕ) (p : x < 2 ^ 64) (q : y < 2 ^ 64) (r : z < 2 ^ 64) where
  and_word : bit_and (inverse y) (inverse z) < 2 ^ 64
  and_word = and_lt 64 _ _ (inverse_word y) (inverse_word z)

  or_word : bit_xor x (bit_or y z) ≡ inverse (bit_xor x (bit_and (inverse y) (inverse z)))
  or_word = ap (bit_xor x) (or_inverses q r) ∙ xor-inverse p and_word

  pub or_both : bit_xor x (bit_or y z) ≡ bit_xor (inverse x) (bit_and (inverse y) (inverse z))
  or_both = or_word ∙ sym (inverse-xor p and_word)

  pub or_right_out : inverse (bit_xor x (bit_or y z)) ≡ bit_xor x (bit_and (inverse y) (inverse z))
  or_right_out = ap inverse or_word ∙ inverse-inverse (xor_lt 64 _ _ p and_word)

  pub or_right_in : bit_xor (inverse x) (bit_or y z) ≡ bit_xor x (bit_and (inverse y) (inverse z))
  or_right_in = inverse-xor p (or_lt 64 _ _ q r) ∙ or_right_out

  pub and_left : (v : ℕ) → bit_xor v (bit_and y z) ≡ bit_xor v (bit_and (inverse (inverse y)) z)
  and_left v = ap (λ (n : ℕ). bit_xor v (bit_and n z)) (sym (inverse-inverse q))

  pub and_left_out : inverse (bit_xor x (bit_and y z)) ≡ bit_xor (inverse x) (bit_and (inverse (inverse y)) z)
  and_left_out = sym (inverse-xor p (and_lt 64 _ _ q r)) ∙ and_left (inverse x)

  pub and-inverse_out : inverse (bit_xor x (bit_and (inverse y) z)) ≡ bit_xor (inverse x) (bit_and (inverse y) z)
  and-inverse_out = sym (inverse-xor p (and_lt 64 _ _ (inverse_word y) r))

module _ (x y z : ℕ) (p : x < 2 ^ 64) (q : y < 2 ^ 64) (r : z < 2 ^ 64) where
  pub or-inverse : bit_xor x (bit_or y (inverse z)) ≡ bit_xor (inverse x) (bit_and (inverse y) z)
  or-inverse =
      or_both x y (inverse z) p q (inverse_word z)
      ∙ ap (λ (n : ℕ). bit_xor (inverse x) (bit_and (inverse y) n)) (inverse-inverse r)

  pub or-inverse_out : inverse (bit_xor x (bit_or (inverse y) z)) ≡ bit_xor x (bit_and (inverse (inverse y)) (inverse z))
  or-inverse_out = or_right_out x (inverse y) z p (inverse_word y) r

-- ---- a rotation

xor-shl : (a b k : ℕ) → bit_xor a b * 2 ^ k ≡ bit_xor (a * 2 ^ k) (b * 2 ^ k)
xor-shl a b k =
    sym (add-zero _) ∙ sym (xor_block k a b 0 0 (pow_pos k) (pow_pos k))
    ∙ ap₂ bit_xor (add-zero (a * 2 ^ k)) (add-zero (b * 2 ^ k))

rotated-xor : (a b k : ℕ) → rotated (bit_xor a b) k ≡ bit_xor (rotated a k) (rotated b k)
unfolding rotated
rotated-xor a b k =
    ap₂ bit_xor
    (ap (λ (n : ℕ). n % 2 ^ 64) (xor-shl a b k) ∙ xor_mod (a * 2 ^ k) (b * 2 ^ k) 64)
    (xor_shr a b (64 - k))
    ∙ xor_middle (a * 2 ^ k % 2 ^ 64) (b * 2 ^ k % 2 ^ 64) (a / 2 ^ (64 - k)) (b / 2 ^ (64 - k))

-- 64 ones stay as they are at each offset: a test at all of them, which antt computes
all_ones : table 64 (rotated (2 ^ 64 - 1)) ≡ table 64 (λ k. 2 ^ 64 - 1)
unfolding table rotated
all_ones = refl

rotated_ones : (k : ℕ) → k < 64 → rotated (2 ^ 64 - 1) k ≡ 2 ^ 64 - 1
rotated_ones k h =
    sym (get_or-table 64 (rotated (2 ^ 64 - 1)) k h) ∙ ap (λ (l : List ℕ). get_or l k 0) all_ones
    ∙ get_or-table 64 (λ k. 2 ^ 64 - 1) k h

inverse_ones : (a : ℕ) → a < 2 ^ 64 → inverse a ≡ bit_xor a (2 ^ 64 - 1)
unfolding inverse
inverse_ones a h = sym (xor_ones 64 a h)

pub rotated-inverse : (k : ℕ) {a : ℕ} → k < 64 → a < 2 ^ 64 → rotated (inverse a) k ≡ inverse (rotated a k)
rotated-inverse k {a} h p =
    ap (λ (n : ℕ). rotated n k) (inverse_ones a p) ∙ rotated-xor a (2 ^ 64 - 1) k
    ∙ ap (bit_xor (rotated a k)) (rotated_ones k h) ∙ sym (inverse_ones (rotated a k) (rotated_word a k p))
