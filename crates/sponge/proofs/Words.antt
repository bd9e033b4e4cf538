-- Words and bytes: the little-endian number of a list of bytes, byte by byte and a word at once, and the eight bytes of a word.
-- Assumes nothing.
use mathlib.Core.Path.{◌≡◌, refl, sym, ap, ap₂, ◌∙◌}
use mathlib.Core.List.{List, [], ◌∷◌, ◌++◌}
use Prim.Native.Nat.{ℕ, zero, suc, ◌+◌, ◌*◌, ◌/◌, ◌%◌, ◌^◌, ◌≤◌, ◌<◌}
use native.Mathlib.Nat.{mul_left_comm, add_comm, zero-add, mul_assoc, mul_comm, add-mul, mul-one, mul-lt-mul_of_pos_right, pow-succ', mod-eq_of_lt, div-one}
use native.Mathlib.Numerals.{add-one}
use native.Mathlib.Omega.{arith}
use mir.Syntax.{w64}
use lib.ListN.{length, get_or, take, drop, length-drop}
use lib.Seq.{take-suc, take_all, length-take-le, drop-drop, get_or-take, get_or-drop}
use lib.Pow.{pow-add, pow_pos, shl_exact}
use lib.Bits.{bit_xor, xor_shifted, xor_comm}
use Rattle.std.specs.Simd.{first_chunks}
use Rattle.std.specs.Int.{from_le_bytes, to_le_bytes, sum_through, byte_worth}
use Rattle.memory.specs.Lists.{table}
use Rattle.sponge.specs.Sponge.{little}

pub pow_byte : (n : ℕ) → 2 ^ (8 * suc n) ≡ 256 * 2 ^ (8 * n)
pow_byte n = ap (λ (k : ℕ). 2 ^ k) (eight n) ∙ pow-add 2 8 (8 * n)
  where
    eight : (n : ℕ) → 8 * suc n ≡ 8 + 8 * n
    eight n = omega arith

pow_bytes : (n : ℕ) → 256 ^ n ≡ 2 ^ (8 * n)
pow_bytes zero = refl
pow_bytes (suc n) = pow-succ' 256 n ∙ ap (λ (k : ℕ). 256 * k) (pow_bytes n) ∙ sym (pow_byte n)

-- ---- the number of a list of bytes

pub little-lt : (s : List ℕ) → little s < 2 ^ (8 * length s)
unfolding little
little-lt [] = omega arith
little-lt (b ∷ s) = let h = little-lt s in rw pow_byte (omega arith)

pub little-append : (x y : List ℕ) → little (x ++ y) ≡ little x + little y * 2 ^ (8 * length x)
unfolding little
little-append [] y = sym (zero-add _ ∙ mul-one (little y))
little-append (b ∷ x) y =
    ap (λ (n : ℕ). b % 256 + 256 * n) (little-append x y)
    ∙ regrouped (b % 256) (little x) (little y * 2 ^ (8 * length x)) (little y * 2 ^ (8 * suc (length x)))
    (ap (λ (n : ℕ). little y * n) (pow_byte (length x)) ∙ mul_left_comm (little y) 256 (2 ^ (8 * length x)))
  where
    regrouped : (b l m n : ℕ) → n ≡ 256 * m → b + 256 * (l + m) ≡ b + 256 * l + n
    regrouped b l m n e = omega arith

little_single : (b : ℕ) → little (b ∷ []) ≡ b % 256
unfolding little
little_single b = omega arith

-- one byte more, above the others
little-snoc : (s : List ℕ) (b : ℕ) → little (s ++ (b ∷ [])) ≡ little s + b % 256 * 2 ^ (8 * length s)
little-snoc s b = little-append s (b ∷ []) ∙ ap (λ (n : ℕ). little s + n * 2 ^ (8 * length s)) (little_single b)

-- one byte more is xored in above the others
pub xor-little : (s : List ℕ) (b : ℕ) → bit_xor (little s) (b % 256 * 2 ^ (8 * length s)) ≡ little (s ++ (b ∷ []))
xor-little s b =
    xor_comm (little s) _ ∙ xor_shifted (b % 256) (8 * length s) (little s) (little-lt s) ∙ add_comm _ (little s) ∙ sym (little-snoc s b)

-- a number of whole bytes above a lower byte
pub above_byte : (b l j : ℕ) → bit_xor (b % 256 * 2 ^ (8 * j)) (l * 2 ^ (8 * suc j)) ≡ (b % 256 + 256 * l) * 2 ^ (8 * j)
above_byte b l j =
    xor_comm (b % 256 * 2 ^ (8 * j)) _
    ∙ xor_shifted l (8 * suc j) (b % 256 * 2 ^ (8 * j)) small
    ∙ ap (λ (n : ℕ). l * n + b % 256 * 2 ^ (8 * j)) (pow_byte j)
    ∙ ap (λ (n : ℕ). n + b % 256 * 2 ^ (8 * j)) (sym (mul_assoc l 256 (2 ^ (8 * j))) ∙ ap (λ (n : ℕ). n * 2 ^ (8 * j)) (mul_comm l 256))
    ∙ add_comm _ (b % 256 * 2 ^ (8 * j))
    ∙ sym (add-mul (b % 256) (256 * l) (2 ^ (8 * j)))
  where
    small : b % 256 * 2 ^ (8 * j) < 2 ^ (8 * suc j)
    small = rw pow_byte (mul-lt-mul_of_pos_right {m = b % 256} {n = 256} (omega arith) (pow_pos (8 * j)))

-- ---- bytes shifted to their place in a word

pub shifted_byte : (w b r : ℕ) → w ≡ b → b < 256 → r < 8 → w * 2 ^ (8 * r) % 2 ^ 64 ≡ b % 256 * 2 ^ (8 * r)
shifted_byte w b r e h k = ap (λ (n : ℕ). n * 2 ^ (8 * r) % 2 ^ 64) e ∙ shl_exact 8 (8 * r) 64 h (omega arith) ∙ ap (λ (n : ℕ). n * 2 ^ (8 * r)) (sym (mod-eq_of_lt h))

pub shifted_few : (s : List ℕ) (r : ℕ) → r + length s ≤ 8 → little s * 2 ^ (8 * r) % 2 ^ 64 ≡ little s * 2 ^ (8 * r)
shifted_few s r h = shl_exact (8 * length s) (8 * r) 64 (little-lt s) (omega arith)

-- ---- a number loaded from a list

-- one byte more is loaded
pub load_turn : (bytes : List ℕ) (i w b : ℕ) → i < length bytes → w ≡ little (take i bytes) → b ≡ get_or bytes i 0 → b < 256
    → length bytes ≤ 8 → bit_xor w (b * 2 ^ (8 * i) % 2 ^ 64) ≡ little (take (i + 1) bytes)
load_turn bytes i w b h e f g k =
    let l = length-take-le i bytes (omega arith) in
    ap₂ bit_xor e (shifted_byte b b i refl g (omega arith) ∙ ap (λ (n : ℕ). b % 256 * 2 ^ (8 * n)) (sym l))
    ∙ xor-little (take i bytes) b
    ∙ ap little (ap (λ (x : ℕ). take i bytes ++ (x ∷ [])) f ∙ sym (take-suc bytes i 0 h) ∙ ap (λ (n : ℕ). take n bytes) (sym (add-one i)))

-- what the library says of eight bytes, a sum of what each is worth, is their number
module _ (w : List ℕ) (bytes : (i : ℕ) → i < length w → get_or w i 0 < 256) where
  worth : (i : ℕ) → i < length w → byte_worth i (get_or w i 0) ≡ get_or w i 0 % 256 * 2 ^ (8 * i)
  worth zero h = let k = bytes 0 h in omega arith
  worth (suc i) h = ap₂ (λ (x y : ℕ). x * y) (sym (mod-eq_of_lt (bytes (suc i) h))) (pow_bytes (suc i))

  one_more : (i : ℕ) → i < length w → little (take i w) + byte_worth i (get_or w i 0) ≡ little (take (suc i) w)
  one_more i h =
      ap (λ (x : ℕ). little (take i w) + x) (worth i h ∙ ap (λ (n : ℕ). get_or w i 0 % 256 * 2 ^ (8 * n)) (sym (length-take-le i w (omega arith))))
      ∙ sym (ap little (take-suc w i 0 h) ∙ little-snoc (take i w) (get_or w i 0))

  worths : (i : ℕ) → i < length w → sum_through (λ k. byte_worth k (get_or w k 0)) i ≡ little (take (suc i) w)
  unfolding little
  worths zero h = sym (zero-add _) ∙ one_more 0 h
  worths (suc i) h = ap (λ (x : ℕ). x + byte_worth (suc i) (get_or w (suc i) 0)) (worths i (omega arith)) ∙ one_more (suc i) h

  pub word-little : length w ≡ 8 → from_le_bytes w64 w ≡ little w
  word-little h = worths 7 (omega arith) ∙ ap little (take_all 8 w (omega arith))

-- the words that the library makes of a list, whose j-th are its bytes from 8 j on
pub chunk-at : (k j : ℕ) (l d : List ℕ) → j < k → get_or (first_chunks 8 k l) j d ≡ take 8 (drop (8 * j) l)
chunk-at zero j l d h = absurd (omega arith)
chunk-at (suc k) zero l d h = refl
chunk-at (suc k) (suc j) l d h =
    chunk-at k j (drop 8 l) d (omega arith) ∙ ap (take 8) (drop-drop (8 * j) 8 l ∙ ap (λ (n : ℕ). drop n l) (let e : 8 + 8 * j ≡ 8 * suc j = omega arith in e))

pub chunk-little : (k j : ℕ) (l d : List ℕ) → j < k → 8 * k ≤ length l → ((i : ℕ) → get_or l i 0 < 256) → from_le_bytes w64 (get_or (first_chunks 8 k l) j d) ≡ little (take 8 (drop (8 * j) l))
chunk-little k j l d h room bytes = ap (from_le_bytes w64) (chunk-at k j l d h) ∙ word-little (take 8 (drop (8 * j) l)) below eight
  where
    eight : length (take 8 (drop (8 * j) l)) ≡ 8
    eight = length-take-le 8 (drop (8 * j) l) (simp length-drop (omega arith))

    below : (i : ℕ) → i < length (take 8 (drop (8 * j) l)) → get_or (take 8 (drop (8 * j) l)) i 0 < 256
    below i k = let e = get_or-take 8 (drop (8 * j) l) i 0 (omega (arith, eight)) ∙ get_or-drop (8 * j) l i 0 in let b = bytes (8 * j + i) in omega arith

-- the library's eight bytes of a word, by their rule
pub word-bytes : (x : ℕ) → to_le_bytes w64 x ≡ table 8 (λ i. x / 2 ^ (8 * i) % 256)
unfolding table
word-bytes x = rw div-one refl
