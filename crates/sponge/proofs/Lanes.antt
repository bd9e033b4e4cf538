-- The bytes of a state: one byte or a word xored into it, and a block that grows by bytes at its end.
-- Assumes nothing.
use mathlib.Core.Path.{◌≡◌, refl, sym, ap, ap₂, ◌∙◌}
use mathlib.Core.List.{List, [], ◌∷◌, ◌++◌, append_assoc, append-nil}
use Prim.Native.Nat.{ℕ, zero, suc, ◌+◌, ◌-◌, ◌*◌, ◌/◌, ◌%◌, ◌^◌, ◌≤◌, ◌<◌}
use native.Mathlib.Nat.{zero-mul, add-zero, add_assoc, mul-one}
use native.Mathlib.Decide.{dec_lt}
use native.Mathlib.Numerals.{add-one}
use native.Mathlib.Omega.{arith}
use mir.Syntax.{w64}
use lib.ListN.{length, get_or, take, drop, set, replicate, length-append, length-drop, length-set, drop_of_length-le}
use lib.Seq.{take_all, take-append-le, drop-append-le, set-get_or, take-add, take-suc-set, length-take-le}
use lib.Bits.{bit_xor, xor_zero_r}
use borrow.Rule.Slice.PartMut.{put_mid}
use Rattle.std.specs.Int.{to_le_bytes}
use Rattle.std.proofs.lemmas.Slice.{take-put_mid}
use Rattle.memory.specs.Lists.{table}
use Rattle.memory.proofs.Bits.{xor_assoc}
use Rattle.memory.proofs.Bytes.{set_again}
use Rattle.memory.proofs.Lists.{length-table, table-suc, table_same, table-add}
use Rattle.sponge.specs.Sponge.{little, xored, byte_at}
use Rattle.sponge.specs.Steps.{xor_byte, xor_bytes, bytes_from}
use Rattle.sponge.proofs.Words.{xor-little, above_byte, shifted_few, word-bytes}

-- ---- one byte xored into a state

module _ (x : ℕ) (S : List ℕ) (i b : ℕ) where
  pub xor_byte-first : i < 8 → xor_byte (x ∷ S) i b ≡ bit_xor x (b % 256 * 2 ^ (8 * i)) ∷ S
  unfolding xor_byte
  xor_byte-first h =
      ap₂ (λ (q r : ℕ). set (x ∷ S) q (bit_xor (get_or (x ∷ S) q 0) (b % 256 * 2 ^ (8 * r)))) quotient remainder
    where
      quotient : i / 8 ≡ 0
      quotient = omega arith

      remainder : i % 8 ≡ i
      remainder = omega arith

  pub xor_byte-rest : xor_byte (x ∷ S) (8 + i) b ≡ x ∷ xor_byte S i b
  unfolding xor_byte
  xor_byte-rest =
      ap₂ (λ (q r : ℕ). set (x ∷ S) q (bit_xor (get_or (x ∷ S) q 0) (b % 256 * 2 ^ (8 * r)))) quotient remainder
    where
      quotient : (8 + i) / 8 ≡ suc (i / 8)
      quotient = omega arith

      remainder : (8 + i) % 8 ≡ i % 8
      remainder = omega arith

xor_byte-nil : (i b : ℕ) → xor_byte [] i b ≡ []
unfolding xor_byte
xor_byte-nil i b = refl

pub xor_byte-zero : (S : List ℕ) (i : ℕ) → xor_byte S i 0 ≡ S
unfolding xor_byte
xor_byte-zero S i =
    ap (λ (n : ℕ). set S (i / 8) (bit_xor (get_or S (i / 8) 0) n)) (zero-mul (2 ^ (8 * (i % 8))))
    ∙ ap (set S (i / 8)) (xor_zero_r (get_or S (i / 8) 0)) ∙ set-get_or S (i / 8) 0

-- ---- a block xored into a state, and one byte more of it

pub xored-nil : (S : List ℕ) → xored S [] ≡ S
unfolding xored little
xored-nil [] = refl
xored-nil (x ∷ S) = ap₂ {C = List ℕ} (λ y T. y ∷ T) (xor_zero_r x) (xored-nil S)

module _ (x : ℕ) (S p : List ℕ) (b : ℕ) where
  first_lane : length p < 8 → bit_xor x (little (take 8 (p ++ (b ∷ [])))) ∷ xored S (drop 8 (p ++ (b ∷ []))) ≡ xor_byte (bit_xor x (little (take 8 p)) ∷ xored S (drop 8 p)) (length p) b
  first_lane h =
      ap₂ {C = List ℕ} (λ q r. bit_xor x (little q) ∷ xored S r) (take_all 8 (p ++ (b ∷ [])) long) (drop_of_length-le (p ++ (b ∷ [])) long)
      ∙ ap {B = List ℕ} (λ y. y ∷ xored S []) (ap (bit_xor x) (sym (xor-little p b)) ∙ sym (xor_assoc x (little p) _))
      ∙ sym (xor_byte-first (bit_xor x (little p)) (xored S []) (length p) b h)
      ∙ sym (ap₂ (λ (q r : List ℕ). xor_byte (bit_xor x (little q) ∷ xored S r) (length p) b) (take_all 8 p short) (drop_of_length-le p short))
    where
      short : length p ≤ 8
      short = omega arith

      long : length (p ++ (b ∷ [])) ≤ 8
      long = simp length-append (omega arith)

  later_lane : 8 ≤ length p → xored S (drop 8 p ++ (b ∷ [])) ≡ xor_byte (xored S (drop 8 p)) (length (drop 8 p)) b
      → bit_xor x (little (take 8 (p ++ (b ∷ [])))) ∷ xored S (drop 8 (p ++ (b ∷ []))) ≡ xor_byte (bit_xor x (little (take 8 p)) ∷ xored S (drop 8 p)) (length p) b
  later_lane h rest =
      ap₂ {C = List ℕ} (λ q r. bit_xor x (little q) ∷ xored S r) (take-append-le 8 p (b ∷ []) h) (drop-append-le 8 p (b ∷ []) h)
      ∙ ap {B = List ℕ} (λ T. bit_xor x (little (take 8 p)) ∷ T) rest
      ∙ sym (xor_byte-rest (bit_xor x (little (take 8 p))) (xored S (drop 8 p)) (length (drop 8 p)) b)
      ∙ ap (λ (n : ℕ). xor_byte (bit_xor x (little (take 8 p)) ∷ xored S (drop 8 p)) n b) whole
    where
      whole : 8 + length (drop 8 p) ≡ length p
      whole = simp length-drop (omega arith)

-- one byte more of a block
pub xored-snoc : (S p : List ℕ) (b : ℕ) → xored S (p ++ (b ∷ [])) ≡ xor_byte (xored S p) (length p) b
unfolding xored
xored-snoc [] p b = sym (xor_byte-nil (length p) b)
xored-snoc (x ∷ S) p b =
    elim (dec_lt (length p) 8) as (λ d. bit_xor x (little (take 8 (p ++ (b ∷ [])))) ∷ xored S (drop 8 (p ++ (b ∷ []))) ≡ xor_byte (bit_xor x (little (take 8 p)) ∷ xored S (drop 8 p)) (length p) b)
    [ yes h ↦ first_lane x S p b h | no h ↦ later_lane x S p b (omega arith) (xored-snoc S (drop 8 p) b) ]

-- ---- several bytes

pub xor_bytes-append : (S : List ℕ) (i : ℕ) (x y : List ℕ) → xor_bytes S i (x ++ y) ≡ xor_bytes (xor_bytes S i x) (i + length x) y
unfolding xor_bytes
xor_bytes-append S i [] y = ap (λ (n : ℕ). xor_bytes S n y) (sym (add-zero i))
xor_bytes-append S i (b ∷ x) y =
    xor_bytes-append (xor_byte S i b) (i + 1) x y
    ∙ ap (λ (n : ℕ). xor_bytes (xor_bytes (xor_byte S i b) (i + 1) x) n y) (one_more i (length x))
  where
    one_more : (i n : ℕ) → i + 1 + n ≡ i + suc n
    one_more i n = omega arith

pub xor_bytes-snoc : (S : List ℕ) (i : ℕ) (x : List ℕ) (b : ℕ) → xor_bytes S i (x ++ (b ∷ [])) ≡ xor_byte (xor_bytes S i x) (i + length x) b
unfolding xor_bytes
xor_bytes-snoc S i x b = xor_bytes-append S i x (b ∷ [])

pub length-xor_bytes : (S : List ℕ) (i : ℕ) (x : List ℕ) → length (xor_bytes S i x) ≡ length S
unfolding xor_bytes xor_byte
length-xor_bytes S i [] = refl
length-xor_bytes S i (b ∷ x) = length-xor_bytes (xor_byte S i b) (i + 1) x ∙ length-set S (i / 8) _

-- more bytes of a block
pub xored-append : (S p q : List ℕ) → xored S (p ++ q) ≡ xor_bytes (xored S p) (length p) q
unfolding xor_bytes
xored-append S p [] = ap (xored S) (append-nil p)
xored-append S p (b ∷ q) =
    ap (xored S) (sym (append_assoc p (b ∷ []) q))
    ∙ xored-append S (p ++ (b ∷ [])) q
    ∙ ap₂ (λ (T : List ℕ) (n : ℕ). xor_bytes T n q) (xored-snoc S p b) (length-append p (b ∷ []))

pub xored-bytes : (S p : List ℕ) → xored S p ≡ xor_bytes S 0 p
xored-bytes S p = xored-append S [] p ∙ ap (λ (T : List ℕ). xor_bytes T 0 p) (xored-nil S)

-- zeros change nothing
pub xored_zeros : (S p : List ℕ) (n : ℕ) → xored S (p ++ replicate n 0) ≡ xored S p
xored_zeros S p zero = ap (xored S) (append-nil p)
xored_zeros S p (suc n) =
    ap (xored S) (sym (append_assoc p (0 ∷ []) (replicate n 0)))
    ∙ xored_zeros S (p ++ (0 ∷ [])) n
    ∙ xored-snoc S p 0 ∙ xor_byte-zero (xored S p) (length p)

-- ---- eight bytes at once: a word into a lane

xor_byte_at : (S : List ℕ) (k j b : ℕ) → j < 8 → xor_byte S (8 * k + j) b ≡ set S k (bit_xor (get_or S k 0) (b % 256 * 2 ^ (8 * j)))
unfolding xor_byte
xor_byte_at S k j b h =
    ap₂ (λ (q r : ℕ). set S q (bit_xor (get_or S q 0) (b % 256 * 2 ^ (8 * r)))) quotient remainder
  where
    quotient : (8 * k + j) / 8 ≡ k
    quotient = omega arith

    remainder : (8 * k + j) % 8 ≡ j
    remainder = omega arith

xor_bytes-lane : (S : List ℕ) (k j : ℕ) (w : List ℕ) → j + length w ≤ 8 → xor_bytes S (8 * k + j) w ≡ set S k (bit_xor (get_or S k 0) (little w * 2 ^ (8 * j)))
unfolding xor_bytes little
xor_bytes-lane S k j [] h =
    sym (ap (λ (n : ℕ). set S k (bit_xor (get_or S k 0) n)) (zero-mul (2 ^ (8 * j))) ∙ ap (set S k) (xor_zero_r (get_or S k 0)) ∙ set-get_or S k 0)
xor_bytes-lane S k j (b ∷ w) h =
    ap₂ (λ (T : List ℕ) (n : ℕ). xor_bytes T n w) (xor_byte_at S k j b (omega arith)) next_place
    ∙ xor_bytes-lane (set S k (bit_xor (get_or S k 0) (b % 256 * 2 ^ (8 * j)))) k (suc j) w (omega arith)
    ∙ set_again S k (bit_xor (get_or S k 0) (b % 256 * 2 ^ (8 * j))) (λ y. bit_xor y (little w * 2 ^ (8 * suc j)))
    ∙ ap (set S k) (xor_assoc (get_or S k 0) _ _ ∙ ap (bit_xor (get_or S k 0)) (above_byte b (little w) j))
  where
    next_place : 8 * k + j + 1 ≡ 8 * k + suc j
    next_place = omega arith

pub xor_bytes_word : (S : List ℕ) (k : ℕ) (w : List ℕ) → length w ≡ 8 → xor_bytes S (8 * k) w ≡ set S k (bit_xor (get_or S k 0) (little w))
xor_bytes_word S k w h =
    ap (λ (n : ℕ). xor_bytes S n w) (sym (add-zero (8 * k)))
    ∙ xor_bytes-lane S k 0 w (omega arith)
    ∙ ap (λ (n : ℕ). set S k (bit_xor (get_or S k 0) n)) (mul-one (little w))

-- two bytes at one place are one, their exclusive or
pub xor_byte_twice : (S : List ℕ) (i a b c : ℕ) → bit_xor (a % 256 * 2 ^ (8 * (i % 8))) (b % 256 * 2 ^ (8 * (i % 8))) ≡ c % 256 * 2 ^ (8 * (i % 8))
    → xor_byte (xor_byte S i a) i b ≡ xor_byte S i c
unfolding xor_byte
xor_byte_twice S i a b c e =
    set_again S (i / 8) (bit_xor (get_or S (i / 8) 0) (a % 256 * 2 ^ (8 * (i % 8)))) (λ y. bit_xor y (b % 256 * 2 ^ (8 * (i % 8))))
    ∙ ap (set S (i / 8)) (xor_assoc (get_or S (i / 8) 0) _ _ ∙ ap (bit_xor (get_or S (i / 8) 0)) e)

-- ---- bytes given from a place on

pub length-bytes_from : (S : List ℕ) (i n : ℕ) → length (bytes_from S i n) ≡ n
unfolding bytes_from
length-bytes_from S i n = length-table n (λ j. byte_at S (i + j))

pub bytes_from-add : (S : List ℕ) (i m n : ℕ) → bytes_from S i (m + n) ≡ bytes_from S i m ++ bytes_from S (i + m) n
unfolding bytes_from
bytes_from-add S i m n =
    table-add m n (λ j. byte_at S (i + j))
    ∙ ap (λ (r : List ℕ). table m (λ j. byte_at S (i + j)) ++ r)
    (table_same n (λ j. byte_at S (i + (m + j))) (λ j. byte_at S (i + m + j)) (λ j h. ap (byte_at S) (sym (add_assoc i m j))))

bytes_from-snoc : (S : List ℕ) (i n : ℕ) → bytes_from S i (n + 1) ≡ bytes_from S i n ++ (byte_at S (i + n) ∷ [])
unfolding bytes_from
bytes_from-snoc S i n = ap (λ (k : ℕ). table k (λ j. byte_at S (i + j))) (add-one n) ∙ table-suc n (λ j. byte_at S (i + j))

-- the bytes of a lane
bytes_from-lane : (S : List ℕ) (k : ℕ) → to_le_bytes w64 (get_or S k 0) ≡ bytes_from S (8 * k) 8
unfolding bytes_from byte_at
bytes_from-lane S k =
    word-bytes (get_or S k 0)
    ∙ table_same 8 (λ i. get_or S k 0 / 2 ^ (8 * i) % 256) (λ i. get_or S ((8 * k + i) / 8) 0 / 2 ^ (8 * ((8 * k + i) % 8)) % 256)
    (λ i h. ap₂ (λ (q r : ℕ). get_or S q 0 / 2 ^ (8 * r) % 256)
    (let e : k ≡ (8 * k + i) / 8 = omega arith in e) (let e : i ≡ (8 * k + i) % 8 = omega arith in e))

-- ---- a turn of each loop over a part of a block

-- bytes of one lane are xored in at once
pub few_xored : (S : List ℕ) (at : ℕ) (bytes : List ℕ) (w : ℕ) → at % 8 + length bytes ≤ 8 → w ≡ little bytes
    → set S (at / 8) (bit_xor (get_or S (at / 8) 0) (w * 2 ^ (8 * (at % 8)) % 2 ^ 64)) ≡ xor_bytes S at bytes
few_xored S at bytes w h e =
    ap (λ (n : ℕ). set S (at / 8) (bit_xor (get_or S (at / 8) 0) n)) (ap (λ (n : ℕ). n * 2 ^ (8 * (at % 8)) % 2 ^ 64) e ∙ shifted_few bytes (at % 8) h)
    ∙ sym (xor_bytes-lane S (at / 8) (at % 8) bytes h)
    ∙ ap (λ (n : ℕ). xor_bytes S n bytes) (let g : 8 * (at / 8) + at % 8 ≡ at = omega arith in g)

-- one word more is xored in
pub words_turn : (S : List ℕ) (k : ℕ) (bytes : List ℕ) (j : ℕ) (cur : List ℕ) (w : ℕ) → 8 * j + 8 ≤ length bytes
    → cur ≡ xor_bytes S (8 * k) (take (8 * j) bytes) → w ≡ little (take 8 (drop (8 * j) bytes))
    → set cur (k + j) (bit_xor (get_or cur (k + j) 0) w) ≡ xor_bytes S (8 * k) (take (8 * (j + 1)) bytes)
words_turn S k bytes j cur w h e f =
    ap (λ (y : ℕ). set cur (k + j) (bit_xor (get_or cur (k + j) 0) y)) f
    ∙ sym (xor_bytes_word cur (k + j) (take 8 (drop (8 * j) bytes)) (length-take-le 8 (drop (8 * j) bytes) room))
    ∙ ap₂ (λ (T : List ℕ) (n : ℕ). xor_bytes T n (take 8 (drop (8 * j) bytes))) e place
    ∙ sym (xor_bytes-append S (8 * k) (take (8 * j) bytes) (take 8 (drop (8 * j) bytes)))
    ∙ ap (xor_bytes S (8 * k)) (sym (take-add (8 * j) 8 bytes) ∙ ap (λ (n : ℕ). take n bytes) (let g : 8 * j + 8 ≡ 8 * (j + 1) = omega arith in g))
  where
    room : 8 ≤ length (drop (8 * j) bytes)
    room = simp length-drop (omega arith)

    place : 8 * (k + j) ≡ 8 * k + length (take (8 * j) bytes)
    place = let l = length-take-le (8 * j) bytes (omega arith) in omega arith

-- one byte more is given
pub given_turn : (S : List ℕ) (at : ℕ) (out : List ℕ) (i v : ℕ) → i < length out
    → take i out ≡ bytes_from S at i → v ≡ byte_at S (at + i) → take (i + 1) (set out i v) ≡ bytes_from S at (i + 1)
given_turn S at out i v h e f =
    ap (λ (n : ℕ). take n (set out i v)) (add-one i)
    ∙ take-suc-set out i v h
    ∙ ap₂ (λ (x : List ℕ) (y : ℕ). x ++ (y ∷ [])) e f
    ∙ sym (bytes_from-snoc S at i)

-- the bytes from a to e are given behind those before them
pub given_part : (S : List ℕ) (at : ℕ) (out ys : List ℕ) (a k e : ℕ) → a ≤ length out → a ≤ e
    → take a out ≡ bytes_from S at a → ys ≡ bytes_from S (at + a) (e - a) → take e (put_mid a k out ys) ≡ bytes_from S at e
given_part S at out ys a k e h le so_far new =
    let l : length ys ≡ e - a = ap length new ∙ length-bytes_from S (at + a) (e - a) in
    take-put_mid a k out ys e (omega arith) h
    ∙ ap₂ (λ (x y : List ℕ). x ++ y) so_far new
    ∙ sym (bytes_from-add S at a (e - a))
    ∙ ap (bytes_from S at) (let g : a + (e - a) ≡ e = omega arith in g)

-- one word more is given
pub given_words_turn : (S : List ℕ) (k : ℕ) (out : List ℕ) (j n : ℕ) (new : List ℕ) → 8 * j ≤ length out
    → take (8 * j) out ≡ bytes_from S (8 * k) (8 * j) → new ≡ to_le_bytes w64 (get_or S (k + j) 0)
    → take (8 * (j + 1)) (put_mid (8 * j) n out new) ≡ bytes_from S (8 * k) (8 * (j + 1))
given_words_turn S k out j n new h e f =
    given_part S (8 * k) out new (8 * j) n (8 * (j + 1)) h (omega arith) e
    (f ∙ bytes_from-lane S (k + j) ∙ ap₂ (bytes_from S) (let g : 8 * (k + j) ≡ 8 * k + 8 * j = omega arith in g) (let g : 8 ≡ 8 * (j + 1) - 8 * j = omega arith in g))
