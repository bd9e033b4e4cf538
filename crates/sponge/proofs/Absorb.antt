-- Absorbing: in pieces as in one go, within a block by one exclusive or, and the whole of a message, with its padding, as the blocks of FIPS 202.
-- Assumes nothing.
use mathlib.Core.Path.{◌≡◌, refl, sym, ap, ap₂, ◌∙◌}
use mathlib.Core.Bool.{Bool, cond}
use mathlib.Core.List.{List, [], ◌∷◌, ◌++◌, append_assoc}
use Prim.Native.Nat.{ℕ, zero, suc, ◌+◌, ◌-◌, ◌*◌, ◌/◌, ◌%◌, ◌^◌, ◌≤◌, ◌<◌, min}
use native.Mathlib.Nat.{mod-mod, mod-eq_of_lt, add-zero}
use native.Mathlib.Decide.{dec_lt}
use native.Mathlib.Omega.{arith}
use borrow.Author.Tests.{lt-ltb, le-ltb}
use lib.ListN.{length, take, drop, replicate, length-append, length-drop, length-replicate, take-append-drop}
use lib.Seq.{take_all, take-append-le, drop-append-le, length-take-le}
use lib.Bits.{bit_xor, xor_block}
use lib.Pow.{pow_pos}
use Rattle.keccak.specs.Keccak.{keccak_f}
use Rattle.sponge.specs.declared.Sponge.{Sponge}
use Rattle.sponge.specs.Sponge.{rate, suffix, padded, xored, absorbing}
use Rattle.sponge.specs.Steps.{sponge, tape, fresh, xor_byte, xor_bytes, turned, taken, within, absorbed, finished}
use Rattle.sponge.proofs.Lanes.{xored-snoc, xored-bytes, xored_zeros, xor_byte_twice}

-- ---- in pieces

within_small : (S : List ℕ) (at : ℕ) → at < rate → within (sponge S at) ≡ sponge S at
unfolding within
within_small S at h = ap (sponge S) (mod-eq_of_lt h)

within-within : (s : Sponge) → within (within s) ≡ within s
unfolding within
within-within s = ap (sponge s.lanes) (mod-mod s.at rate)

pub absorbed-within : (s : Sponge) (x : List ℕ) → absorbed (within s) x ≡ absorbed s x
unfolding absorbed
absorbed-within s [] = within-within s
absorbed-within s (b ∷ x) = ap (λ (t : Sponge). absorbed (taken t b) x) (within-within s)

pub absorbed-append : (s : Sponge) (x y : List ℕ) → absorbed (absorbed s x) y ≡ absorbed s (x ++ y)
unfolding absorbed
absorbed-append s [] y = absorbed-within s y
absorbed-append s (b ∷ x) y = absorbed-append (taken (within s) b) x y

-- ---- within a block

pub turned_open : (S : List ℕ) (at : ℕ) → at < rate → turned S at ≡ sponge S at
unfolding turned
turned_open S at h = ap (λ (t : Bool). cond t (sponge S at) (sponge (keccak_f S) 0)) (lt-ltb at rate h)

pub turned_full : (S : List ℕ) (at : ℕ) → rate ≤ at → turned S at ≡ sponge (keccak_f S) 0
unfolding turned
turned_full S at h = ap (λ (t : Bool). cond t (sponge S at) (sponge (keccak_f S) 0)) (le-ltb at rate h)

within-turned : (S : List ℕ) (at : ℕ) → within (turned S at) ≡ turned S at
within-turned S at =
    elim (dec_lt at rate) as (λ d. within (turned S at) ≡ turned S at) [
      | yes h ↦ ap within (turned_open S at h) ∙ within_small S at h ∙ sym (turned_open S at h)
      | no h ↦ (let g : rate ≤ at = omega arith in
          ap within (turned_full S at g) ∙ within_small (keccak_f S) 0 (omega arith) ∙ sym (turned_full S at g))
    ]

taken_small : (S : List ℕ) (at b : ℕ) → at < rate → taken (within (sponge S at)) b ≡ turned (xor_byte S at b) (at + 1)
unfolding taken
taken_small S at b h = ap (λ (s : Sponge). turned (xor_byte s.lanes s.at b) (s.at + 1)) (within_small S at h)

-- bytes that the block has room for
pub absorbed_run : (S : List ℕ) (at : ℕ) (x : List ℕ) → at < rate → at + length x ≤ rate → absorbed (sponge S at) x ≡ turned (xor_bytes S at x) (at + length x)
unfolding absorbed xor_bytes
absorbed_run S at [] h k = within_small S at h ∙ sym (ap (turned S) (add-zero at) ∙ turned_open S at h)
absorbed_run S at (b ∷ []) h k = ap within (taken_small S at b h) ∙ within-turned (xor_byte S at b) (at + 1)
absorbed_run S at (b ∷ c ∷ x) h k =
    ap (λ (s : Sponge). absorbed s (c ∷ x)) (taken_small S at b h ∙ turned_open (xor_byte S at b) (at + 1) (omega arith))
    ∙ absorbed_run (xor_byte S at b) (at + 1) (c ∷ x) (omega arith) (omega arith)
    ∙ ap (turned (xor_bytes (xor_byte S at b) (at + 1) (c ∷ x))) one_more
  where
    one_more : at + 1 + suc (length x) ≡ at + suc (suc (length x))
    one_more = omega arith

-- ---- whole blocks

absorbed-block : (S m : List ℕ) → rate ≤ length m → absorbed (sponge S 0) m ≡ absorbed (sponge (keccak_f (xored S (take rate m))) 0) (drop rate m)
absorbed-block S m h =
    let long = length-take-le rate m h in
    ap (absorbed (sponge S 0)) (sym (take-append-drop rate m))
    ∙ sym (absorbed-append (sponge S 0) (take rate m) (drop rate m))
    ∙ ap (λ (s : Sponge). absorbed s (drop rate m))
    (absorbed_run S 0 (take rate m) (omega arith) (omega arith)
    ∙ turned_full (xor_bytes S 0 (take rate m)) (0 + length (take rate m)) (omega arith)
    ∙ ap (λ (T : List ℕ). sponge (keccak_f T) 0) (sym (xored-bytes S (take rate m))))

absorbed-part : (S m : List ℕ) → length m < rate → absorbed (sponge S 0) m ≡ sponge (xored S m) (length m)
absorbed-part S m h =
    absorbed_run S 0 m (omega arith) (omega arith)
    ∙ ap (turned (xor_bytes S 0 m)) (let e : 0 + length m ≡ length m = omega arith in e)
    ∙ turned_open (xor_bytes S 0 m) (length m) h
    ∙ ap (λ (T : List ℕ). sponge T (length m)) (sym (xored-bytes S m))

-- ---- the padding

pub length-suffix : (n : ℕ) → length (suffix n) ≡ suc n
unfolding suffix
length-suffix zero = refl
length-suffix (suc n) = ap suc (length-append (replicate n 0) (0x80 ∷ []) ∙ ap (λ (k : ℕ). k + 1) (length-replicate n 0) ∙ (let e : n + 1 ≡ suc n = omega arith in e))

padding_bits : (k : ℕ) → bit_xor (0x1f * 2 ^ k) (0x80 * 2 ^ k) ≡ 0x9f * 2 ^ k
padding_bits k =
    ap₂ bit_xor (sym (add-zero (0x1f * 2 ^ k))) (sym (add-zero (0x80 * 2 ^ k)))
    ∙ xor_block k 0x1f 0x80 0 0 (pow_pos k) (pow_pos k)
    ∙ add-zero (0x9f * 2 ^ k)

xored-suffix : (S m : List ℕ) (n : ℕ) → length m + n ≡ rate - 1 → xored S (m ++ suffix n) ≡ xor_byte (xor_byte (xored S m) (length m) 0x1f) (rate - 1) 0x80
unfolding suffix
xored-suffix S m zero e =
    xored-snoc S m 0x9f
    ∙ sym (xor_byte_twice (xored S m) (length m) 0x1f 0x80 0x9f (padding_bits (8 * (length m % 8))))
    ∙ ap (λ (i : ℕ). xor_byte (xor_byte (xored S m) (length m) 0x1f) i 0x80) (let g : length m ≡ rate - 1 = omega arith in g)
xored-suffix S m (suc n) e =
    ap (xored S) (sym (append_assoc m (0x1f ∷ []) (replicate n 0 ++ (0x80 ∷ []))) ∙ sym (append_assoc (m ++ (0x1f ∷ [])) (replicate n 0) (0x80 ∷ [])))
    ∙ xored-snoc S ((m ++ (0x1f ∷ [])) ++ replicate n 0) 0x80
    ∙ ap₂ (λ (T : List ℕ) (i : ℕ). xor_byte T i 0x80)
    (xored_zeros S (m ++ (0x1f ∷ [])) n ∙ xored-snoc S m 0x1f)
    (length-append (m ++ (0x1f ∷ [])) (replicate n 0) ∙ ap₂ (λ (x y : ℕ). x + y) (length-append m (0x1f ∷ [])) (length-replicate n 0) ∙ (let g : length m + 1 + n ≡ rate - 1 = omega arith in g))

-- ---- a whole message

pub length-padded : (m : List ℕ) → length (padded m) ≡ length m + (rate - length m % rate)
unfolding padded
length-padded m =
    length-append m _ ∙ ap (λ (k : ℕ). length m + k) (length-suffix (rate - 1 - length m % rate) ∙ (let e : suc (rate - 1 - length m % rate) ≡ rate - length m % rate = omega arith in e))

module _ (m : List ℕ) (h : rate ≤ length m) where
  take-padded : take rate (padded m) ≡ take rate m
  unfolding padded
  take-padded = take-append-le rate m _ h

  drop-padded : drop rate (padded m) ≡ padded (drop rate m)
  unfolding padded
  drop-padded =
      drop-append-le rate m _ h
      ∙ ap (λ (k : ℕ). drop rate m ++ suffix (rate - 1 - k)) (let e : length m % rate ≡ (length m - rate) % rate = omega arith in e ∙ ap (λ (k : ℕ). k % rate) (sym (length-drop rate m)))

finished-part : (S : List ℕ) (at : ℕ) → at < rate → finished (sponge S at) ≡ tape (keccak_f (xor_byte (xor_byte S at 0x1f) (rate - 1) 0x80)) 0
unfolding finished
finished-part S at h = ap (λ (i : ℕ). tape (keccak_f (xor_byte (xor_byte S i 0x1f) (rate - 1) 0x80)) 0) (mod-eq_of_lt h)

xored-padded : (S m : List ℕ) → length m < rate → xored S (padded m) ≡ xor_byte (xor_byte (xored S m) (length m) 0x1f) (rate - 1) 0x80
unfolding padded
xored-padded S m h = xored-suffix S m (rate - 1 - length m % rate) (omega arith)

pub finished-blocks : (n : ℕ) (S m : List ℕ) → length m / rate ≡ n → finished (absorbed (sponge S 0) m) ≡ tape (absorbing (suc n) S (padded m)) 0
unfolding absorbing
finished-blocks zero S m e =
    ap finished (absorbed-part S m h)
    ∙ finished-part (xored S m) (length m) h
    ∙ ap (λ (T : List ℕ). tape (keccak_f T) 0)
    (sym (ap (xored S) (take_all rate (padded m) (let g = length-padded m in omega arith)) ∙ xored-padded S m h))
  where
    h : length m < rate
    h = omega arith
finished-blocks (suc n) S m e =
    ap finished (absorbed-block S m h)
    ∙ finished-blocks n (keccak_f (xored S (take rate m))) (drop rate m) rest
    ∙ ap₂ (λ (p q : List ℕ). tape (absorbing (suc n) (keccak_f (xored S p)) q) 0) (sym (take-padded m h)) (sym (drop-padded m h))
  where
    h : rate ≤ length m
    h = omega arith

    rest : length (drop rate m) / rate ≡ n
    rest = simp length-drop (omega arith)

-- ---- a turn of the loop over a message: as much of it as the block has room for

-- nothing is left
pub absorbed_none : (S : List ℕ) (at : ℕ) (x : List ℕ) → at < rate → length x ≡ 0 → absorbed (sponge S at) x ≡ sponge S at
unfolding absorbed
absorbed_none S at [] h e = within_small S at h
absorbed_none S at (b ∷ x) h e = absurd (omega arith)

pub turned-place : (S : List ℕ) (at : ℕ) (r : Sponge) → r ≡ turned S at → r.at < rate
turned-place S at r e =
    elim (dec_lt at rate) as (λ d. r.at < rate) [
      | yes h ↦ (let g = ap (λ (s : Sponge). s.at) (e ∙ turned_open S at h) in omega arith)
      | no h ↦ (let g = ap (λ (s : Sponge). s.at) (e ∙ turned_full S at (let k : rate ≤ at = omega arith in k)) in omega arith)
    ]

pub absorb_turn : (S rest : List ℕ) (at n : ℕ) (x : List ℕ) (r : Sponge)
    → at < rate → n ≡ min (rate - at) (length rest) → x ≡ xor_bytes S at (take n rest) → r ≡ turned x (at + n)
    → absorbed r (drop n rest) ≡ absorbed (sponge S at) rest
absorb_turn S rest at n x r h en ex er =
    let l = length-take-le n rest (omega arith) in
    ap (λ (s : Sponge). absorbed s (drop n rest))
    (er ∙ ap₂ turned ex (ap (λ (k : ℕ). at + k) (sym l)) ∙ sym (absorbed_run S at (take n rest) h (omega arith)))
    ∙ absorbed-append (sponge S at) (take n rest) (drop n rest)
    ∙ ap (absorbed (sponge S at)) (take-append-drop n rest)

-- ---- a message that is shorter than a block: its bytes, the suffix and the padding are xored into a state of zeros

-- the zeros behind the message change nothing
xor_bytes-short : (S block : List ℕ) (n k : ℕ) → drop n block ≡ replicate k 0 → xor_bytes S 0 block ≡ xor_bytes S 0 (take n block)
xor_bytes-short S block n k e =
    sym (xored-bytes S block)
    ∙ ap (xored S) (sym (take-append-drop n block) ∙ ap (λ (r : List ℕ). take n block ++ r) e)
    ∙ xored_zeros S (take n block) k
    ∙ xored-bytes S (take n block)

pub short-tape : (block : List ℕ) (n : ℕ) (x y z S : List ℕ) → n < rate → length block ≡ rate → drop n block ≡ replicate (rate - n) 0
    → x ≡ xor_bytes (replicate 25 0) 0 block → y ≡ xor_byte x n 0x1f → z ≡ xor_byte y (rate - 1) 0x80 → S ≡ keccak_f z
    → tape S 0 ≡ finished (absorbed fresh (take n block))
unfolding fresh
short-tape block n x y z S h l e ex ey ez eS =
    ap (λ (T : List ℕ). tape T 0) (eS ∙ ap keccak_f (ez ∙ ap (λ (T : List ℕ). xor_byte T (rate - 1) 0x80) (ey ∙ ap (λ (T : List ℕ). xor_byte T n 0x1f) (ex ∙ xor_bytes-short (replicate 25 0) block n (rate - n) e))))
    ∙ sym (ap finished absorbed_all ∙ finished-part (xor_bytes (replicate 25 0) 0 (take n block)) n h)
  where
    long : length (take n block) ≡ n
    long = length-take-le n block (omega arith)

    absorbed_all : absorbed (sponge (replicate 25 0) 0) (take n block) ≡ sponge (xor_bytes (replicate 25 0) 0 (take n block)) n
    absorbed_all =
        absorbed_run (replicate 25 0) 0 (take n block) (omega arith) (omega (arith, long))
        ∙ ap (turned (xor_bytes (replicate 25 0) 0 (take n block))) (let g : 0 + length (take n block) ≡ n = omega (arith, long) in g)
        ∙ turned_open (xor_bytes (replicate 25 0) 0 (take n block)) n h
