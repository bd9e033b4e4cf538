-- Marks: the lanes of an element times a mark, the mark of a party, and what a word becomes by one turn of each loop.
-- Assumes nothing.
use mathlib.Core.Bool.{Bool, true, false, cond}
use mathlib.Core.Path.{◌≡◌, refl, sym, ap, ap₂, subst, ◌∙◌}
use Prim.Native.Nat.{ℕ, zero, suc, ◌+◌, ◌-◌, ◌*◌, ◌/◌, ◌%◌, ◌^◌, ◌≤◌, ◌<◌}
use native.Mathlib.Nat.{mul_comm, mul-zero, mul-one, one-mul, zero-mul, zero-add, add-mul, mod-one, mod-eq_of_lt, div-eq_of_lt, mul-le-mul_left, lt_of_lt_of_le}
use native.Mathlib.Decide.{dec_lt, ℕ_discrete}
use native.Mathlib.Omega.{arith}
use borrow.Author.Tests.{eq-eqb, ne_eqb}
use lib.Bits.{bit_xor, bit_and, and_mask, and_zero_r}
use lib.Dec.{T, eqb, lit<}
use lib.Pow.{pow-add, pow_mono, mod-pow-add}
use mir.Val.{Fits}
use mir.Syntax.{w64}
use Rattle.memory.proofs.Bits.{one_bit}
use Rattle.field.specs.Packing.{nib}
use Rattle.field.proofs.Packing.{nib-lt}
use mathlib.Core.List.{List}
use Rattle.memory.proofs.Digits.{scaled_div, scaled_mod}
use Rattle.memory.proofs.Every.{every, same1}
use Rattle.lanes.specs.Lanes.{lane, Times}
use Rattle.lanes.proofs.Laws.{lane-lt, lane-zero, lane_xor, lane_and, lane-shl, lane-shl_low}
use Rattle.marks.specs.Marks.{Flags, Mark, MarkedWord, MultipliedWord, ClearedWord, keeping}

-- ---- an element times a mark

module _ (w s : ℕ) (flags : Flags w) (small : s < 16) where
  digit_room : (d p r : ℕ) → d < 2 → r * s < p → (d * p + r) * s < 16 * p
  digit_room d p r h g = one_bit (λ (x : ℕ). (x * p + r) * s < 16 * p)
      (rw (zero-mul p, zero-add r) (omega arith))
      (let e = mul-le-mul_left p (let l : s ≤ 15 = omega arith in l) in rw (one-mul p, add-mul p r s) (omega arith)) d h

  low_room : (q : ℕ) → q ≤ 16 → w % 2 ^ (4 * q) * s < 2 ^ (4 * q)
  unfolding Flags lane
  low_room zero h = rw (mod-one w, zero-mul s) (lit< tt)
  low_room (suc q) h =
      let e : 4 * suc q ≡ 4 + 4 * q = omega arith in
      rw (e, mod-pow-add w 4 (4 * q))
      (subst (λ (x : ℕ). (w / 2 ^ (4 * q) % 2 ^ 4 * 2 ^ (4 * q) + w % 2 ^ (4 * q)) * s < x) (sym (pow_four q))
      (digit_room (w / 2 ^ (4 * q) % 2 ^ 4) (2 ^ (4 * q)) (w % 2 ^ (4 * q)) (flags q (omega arith)) (low_room q (omega arith))))
    where
      pow_four : (q : ℕ) → 2 ^ (4 + 4 * q) ≡ 16 * 2 ^ (4 * q)
      pow_four q = pow-add 2 4 (4 * q)

  pub lane_marked : (q : ℕ) → q < 16 → lane q (s * w) ≡ s * lane q w
  unfolding Flags lane
  lane_marked q h =
      let f = flags q h in
      let room : w / 2 ^ (4 * q) % 16 * s < 16 = one_bit (λ (x : ℕ). x * s < 16) (rw (zero-mul s) (lit< tt)) (rw (one-mul s) small) (w / 2 ^ (4 * q) % 16) f in
      ap (λ (x : ℕ). x / 2 ^ (4 * q) % 16) (mul_comm s w)
      ∙ ap (λ (x : ℕ). x % 16) (scaled_div w (2 ^ (4 * q)) s (low_room q (omega arith)))
      ∙ scaled_mod (w / 2 ^ (4 * q)) 16 s
      ∙ mod-eq_of_lt room
      ∙ mul_comm (w / 2 ^ (4 * q) % 16) s

  pub marked_fits : w < 2 ^ 64 → Fits w64 (s * w)
  marked_fits h = record { fits = rw (mul_comm s w) (subst (λ (x : ℕ). x * s < 2 ^ 64) (mod-eq_of_lt h) (low_room 16 (omega arith))) }

-- ---- the mark of a party

pub mark_flags : (g i w : ℕ) → Mark g i w → Flags w
unfolding Mark Flags
mark_flags g i w h q l = rw (h q l) (below (eqb (suc (16 * g + q)) i))
  where
    below : (b : Bool) → cond b 1 0 < 2
    below true = lit< tt
    below false = lit< tt

mark_missing : (g i q : ℕ) → (suc (16 * g + q) ≡ i → ⊥) → lane q 0 ≡ cond (eqb (suc (16 * g + q)) i) 1 0
mark_missing g i q h = rw (ne_eqb (suc (16 * g + q)) i h) (lane-zero q)

pub mark_before : (g i : ℕ) → i < 16 * g + 1 → Mark g i 0
unfolding Mark
mark_before g i h q l = mark_missing g i q (λ e. omega arith)

pub mark_behind : (g i : ℕ) → 16 ≤ i - (16 * g + 1) → Mark g i 0
unfolding Mark
mark_behind g i h q l = mark_missing g i q (λ e. omega arith)

lane-one : (k : ℕ) → 0 < k → lane k 1 ≡ 0
unfolding lane
lane-one k h = ap (λ (x : ℕ). x % 16) (div-eq_of_lt (lt_of_lt_of_le (let l : 1 < 2 ^ 1 = lit< tt in l) (pow_mono {i = 1} {j = 4 * k} (omega arith))))

lane-one-first : lane 0 1 ≡ 1
unfolding lane
lane-one-first = refl

pub mark_here : (g i : ℕ) → 16 * g + 1 ≤ i → i - (16 * g + 1) < 16 → Mark g i (1 * 2 ^ (4 * (i - (16 * g + 1))) % 2 ^ 64)
unfolding Mark
mark_here g i h s q l =
    let d = i - (16 * g + 1) in
    elim (dec_lt q d) as (λ x. lane q (1 * 2 ^ (4 * d) % 2 ^ 64) ≡ cond (eqb (suc (16 * g + q)) i) 1 0) [
      | yes a ↦ lane-shl_low q 1 d l a ∙ sym (rw (ne_eqb (suc (16 * g + q)) i (λ e. omega arith)))
      | no a ↦ lane-shl q 1 d l (omega arith) ∙ elim (ℕ_discrete q d) as (λ x. lane (q - d) 1 ≡ cond (eqb (suc (16 * g + q)) i) 1 0) [
        | yes b ↦ ap (λ (x : ℕ). lane x 1) (let z : q - d ≡ 0 = omega arith in z) ∙ lane-one-first ∙ sym (rw (eq-eqb (suc (16 * g + q)) i (omega arith)))
        | no b ↦ lane-one (q - d) (omega arith) ∙ sym (rw (ne_eqb (suc (16 * g + q)) i (λ e. omega arith)))
      ]
    ]

all_ones : T (every 16 (λ q. eqb (lane q 0x1111111111111111) 1))
unfolding lane
all_ones = tt

-- the word with 1 in every lane
pub ones : (q : ℕ) → q < 16 → lane q 0x1111111111111111 ≡ 1
ones q l = same1 16 (λ q. lane q 0x1111111111111111) (λ q. 1) all_ones q l

-- every party but i: the mark of i turned over
pub others-lane : (g i w q : ℕ) → Mark g i w → q < 16 → lane q (bit_xor 0x1111111111111111 w) ≡ cond (eqb (suc (16 * g + q)) i) 0 1
unfolding Mark
others-lane g i w q h l =
    lane_xor q 0x1111111111111111 w ∙ ap₂ bit_xor (ones q l) (h q l) ∙ turned (eqb (suc (16 * g + q)) i)
  where
    turned : (b : Bool) → bit_xor 1 (cond b 1 0) ≡ cond b 0 1
    turned true = refl
    turned false = refl

pub others_flags : (g i w : ℕ) → Mark g i w → Flags (bit_xor 0x1111111111111111 w)
unfolding Flags
others_flags g i w h q l = rw (others-lane g i w q h l) (below (eqb (suc (16 * g + q)) i))
  where
    below : (b : Bool) → cond b 0 1 < 2
    below true = lit< tt
    below false = lit< tt

-- ---- one word of each loop

flag_lt : (mark : ℕ) → Flags mark → (q : ℕ) → q < 16 → lane q mark < 2
unfolding Flags
flag_lt mark f q l = f q l

all_full : T (every 16 (λ q. eqb (lane q 0xffffffffffffffff) 15))
unfolding lane
all_full = tt

pub marked_word : (v mark x : ℕ) → Flags mark → v < 16 → MarkedWord v mark x (bit_xor x (v * mark))
unfolding MarkedWord
marked_word v mark x f h q l = lane_xor q x (v * mark) ∙ ap (bit_xor (lane q x)) (lane_marked mark v f h q l)

pub multiplied_word : (e a x r y : ℕ) → Times x e r → y ≡ bit_xor r a → MultipliedWord e a x y
unfolding MultipliedWord Times
multiplied_word e a x r y h g q l = ap (lane q) g ∙ lane_xor q r a ∙ ap (λ (z : ℕ). bit_xor z (lane q a)) (h q l)

pub cleared_word : (mark x : ℕ) → Flags mark → ClearedWord mark x (bit_and x (bit_xor 0xffffffffffffffff (15 * mark)))
unfolding ClearedWord
cleared_word mark x f q l =
    lane_and q x (bit_xor 0xffffffffffffffff (15 * mark))
    ∙ ap (bit_and (lane q x)) (lane_xor q 0xffffffffffffffff (15 * mark) ∙ ap₂ bit_xor (full q l) (lane_marked mark 15 f (lit< tt) q l))
    ∙ kept (lane q x) (lane-lt q x) (lane q mark) (flag_lt mark f q l)
  where
    full : (q : ℕ) → q < 16 → lane q 0xffffffffffffffff ≡ 15
    full q l = same1 16 (λ q. lane q 0xffffffffffffffff) (λ q. 15) all_full q l

    kept : (y : ℕ) → y < 16 → (m : ℕ) → m < 2 → bit_and y (bit_xor 15 (15 * m)) ≡ y * (1 - m)
    kept y h m g = one_bit (λ (m : ℕ). bit_and y (bit_xor 15 (15 * m)) ≡ y * (1 - m)) (and_mask y 4 ∙ mod-eq_of_lt h ∙ sym (mul-one y)) (and_zero_r y ∙ sym (mul-zero y)) m g

-- the same with the element and the mask as the code has them
pub marked_turn : (v mark x w : ℕ) → Flags mark → v < 16 → w ≡ v → MarkedWord v mark x (bit_xor x (w * mark))
marked_turn v mark x w f h e = rw e (marked_word v mark x f h)

pub marked_turn_fits : (v mark w : ℕ) → Flags mark → v < 16 → w ≡ v → mark < 2 ^ 64 → Fits w64 (w * mark)
marked_turn_fits v mark w f h e g = rw e (marked_fits mark v f h g)

pub cleared_turn : (mark x keep y : ℕ) → Flags mark → keep ≡ keeping mark → y ≡ bit_and x keep → ClearedWord mark x y
unfolding keeping
cleared_turn mark x keep y f e g = rw (g, e) (cleared_word mark x f)

-- an element of bytes is one
pub element_small : (v i : ℕ) (bytes : List ℕ) → v ≡ nib bytes i → v < 16
element_small v i bytes e = rw e (nib-lt bytes i)
