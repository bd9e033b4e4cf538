-- The packing of sixteen parties by windows: a window has sixteen elements of one party, or the last of one and the first of the next,
-- and each word written adds sixteen elements to those that stand in the bytes. Assumes nothing.
use mathlib.Core.Path.{◌≡◌, ap, ap₂, ◌∙◌, subst}
use mathlib.Core.List.{List}
use Prim.Native.Nat.{ℕ, ◌+◌, ◌-◌, ◌*◌, ◌/◌, ◌%◌, ◌^◌, ◌≤◌, ◌<◌}
use native.Mathlib.Nat.{mul-add, mul-one, mul-le-mul_left}
use native.Mathlib.Decide.{dec_lt}
use native.Mathlib.Omega.{arith}
use lib.Bits.{bit_xor, xor_zero_l, xor_zero_r}
use lib.ListN.{length, get_or, drop}
use Rattle.memory.specs.Lists.{put}
use Rattle.memory.proofs.Digits.{same_quotient, same_rest}
use Rattle.field.specs.Packing.{nib}
use Rattle.lanes.specs.Lanes.{lane, word_bytes}
use Rattle.lanes.proofs.Laws.{lane_xor, lane-shl, lane-shl_low, lane-shr, lane_past}
use Rattle.lanes.proofs.Bytes.{nib-put-before, nib-put_word, length-word_bytes}
use Rattle.turning.specs.Parties.{PartiesPacked, blocks_end, TurnedBack, Window, ElementsFrom}

module _ (x y s : ℕ) (small : x < 2 ^ 64) (hs : s < 16) where
  -- the second word, shifted up in two steps
  abbrev raised : ℕ
  raised = y * 2 ^ (60 - 4 * s) % 2 ^ 64 * 2 ^ 4 % 2 ^ 64

  steps : 60 - 4 * s ≡ 4 * (15 - s)
  steps = omega arith

  raised_low : (i : ℕ) → i + s < 16 → lane i raised ≡ 0
  raised_low i h =
      elim (dec_lt i 1) as (λ d. lane i raised ≡ 0) [
        | yes l ↦ lane-shl_low i (y * 2 ^ (60 - 4 * s) % 2 ^ 64) 1 (omega arith) l
        | no l ↦
            lane-shl i (y * 2 ^ (60 - 4 * s) % 2 ^ 64) 1 (omega arith) (omega arith)
            ∙ ap (λ (n : ℕ). lane (i - 1) (y * 2 ^ n % 2 ^ 64)) steps
            ∙ lane-shl_low (i - 1) y (15 - s) (omega arith) (omega arith)
      ]

  raised_high : (i : ℕ) → i < 16 → 16 ≤ i + s → lane i raised ≡ lane (i + s - 16) y
  raised_high i hi h =
      let e : i - 1 - (15 - s) ≡ i + s - 16 = omega arith in
      lane-shl i (y * 2 ^ (60 - 4 * s) % 2 ^ 64) 1 hi (omega arith)
      ∙ ap (λ (n : ℕ). lane (i - 1) (y * 2 ^ n % 2 ^ 64)) steps
      ∙ lane-shl (i - 1) y (15 - s) (omega arith) (omega arith) ∙ ap (λ (n : ℕ). lane n y) e

  pub window_lanes : Window x y s (bit_xor (x / 2 ^ (4 * s)) raised)
  window_lanes = record {
    first = λ i h.
        lane_xor i (x / 2 ^ (4 * s)) raised ∙ ap₂ bit_xor (lane-shr i x s) (raised_low i h) ∙ xor_zero_r (lane (s + i) x);
    second = λ i hi h.
        lane_xor i (x / 2 ^ (4 * s)) raised ∙ ap₂ bit_xor (lane-shr i x s ∙ lane_past (s + i) x small (omega arith)) (raised_high i hi h)
        ∙ xor_zero_l (lane (i + s - 16) y);
  }

module _ (words turned : List ℕ) (t : TurnedBack words turned) (q k r : ℕ) (hq : q < 16) (hk : k < length words) (hm : 16 ≤ length words) where
  -- the same element, by equal places
  at : (i j j' : ℕ) → j ≡ j' → lane q (get_or words j 0) ≡ lane q (get_or words j' 0)
  at i j j' e = ap (λ (n : ℕ). lane q (get_or words n 0)) e

  -- a window inside a vector reads two blocks that follow each other
  pub elements_inside : k + 16 < length words
      → Window (get_or turned (k / 16 * 16 + q) 0) (get_or turned (k / 16 * 16 + 16 + q) 0) (k % 16) r → ElementsFrom words q k r
  elements_inside inside w = record {
    own = λ i hi h.
        elim (dec_lt (i + k % 16) 16) as (λ d. lane i r ≡ lane q (get_or words (k + i) 0)) [
          | yes l ↦
              w.first i l ∙ ap (λ (n : ℕ). lane (k % 16 + i) (get_or turned n 0)) (place (k / 16) q)
              ∙ t.blocks (k / 16) q (k % 16 + i) hq (omega arith) (omega arith) ∙ at i _ _ (near k i)
          | no l ↦
              w.second i hi (omega arith) ∙ ap (λ (n : ℕ). lane (i + k % 16 - 16) (get_or turned n 0)) (following (k / 16) q)
              ∙ t.blocks (k / 16 + 1) q (i + k % 16 - 16) hq (omega arith) (omega arith) ∙ at i _ _ (far k i (omega arith))
        ];
    next = λ i hi h hn. absurd (omega arith);
  }
    where
      place : (b q : ℕ) → b * 16 + q ≡ 16 * b + q
      place b q = omega arith

      following : (b q : ℕ) → b * 16 + 16 + q ≡ 16 * (b + 1) + q
      following b q = omega arith

      near : (k i : ℕ) → 16 * (k / 16) + (k % 16 + i) ≡ k + i
      near k i = omega arith

      far : (k i : ℕ) → 16 ≤ i + k % 16 → 16 * (k / 16 + 1) + (i + k % 16 - 16) ≡ k + i
      far k i h = omega arith

  -- a window at the end of a vector reads its last sixteen elements and the first block of the next
  pub elements_across : length words ≤ k + 16
      → Window (get_or turned ((length words + 15) / 16 * 16 + q) 0) (get_or turned (q + 1) 0) (k + 16 - length words) r → ElementsFrom words q k r
  unfolding blocks_end
  elements_across across w = record {
    own = λ i hi h.
        w.first i (omega arith) ∙ t.last q (k + 16 - length words + i) hq (omega arith)
        ∙ at i _ _ (end (length words) k i across hm);
    next = λ i hi h hn.
        w.second i hi (omega arith)
        ∙ ap₂ (λ (j n : ℕ). lane j (get_or turned n 0)) (over (length words) k i across h) (start q)
        ∙ t.blocks 0 (q + 1) (k + i - length words) hn (omega arith) (omega arith)
        ∙ ap (λ (n : ℕ). lane (q + 1) (get_or words n 0)) (from (k + i - length words));
  }
    where
      end : (m k i : ℕ) → m ≤ k + 16 → 16 ≤ m → m - 16 + (k + 16 - m + i) ≡ k + i
      end m k i h g = omega arith

      over : (m k i : ℕ) → m ≤ k + 16 → m ≤ k + i → i + (k + 16 - m) - 16 ≡ k + i - m
      over m k i h g = omega arith

      start : (q : ℕ) → q + 1 ≡ 16 * 0 + (q + 1)
      start q = omega arith

      from : (j : ℕ) → 16 * 0 + j ≡ j
      from j = omega arith

-- ---- the words written one after another

-- the elements below n stand in the bytes
pub PackedTo : ℕ → List ℕ → List ℕ → Type 0
PackedTo n words out = (q k : ℕ) → q < 16 → k < length words → length words * q + k < n → nib out (length words * q + k) ≡ lane q (get_or words k 0)

pub packed_none : (words out : List ℕ) → PackedTo 0 words out
unfolding PackedTo
packed_none words out q k hq hk h = absurd (omega arith)

-- the place m q + k lies below 16 o, so q is a party
pub party-lt : (m q k o : ℕ) → 16 * o ≡ m * q + k → o < m → q < 16
party-lt m q k o e h =
    elim (dec_lt q 16) as (λ d. q < 16) [
      | yes l ↦ l
      | no l ↦ (let g : m * 16 ≤ m * q = mul-le-mul_left m (omega arith) in absurd (omega arith))
    ]

pub packed_more : (words out : List ℕ) (o q k r : ℕ) → 16 ≤ length words → 8 * o + 8 ≤ length out → 16 * o ≡ length words * q + k → k < length words
    → PackedTo (16 * o) words out → ElementsFrom words q k r → PackedTo (16 * (o + 1)) words (put out (8 * o) (word_bytes r))
unfolding PackedTo
packed_more words out o q k r hm room e hk p w q' k' hq' hk' h =
    elim (dec_lt (m * q' + k') (16 * o)) as (λ d. nib (put out (8 * o) (word_bytes r)) (m * q' + k') ≡ lane q' (get_or words k' 0)) [
      | yes l ↦ nib-put-before out (8 * o) (word_bytes r) fits (m * q' + k') (omega arith) ∙ p q' k' hq' hk' l
      | no l ↦ new (m * q' + k' - 16 * o) (omega arith) (omega arith)
    ]
  where
    m : ℕ
    m = length words

    fits : 8 * o + length (word_bytes r) ≤ length out
    fits = let n = length-word_bytes r in omega arith

    new : (i : ℕ) → i < 16 → 2 * (8 * o) + i ≡ m * q' + k' → nib (put out (8 * o) (word_bytes r)) (m * q' + k') ≡ lane q' (get_or words k' 0)
    new i hi g =
        subst (λ (n : ℕ). nib (put out (8 * o) (word_bytes r)) n ≡ lane q' (get_or words k' 0)) g
        (nib-put_word out (8 * o) r i (omega arith) hi
        ∙ elim (dec_lt (k + i) m) as (λ d. lane i r ≡ lane q' (get_or words k' 0)) [
          | yes l ↦ (let f : m * q + (k + i) ≡ m * q' + k' = omega arith in
              w.own i hi l ∙ ap₂ (λ (a b : ℕ). lane a (get_or words b 0)) (same_quotient m q (k + i) q' k' l hk' f) (same_rest m q (k + i) q' k' l hk' f))
          | no l ↦ (let n : m * (q + 1) ≡ m * q + m = mul-add m q 1 ∙ ap (λ (x : ℕ). m * q + x) (mul-one m) in
              let f : m * (q + 1) + (k + i - m) ≡ m * q' + k' = omega arith in
              let a : q + 1 ≡ q' = same_quotient m (q + 1) (k + i - m) q' k' (omega arith) hk' f in
              w.next i hi (omega arith) (omega arith)
              ∙ ap₂ (λ (a b : ℕ). lane a (get_or words b 0)) a (same_rest m (q + 1) (k + i - m) q' k' (omega arith) hk' f))
        ])

-- where the next window starts
pub next_inside : (m q k o : ℕ) → 16 * o ≡ m * q + k → 16 * (o + 1) ≡ m * q + (k + 16)
next_inside m q k o e = omega arith

pub next_across : (m q k o : ℕ) → 16 * o ≡ m * q + k → m ≤ k + 16 → 16 * (o + 1) ≡ m * (q + 1) + (k + 16 - m)
next_across m q k o e h =
    let n : m * (q + 1) ≡ m * q + m = mul-add m q 1 ∙ ap (λ (x : ℕ). m * q + x) (mul-one m) in
    omega arith

-- all words written
pub packed_all : (words before after : List ℕ) → PackedTo (16 * length words) words after → drop (8 * length words) after ≡ drop (8 * length words) before
    → PartiesPacked words before after
unfolding PackedTo
packed_all words before after p e = record { elements = λ q k hq hk. p q k hq hk (below q k hq hk); rest = e }
  where
    below : (q k : ℕ) → q < 16 → k < length words → length words * q + k < 16 * length words
    below q k hq hk =
        let n : length words * (q + 1) ≤ length words * 16 = mul-le-mul_left (length words) (omega arith) in
        let f : length words * (q + 1) ≡ length words * q + length words = mul-add (length words) q 1 ∙ ap (λ (x : ℕ). length words * q + x) (mul-one (length words)) in
        omega arith
