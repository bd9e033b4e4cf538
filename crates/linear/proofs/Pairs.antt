-- The sums that bytes of packed coefficients pick from: those of one pair of words, twice as many at each step, and those of one pair more. Assumes nothing.
use mathlib.Core.Path.{◌≡◌, sym, ap, ap₂, ◌∙◌, subst}
use mathlib.Core.List.{List, ◌++◌}
use Prim.Native.Nat.{ℕ, ◌+◌, ◌-◌, ◌*◌, ◌/◌, ◌%◌, ◌≤◌, ◌<◌}
use native.Mathlib.Decide.{dec_lt}
use native.Mathlib.Omega.{arith}
use lib.Bits.{bit_xor, xor_zero_r}
use lib.ListN.{length, get_or, take, drop, length-drop, get_or-append}
use lib.Seq.{length-take-le, get_or-take, get_or-drop, get_or-append_right}
use Rattle.memory.proofs.Bits.{xor_assoc}
use Rattle.memory.proofs.Every.{same1}
use Rattle.field.specs.Field.{mul}
use Rattle.field.proofs.Laws.{mul-xor_l, mul-zero_l}
use Rattle.linear.specs.Word.{View, Adds, MultiplesOf}
use Rattle.linear.specs.Rows.{PairValue, PairsOf, PairsFrom, Spread}

-- ---- words of which a part was lent: ys came back in the place of the k words from the place a on

module _ {W : Type 0} (a k : ℕ) (t ys : List W) (d : W) (same : length ys ≡ length (take k (drop a t))) (fits : a + k ≤ length t) where
  size : length ys ≡ k
  size = same ∙ length-take-le k (drop a t) (simp length-drop (omega arith))

  front : length (take a t) ≡ a
  front = length-take-le a t (omega arith)

  lent_before : (i : ℕ) → i < a → get_or (take a t ++ (ys ++ drop k (drop a t))) i d ≡ get_or t i d
  lent_before i h = get_or-append (take a t) (ys ++ drop k (drop a t)) d i (let e = front in omega arith) ∙ get_or-take a t i d h

  lent_in : (i : ℕ) → i < k → get_or (take a t ++ (ys ++ drop k (drop a t))) (a + i) d ≡ get_or ys i d
  lent_in i h =
      let e = front in
      let s = size in
      let p : a + i - length (take a t) ≡ i = omega arith in
      get_or-append_right (take a t) (ys ++ drop k (drop a t)) (a + i) d (omega arith)
      ∙ ap (λ (j : ℕ). get_or (ys ++ drop k (drop a t)) j d) p
      ∙ get_or-append ys (drop k (drop a t)) d i (omega arith)

-- ---- the sums of a pair, twice as many at each step

-- h is one bit above every number below it
abbrev pub Above : ℕ → Type 0
Above h = (j : ℕ) → j < h → h + j ≡ bit_xor j h

pub above_1 : Above 1
above_1 = same1 1 (λ j. 1 + j) (λ j. bit_xor j 1) tt

pub above_2 : Above 2
above_2 = same1 2 (λ j. 2 + j) (λ j. bit_xor j 2) tt

pub above_4 : Above 4
above_4 = same1 4 (λ j. 4 + j) (λ j. bit_xor j 4) tt

pub above_8 : Above 8
above_8 = same1 8 (λ j. 8 + j) (λ j. bit_xor j 8) tt

module _ {W : Type 0} (v : View W) where
  -- the sums for the bytes below n
  abbrev pub PairsBelow : ℕ → W → W → List W → Type 0
  PairsBelow n low high t = (b : ℕ) → b < n → PairValue v low high b (get_or t b v.zero)

  -- where the high half is 0: a multiple of the first word
  pair_low : (low high : W) (t : List W) → MultiplesOf v low t → PairsBelow 16 low high t
  unfolding MultiplesOf PairValue
  pair_low low high t m b h q hq =
      let first : b ≡ b % 16 = omega arith in
      let second : 0 ≡ b / 16 = omega arith in
      m b q h hq
      ∙ sym (xor_zero_r (mul b (v.lane q low)))
      ∙ ap₂ bit_xor (ap (λ (c : ℕ). mul c (v.lane q low)) first)
      (sym (mul-zero_l (v.lane q high)) ∙ ap (λ (c : ℕ). mul c (v.lane q high)) second)

  -- these multiples, as they are lent
  pub pairs_first : (low high : W) (out ys : List W) → MultiplesOf v low ys → length out ≡ 256 → length ys ≡ length (take (16 - 0) (drop 0 out))
      → PairsBelow 16 low high (take 0 out ++ (ys ++ drop (16 - 0) (drop 0 out)))
  pairs_first low high out ys m full kept b h =
      let e = size 0 16 out ys v.zero kept (omega arith) in
      subst (PairValue v low high b) (sym (get_or-append ys (drop (16 - 0) (drop 0 out)) v.zero b (omega arith))) (pair_low low high ys m b h)

  module _ (adds : Adds v) (h : ℕ) (low high w : W) (multiples old new : List W) (above : Above h) (small : h < 16)
      (m : MultiplesOf v high multiples) (word : w ≡ get_or multiples h v.zero) (spread : Spread v (h * 16) w old new) where
    spread_value : (k : ℕ) → k < h * 16 → PairValue v low high k (get_or old k v.zero) → PairValue v low high (h * 16 + k) (get_or new (h * 16 + k) v.zero)
    unfolding MultiplesOf PairValue
    spread_value k g value q hq =
        let first : k % 16 ≡ (h * 16 + k) % 16 = omega arith in
        let second : h + k / 16 ≡ (h * 16 + k) / 16 = omega arith in
        ap (v.lane q) (spread.added k g)
        ∙ adds q (get_or old k v.zero) w
        ∙ ap₂ bit_xor (value q hq) (ap (v.lane q) word ∙ m h q small hq)
        ∙ xor_assoc (mul (k % 16) (v.lane q low)) (mul (k / 16) (v.lane q high)) (mul h (v.lane q high))
        ∙ ap₂ bit_xor (ap (λ (c : ℕ). mul c (v.lane q low)) first)
        (sym (mul-xor_l (k / 16) h (v.lane q high)) ∙ ap (λ (c : ℕ). mul c (v.lane q high)) (sym (above (k / 16) (omega arith)) ∙ second))

    pub pairs_spread : PairsBelow (h * 16) low high old → PairsBelow (h * 16 + h * 16) low high new
    pairs_spread done b g =
        elim (dec_lt b (h * 16)) as (λ d. PairValue v low high b (get_or new b v.zero)) [
          | yes y ↦ subst (PairValue v low high b) (sym (spread.before b y)) (done b y)
          | no y ↦
              (let e : h * 16 + (b - h * 16) ≡ b = omega arith in
              subst (λ (k : ℕ). PairValue v low high k (get_or new k v.zero)) e (spread_value (b - h * 16) (omega arith) (done (b - h * 16) (omega arith))))
        ]

  -- ---- the sums of many pairs

  -- the sums of one pair of words more, as they are lent
  pub pairs_lent : (s t ys : List W) (a c i j : ℕ) (low high : W) → PairsFrom v s a c t
      → low ≡ get_or s i v.zero → high ≡ get_or s j v.zero → i ≡ a + c * 2 → j ≡ a + c * 2 + 1 → PairsOf v low high ys
      → length ys ≡ length (take (c * 256 + 256 - c * 256) (drop (c * 256) t)) → c * 256 + 256 ≤ length t
      → PairsFrom v s a (c + 1) (take (c * 256) t ++ (ys ++ drop (c * 256 + 256 - c * 256) (drop (c * 256) t)))
  unfolding PairsFrom PairsOf
  pairs_lent s t ys a c i j low high done first second ei ej next kept fits d b hd hb =
      let el = first ∙ ap (λ (k : ℕ). get_or s k v.zero) ei in
      let eh = second ∙ ap (λ (k : ℕ). get_or s k v.zero) ej in
      let k : ℕ = c * 256 + 256 - c * 256 in
      let new : List W = take (c * 256) t ++ (ys ++ drop k (drop (c * 256) t)) in
      elim (dec_lt d c) as (λ p. PairValue v (get_or s (a + d * 2) v.zero) (get_or s (a + d * 2 + 1) v.zero) b (get_or new (d * 256 + b) v.zero)) [
        | yes y ↦
            subst (PairValue v (get_or s (a + d * 2) v.zero) (get_or s (a + d * 2 + 1) v.zero) b)
            (sym (lent_before (c * 256) k t ys v.zero kept (omega arith) (d * 256 + b) (omega arith))) (done d b y hb)
        | no y ↦
            (let e : c ≡ d = omega arith in
            subst (λ (i : ℕ). PairValue v (get_or s (a + i * 2) v.zero) (get_or s (a + i * 2 + 1) v.zero) b (get_or new (i * 256 + b) v.zero)) e
            (subst (PairValue v (get_or s (a + c * 2) v.zero) (get_or s (a + c * 2 + 1) v.zero) b)
            (sym (lent_in (c * 256) k t ys v.zero kept (omega arith) b (omega arith)))
            (subst (λ (i : W). PairValue v i (get_or s (a + c * 2 + 1) v.zero) b (get_or ys b v.zero)) el
            (subst (λ (i : W). PairValue v low i b (get_or ys b v.zero)) eh (next b hb)))))
      ]

  pub pairs_none : (s t : List W) (a : ℕ) → PairsFrom v s a 0 t
  unfolding PairsFrom
  pairs_none s t a c b hc hb = absurd (omega arith)

  -- the sums of one pair, as they are lent
  pub pairs_part : (s t : List W) (a n i : ℕ) → PairsFrom v s a n t → i < n
      → PairsFrom v s (a + i * 2) 1 (take (i * 256 + 256 - i * 256) (drop (i * 256) t))
  unfolding PairsFrom
  pairs_part s t a n i pairs inside c b hc hb =
      let e : 0 ≡ c = omega arith in
      let x : i * 256 + (c * 256 + b) ≡ i * 256 + b = omega arith in
      let p : a + i * 2 ≡ a + i * 2 + c * 2 = omega arith in
      subst (λ (j : ℕ). PairValue v (get_or s j v.zero) (get_or s (j + 1) v.zero) b (get_or (take (i * 256 + 256 - i * 256) (drop (i * 256) t)) (c * 256 + b) v.zero)) p
      (subst (PairValue v (get_or s (a + i * 2) v.zero) (get_or s (a + i * 2 + 1) v.zero) b)
      (sym (get_or-take (i * 256 + 256 - i * 256) (drop (i * 256) t) (c * 256 + b) v.zero (omega arith)
      ∙ get_or-drop (i * 256) t (c * 256 + b) v.zero
      ∙ ap (λ (j : ℕ). get_or t j v.zero) x))
      (pairs i b inside hb))
