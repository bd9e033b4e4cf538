-- The turn of sixteen words in four stages: one law serves every stage, and the four together take lane i of word j to lane j of word i.
-- Assumes nothing.
use mathlib.Core.Logic.{◌⊎◌, inl, inr, ⊎_elim}
use mathlib.Core.Path.{◌≡◌, refl, sym, ap, ap₂, ◌∙◌}
use mathlib.Core.Bool.{cond}
use mathlib.Core.List.{List}
use Prim.Native.Nat.{ℕ, ◌+◌, ◌-◌, ◌*◌, ◌/◌, ◌%◌, ◌^◌, ◌≤◌, ◌<◌}
use native.Mathlib.Nat.{mod-lt, mod-eq_of_lt}
use native.Mathlib.Decide.{dec_lt}
use native.Mathlib.Omega.{arith}
use lib.Bits.{bit_xor, bit_and, xor_zero_r, xor_comm, xor_lt, and_zero_r, and_mask}
use lib.Dec.{T, eqb, ltb, leb, ltb→lt, leb→le, lit<}
use lib.ListN.{length, get_or, set, length-set}
use lib.Seq.{get_or-set_same, get_or-set_other}
use Rattle.memory.proofs.Bits.{one_bit, two_bits, xor_cancel}
use Rattle.memory.proofs.Every.{every, every2, every_at, every2_at, same1, same2}
use Rattle.lanes.specs.Lanes.{lane}
use Rattle.lanes.proofs.Laws.{lane-lt, lane_xor, lane_and, lane-shl, lane-shl_low, lane-shr}
use Rattle.turning.specs.Turns.{Transposed}
use Rattle.turning.specs.Stages.{mix, Mixed, Stage, first, pair}

-- where two words d apart differ, in the lanes that change places
abbrev pub differing : (d m u w : ℕ) → ℕ
differing d m u w = bit_and (bit_xor (u / 2 ^ (4 * d)) w) m

-- the word j after the stage: the first of two words d apart, or the second
abbrev pub mixed_word : (d m : ℕ) → List ℕ → ℕ → ℕ
mixed_word d m a j =
    cond (eqb (j / d % 2) 0) (bit_xor (get_or a j 0) (differing d m (get_or a j 0) (get_or a (j + d) 0) * 2 ^ (4 * d) % 2 ^ 64))
    (bit_xor (get_or a j 0) (differing d m (get_or a (j - d) 0) (get_or a j 0)))

and_ones : (v : ℕ) → v < 16 → bit_and v 15 ≡ v
and_ones v h = and_mask v 4 ∙ mod-eq_of_lt h

-- a shift to the left of a masked word is masked by the shifted mask
lane-shl-and : (i v m d : ℕ) → i < 16 → lane i (bit_and v m * 2 ^ (4 * d) % 2 ^ 64) ≡ bit_and (lane i (v * 2 ^ (4 * d) % 2 ^ 64)) (lane i (m * 2 ^ (4 * d) % 2 ^ 64))
lane-shl-and i v m d h =
    elim (dec_lt i d) as (λ x. lane i (bit_and v m * 2 ^ (4 * d) % 2 ^ 64) ≡ bit_and (lane i (v * 2 ^ (4 * d) % 2 ^ 64)) (lane i (m * 2 ^ (4 * d) % 2 ^ 64))) [
      | yes y ↦ lane-shl_low i (bit_and v m) d h y ∙ sym (ap₂ bit_and (lane-shl_low i v d h y) (lane-shl_low i m d h y))
      | no y ↦ (let le : d ≤ i = omega arith in
          lane-shl i (bit_and v m) d h le ∙ lane_and (i - d) v m ∙ sym (ap₂ bit_and (lane-shl i v d h le) (lane-shl i m d h le)))
    ]

module _ (d m i u w : ℕ) (hi : i < 16) where
  -- the first of two words: its own lane, or the second's d lower
  first-kept : lane i (m * 2 ^ (4 * d) % 2 ^ 64) ≡ 0 → lane i (bit_xor u (differing d m u w * 2 ^ (4 * d) % 2 ^ 64)) ≡ lane i u
  first-kept e =
      lane_xor i u (differing d m u w * 2 ^ (4 * d) % 2 ^ 64)
      ∙ ap (bit_xor (lane i u)) (lane-shl-and i (bit_xor (u / 2 ^ (4 * d)) w) m d hi ∙ ap (bit_and (lane i (bit_xor (u / 2 ^ (4 * d)) w * 2 ^ (4 * d) % 2 ^ 64))) e ∙ and_zero_r (lane i (bit_xor (u / 2 ^ (4 * d)) w * 2 ^ (4 * d) % 2 ^ 64)))
      ∙ xor_zero_r (lane i u)

  first-moved : d ≤ i → lane i (m * 2 ^ (4 * d) % 2 ^ 64) ≡ 15 → lane i (bit_xor u (differing d m u w * 2 ^ (4 * d) % 2 ^ 64)) ≡ lane (i - d) w
  first-moved le e =
      let g : d + (i - d) ≡ i = omega arith in
      lane_xor i u (differing d m u w * 2 ^ (4 * d) % 2 ^ 64)
      ∙ ap (bit_xor (lane i u)) (lane-shl-and i (bit_xor (u / 2 ^ (4 * d)) w) m d hi
      ∙ ap (bit_and (lane i (bit_xor (u / 2 ^ (4 * d)) w * 2 ^ (4 * d) % 2 ^ 64))) e
      ∙ and_ones (lane i (bit_xor (u / 2 ^ (4 * d)) w * 2 ^ (4 * d) % 2 ^ 64)) (lane-lt i (bit_xor (u / 2 ^ (4 * d)) w * 2 ^ (4 * d) % 2 ^ 64))
      ∙ lane-shl i (bit_xor (u / 2 ^ (4 * d)) w) d hi le
      ∙ lane_xor (i - d) (u / 2 ^ (4 * d)) w
      ∙ ap (λ (x : ℕ). bit_xor x (lane (i - d) w)) (lane-shr (i - d) u d ∙ ap (λ (x : ℕ). lane x u) g))
      ∙ xor_cancel (lane i u) (lane (i - d) w)

  -- the second: the first's lane d higher, or its own
  differing_lane : lane i (differing d m u w) ≡ bit_and (bit_xor (lane (d + i) u) (lane i w)) (lane i m)
  differing_lane =
      lane_and i (bit_xor (u / 2 ^ (4 * d)) w) m
      ∙ ap (λ (x : ℕ). bit_and x (lane i m)) (lane_xor i (u / 2 ^ (4 * d)) w ∙ ap (λ (x : ℕ). bit_xor x (lane i w)) (lane-shr i u d))

  second-moved : lane i m ≡ 15 → lane i (bit_xor w (differing d m u w)) ≡ lane (d + i) u
  second-moved e =
      lane_xor i w (differing d m u w)
      ∙ ap (bit_xor (lane i w)) (differing_lane ∙ ap (bit_and (bit_xor (lane (d + i) u) (lane i w))) e
      ∙ and_ones (bit_xor (lane (d + i) u) (lane i w)) (xor_lt 4 (lane (d + i) u) (lane i w) (lane-lt (d + i) u) (lane-lt i w))
      ∙ xor_comm (lane (d + i) u) (lane i w))
      ∙ xor_cancel (lane i w) (lane (d + i) u)

  second-kept : lane i m ≡ 0 → lane i (bit_xor w (differing d m u w)) ≡ lane i w
  second-kept e =
      lane_xor i w (differing d m u w)
      ∙ ap (bit_xor (lane i w)) (differing_lane ∙ ap (bit_and (bit_xor (lane (d + i) u) (lane i w))) e ∙ and_zero_r (bit_xor (lane (d + i) u) (lane i w)))
      ∙ xor_zero_r (lane i w)

module _ (a : List ℕ) (d m i j : ℕ) (hi : i < 16) where
  -- p is the bit d of j and t that of i
  abbrev Case : ℕ → ℕ → Type 0
  Case p t =
      lane i m ≡ 15 * (1 - t) → lane i (m * 2 ^ (4 * d) % 2 ^ 64) ≡ 15 * t → t * d ≤ i → p * d ≤ j
      → lane i (cond (eqb p 0) (bit_xor (get_or a j 0) (differing d m (get_or a j 0) (get_or a (j + d) 0) * 2 ^ (4 * d) % 2 ^ 64))
      (bit_xor (get_or a j 0) (differing d m (get_or a (j - d) 0) (get_or a j 0))))
      ≡ lane (i - t * d + p * d) (get_or a (j - p * d + t * d) 0)

  -- the same entry, by equal places
  at : (p q p' q' : ℕ) → p ≡ p' → q ≡ q' → lane p (get_or a q 0) ≡ lane p' (get_or a q' 0)
  at p q p' q' e f = ap₂ (λ (x y : ℕ). lane x (get_or a y 0)) e f

  kept-kept : Case 0 0
  kept-kept e f g h =
      first-kept d m i (get_or a j 0) (get_or a (j + d) 0) hi f ∙ at i j (i - 0 * d + 0 * d) (j - 0 * d + 0 * d) (omega arith) (omega arith)

  kept-moved : Case 0 1
  kept-moved e f g h =
      first-moved d m i (get_or a j 0) (get_or a (j + d) 0) hi (omega arith) f
      ∙ at (i - d) (j + d) (i - 1 * d + 0 * d) (j - 0 * d + 1 * d) (omega arith) (omega arith)

  moved-kept : Case 1 0
  moved-kept e f g h =
      second-moved d m i (get_or a (j - d) 0) (get_or a j 0) hi e
      ∙ at (d + i) (j - d) (i - 0 * d + 1 * d) (j - 1 * d + 0 * d) (omega arith) (omega arith)

  moved-moved : Case 1 1
  moved-moved e f g h =
      second-kept d m i (get_or a (j - d) 0) (get_or a j 0) hi e
      ∙ at i j (i - 1 * d + 1 * d) (j - 1 * d + 1 * d) (omega arith) (omega arith)

  mixed-lane : (j < 16) → Stage d m → lane i (mixed_word d m a j) ≡ lane (mix d i j) (get_or a (mix d j i) 0)
  unfolding mix
  mixed-lane hj f =
      two_bits Case kept-kept kept-moved moved-kept moved-moved (j / d % 2) (i / d % 2) (mod-lt (j / d) (lit< tt)) (mod-lt (i / d) (lit< tt))
      (f.even i hi) (f.odd i hi) (f.room i hi) (f.room j hj)

-- sixteen words by that rule are the stage
pub stage_mixed : (d m : ℕ) → Stage d m → (a b : List ℕ) → ((j : ℕ) → j < 16 → get_or b j 0 ≡ mixed_word d m a j) → Mixed d a b
unfolding Mixed
stage_mixed d m f a b e i j hi hj = ap (lane i) (e j hj) ∙ mixed-lane a d m i j hi hj f

-- the words of the pairs below p are those after the stage
abbrev pub MixedTo : (d m : ℕ) → ℕ → List ℕ → List ℕ → Type 0
MixedTo d m p a y = (k : ℕ) → k < 16 → pair d k < p → get_or y k 0 ≡ mixed_word d m a k

-- a word is the first or the second of its pair
of_pair : (d m k p : ℕ) → Stage d m → k < 16 → pair d k ≡ p → (k ≡ first d p) ⊎ (k ≡ first d p + d)
of_pair d m k p f h e = by (k / d % 2) (mod-lt (k / d) (lit< tt)) ((f.paired k h).1 ∙ ap (λ (q : ℕ). first d q + k / d % 2 * d) e)
  where
    by : (b : ℕ) → b < 2 → k ≡ first d p + b * d → (k ≡ first d p) ⊎ (k ≡ first d p + d)
    by b l g = one_bit (λ (b : ℕ). k ≡ first d p + b * d → (k ≡ first d p) ⊎ (k ≡ first d p + d)) (λ g. inl (omega arith)) (λ g. inr (omega arith)) b l g

-- one pair more
module _ (d m p : ℕ) (a y : List ℕ) (f : Stage d m) (h : p < 8) (n : length y ≡ 16) (done : MixedTo d m p a y) where
  abbrev moved : ℕ
  moved = differing d m (get_or a (first d p) 0) (get_or a (first d p + d) 0)

  abbrev pub lower : ℕ
  lower = bit_xor (get_or a (first d p) 0) (moved * 2 ^ (4 * d) % 2 ^ 64)

  abbrev pub upper : ℕ
  upper = bit_xor (get_or a (first d p + d) 0) moved

  abbrev pub both-set : List ℕ
  both-set = set (set y (first d p) lower) (first d p + d) upper

  lower-mixed : lower ≡ mixed_word d m a (first d p)
  lower-mixed = rw (f.bits p h).0 refl

  upper-mixed : upper ≡ mixed_word d m a (first d p + d)
  upper-mixed =
      let e : first d p + d - d ≡ first d p = omega arith in
      rw ((f.bits p h).1, e) refl

  pub pair_more : MixedTo d m (p + 1) a both-set
  pair_more k hk less =
      elim (dec_lt (pair d k) p) as (λ t. get_or both-set k 0 ≡ mixed_word d m a k) [
        | yes l ↦
            get_or-set_other (set y (first d p) lower) (first d p + d) k upper 0 (λ g. not_in l (ap (pair d) g ∙ (f.pairs p h).1))
            ∙ get_or-set_other y (first d p) k lower 0 (λ g. not_in l (ap (pair d) g ∙ (f.pairs p h).0)) ∙ done k hk l
        | no l ↦ ⊎_elim at_first at_second (of_pair d m k p f hk (omega arith))
      ]
    where
      not_in : {q : ℕ} → q < p → q ≡ p → ⊥
      not_in l e = omega arith

      inside : first d p + d < 16
      inside = f.second p h

      at_first : k ≡ first d p → get_or both-set k 0 ≡ mixed_word d m a k
      at_first e =
          let z = f.positive in
          get_or-set_other (set y (first d p) lower) (first d p + d) k upper 0 (λ g. omega arith)
          ∙ ap (λ (i : ℕ). get_or (set y (first d p) lower) i 0) e
          ∙ get_or-set_same y (first d p) lower 0 (omega arith) ∙ lower-mixed ∙ ap (mixed_word d m a) (sym e)

      at_second : k ≡ first d p + d → get_or both-set k 0 ≡ mixed_word d m a k
      at_second e =
          ap (λ (i : ℕ). get_or both-set i 0) e
          ∙ get_or-set_same (set y (first d p) lower) (first d p + d) upper 0 (simp length-set (omega arith))
          ∙ upper-mixed ∙ ap (mixed_word d m a) (sym e)

-- all pairs are the stage
pub pairs_all : (d m : ℕ) (a y : List ℕ) → Stage d m → MixedTo d m 8 a y → Mixed d a y
pairs_all d m a y f done = stage_mixed d m f a y (λ k h. done k h (f.paired k h).0)

-- a stage, by computed tests
stage_of : (d m : ℕ) → 0 < d → T (every 16 (λ i. eqb (lane i m) (15 * (1 - i / d % 2)))) → T (every 16 (λ i. eqb (lane i (m * 2 ^ (4 * d) % 2 ^ 64)) (15 * (i / d % 2))))
    → T (every 16 (λ i. leb (i / d % 2 * d) i)) → T (every2 16 (λ i j. ltb (mix d i j) 16))
    → T (every 8 (λ p. ltb (first d p + d) 16)) → T (every 16 (λ k. ltb (pair d k) 8)) → T (every 16 (λ k. eqb k (first d (pair d k) + k / d % 2 * d)))
    → T (every 8 (λ p. eqb (pair d (first d p)) p)) → T (every 8 (λ p. eqb (pair d (first d p + d)) p))
    → T (every 8 (λ p. eqb (first d p / d % 2) 0)) → T (every 8 (λ p. eqb ((first d p + d) / d % 2) 1)) → Stage d m
stage_of d m z a b c e r s t u v w x = record {
  positive = z;
  even = same1 16 (λ i. lane i m) (λ i. 15 * (1 - i / d % 2)) a;
  odd = same1 16 (λ i. lane i (m * 2 ^ (4 * d) % 2 ^ 64)) (λ i. 15 * (i / d % 2)) b;
  room = λ i h. leb→le (i / d % 2 * d) i (every_at 16 (λ i. leb (i / d % 2 * d) i) c i h);
  small = λ i j hi hj. ltb→lt (mix d i j) 16 (every2_at 16 (λ i j. ltb (mix d i j) 16) e i j hi hj);
  second = λ p h. ltb→lt (first d p + d) 16 (every_at 8 (λ p. ltb (first d p + d) 16) r p h);
  paired = λ k h. (ltb→lt (pair d k) 8 (every_at 16 (λ k. ltb (pair d k) 8) s k h), same1 16 (λ k. k) (λ k. first d (pair d k) + k / d % 2 * d) t k h);
  pairs = λ p h. (same1 8 (λ p. pair d (first d p)) (λ p. p) u p h, same1 8 (λ p. pair d (first d p + d)) (λ p. p) v p h);
  bits = λ p h. (same1 8 (λ p. first d p / d % 2) (λ p. 0) w p h, same1 8 (λ p. (first d p + d) / d % 2) (λ p. 1) x p h);
}

pub stage8 : Stage 8 0x00000000ffffffff
unfolding lane mix
stage8 = stage_of 8 0x00000000ffffffff (lit< tt) tt tt tt tt tt tt tt tt tt tt tt

pub stage4 : Stage 4 0x0000ffff0000ffff
unfolding lane mix
stage4 = stage_of 4 0x0000ffff0000ffff (lit< tt) tt tt tt tt tt tt tt tt tt tt tt

pub stage2 : Stage 2 0x00ff00ff00ff00ff
unfolding lane mix
stage2 = stage_of 2 0x00ff00ff00ff00ff (lit< tt) tt tt tt tt tt tt tt tt tt tt tt

pub stage1 : Stage 1 0x0f0f0f0f0f0f0f0f
unfolding lane mix
stage1 = stage_of 1 0x0f0f0f0f0f0f0f0f (lit< tt) tt tt tt tt tt tt tt tt tt tt tt

-- ---- the four stages together

-- the lane that ends at lane i of word j comes from lane j
all_mixed : (i j : ℕ) → i < 16 → j < 16
    → mix 8 (mix 4 (mix 2 (mix 1 i j) (mix 1 j i)) (mix 2 (mix 1 j i) (mix 1 i j))) (mix 4 (mix 2 (mix 1 j i) (mix 1 i j)) (mix 2 (mix 1 i j) (mix 1 j i))) ≡ j
unfolding mix
all_mixed = same2 16 (λ i j. mix 8 (mix 4 (mix 2 (mix 1 i j) (mix 1 j i)) (mix 2 (mix 1 j i) (mix 1 i j))) (mix 4 (mix 2 (mix 1 j i) (mix 1 i j)) (mix 2 (mix 1 i j) (mix 1 j i)))) (λ i j. j) tt

pub four_stages : (x a b c y : List ℕ) → Mixed 8 x a → Mixed 4 a b → Mixed 2 b c → Mixed 1 c y → Transposed x y
unfolding Mixed Transposed
four_stages x a b c y m8 m4 m2 m1 i j hi hj =
    let i1 = mix 1 i j in let j1 = mix 1 j i in
    let p1 = stage1.small i j hi hj in let q1 = stage1.small j i hj hi in
    let i2 = mix 2 i1 j1 in let j2 = mix 2 j1 i1 in
    let p2 = stage2.small i1 j1 p1 q1 in let q2 = stage2.small j1 i1 q1 p1 in
    let i4 = mix 4 i2 j2 in let j4 = mix 4 j2 i2 in
    let p4 = stage4.small i2 j2 p2 q2 in let q4 = stage4.small j2 i2 q2 p2 in
    m1 i j hi hj ∙ m2 i1 j1 p1 q1 ∙ m4 i2 j2 p2 q2 ∙ m8 i4 j4 p4 q4
    ∙ ap₂ (λ (p q : ℕ). lane p (get_or x q 0)) (all_mixed i j hi hj) (all_mixed j i hj hi)
