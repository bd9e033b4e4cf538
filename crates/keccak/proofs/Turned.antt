-- The steps of a round on a state of which some lanes are turned over: the same steps, with other lanes turned over after them.
-- `flips-..` follow one lane through each operation; the laws of the steps put 25 of them together. Assumes nothing.
use mathlib.Core.Path.{◌≡◌, refl, sym, ap, ap₂, ◌∙◌}
use mathlib.Core.List.{List, [], ◌∷◌}
use Prim.Native.Nat.{ℕ, zero, suc, ◌+◌, ◌*◌, ◌/◌, ◌%◌, ◌^◌, ◌<◌}
use native.Mathlib.Nat.{mod-lt, mod-mod, zero-lt-suc}
use native.Mathlib.Omega.{arith}
use lib.Dec.{lit<}
use lib.ListN.{get_or}
use lib.Pow.{pow_pos}
use mir.Syntax.{w64}
use mir.Val.{Fits}
use lib.Bits.{bit_xor, bit_and, bit_or, xor_lt}
use Rattle.memory.proofs.Lists.{get_or-table, table_same}
use Rattle.memory.proofs.Words.{Below, below_all, below-cons}
use Rattle.keccak.specs.Keccak.{lane, state, rotated, inverse, C, D, θ, offsets, ρ, π, χ}
use Rattle.keccak.specs.Lanes.{flip, turned, kept, mixed, moved}
use Rattle.keccak.proofs.Laws.{Words, rotated_word, state-table, lane_word}
use Rattle.keccak.proofs.Inverse.{inverse-inverse, inverse-xor, xor-inverse, inverses_xor, rotated-inverse, or_both, or_right_out, or_right_in, or-inverse, or-inverse_out, and_left, and_left_out, and-inverse_out}

-- ---- a lane of a state by its rule

state-same : (f g : ℕ → ℕ → ℕ) → ((x y : ℕ) → f x y ≡ g x y) → state f ≡ state g
state-same f g e = state-table f ∙ table_same 25 _ _ (λ i h. e (i % 5) (i / 5)) ∙ sym (state-table g)

lane-state : (f : ℕ → ℕ → ℕ) (x y : ℕ) → lane (state f) x y ≡ f (x % 5) (y % 5)
unfolding lane
lane-state f x y =
    let m = mod-lt x (zero-lt-suc 4) in
    let n = mod-lt y (zero-lt-suc 4) in
    ap (λ (l : List ℕ). get_or l (5 * (y % 5) + x % 5) 0) (state-table f)
    ∙ get_or-table 25 _ (5 * (y % 5) + x % 5) (omega arith)
    ∙ ap₂ f (let e : (5 * (y % 5) + x % 5) % 5 ≡ x % 5 = omega arith in e) (let e : (5 * (y % 5) + x % 5) / 5 ≡ y % 5 = omega arith in e)

lane-mod : (A : List ℕ) (x y : ℕ) → lane A (x % 5) (y % 5) ≡ lane A x y
unfolding lane
lane-mod A x y = ap₂ (λ (u v : ℕ). get_or A (5 * v + u) 0) (mod-mod x 5) (mod-mod y 5)

lane-turned : (F A : List ℕ) (x y : ℕ) → lane (turned F A) x y ≡ flip (lane F x y) (lane A x y)
unfolding turned
lane-turned F A x y = lane-state _ x y ∙ ap₂ flip (lane-mod F x y) (lane-mod A x y)

-- ---- one lane: v is the word a, turned over where the flag f is 1

record Flips (f a v : ℕ) : Type 0 where
  same : v ≡ flip f a
  flag : f < 2
  word : a < 2 ^ 64

flip-xor : (f g : ℕ) {a b : ℕ} → f < 2 → g < 2 → a < 2 ^ 64 → b < 2 ^ 64 → bit_xor (flip f a) (flip g b) ≡ flip (bit_xor f g) (bit_xor a b)
unfolding flip
flip-xor zero zero m n p q = refl
flip-xor zero (suc zero) m n p q = xor-inverse p q
flip-xor (suc zero) zero m n p q = inverse-xor p q
flip-xor (suc zero) (suc zero) m n p q = inverses_xor p q
flip-xor zero (suc (suc g)) m n p q = absurd (omega arith)
flip-xor (suc zero) (suc (suc g)) m n p q = absurd (omega arith)
flip-xor (suc (suc f)) g m n p q = absurd (omega arith)

flip-rotated : (f k : ℕ) {a : ℕ} → k < 64 → a < 2 ^ 64 → rotated (flip f a) k ≡ flip f (rotated a k)
unfolding flip
flip-rotated zero k h p = refl
flip-rotated (suc f) k h p = rotated-inverse k h p

flips_xor : {f g a b v w : ℕ} → Flips f a v → Flips g b w → Flips (bit_xor f g) (bit_xor a b) (bit_xor v w)
flips_xor {f} {g} s t =
    record {
      same = ap₂ bit_xor s.same t.same ∙ flip-xor f g s.flag t.flag s.word t.word;
      flag = xor_lt 1 _ _ s.flag t.flag;
      word = xor_lt 64 _ _ s.word t.word;
    }

flips_rotated : (k : ℕ) {f a v : ℕ} → k < 64 → Flips f a v → Flips f (rotated a k) (rotated v k)
flips_rotated k {f} {a} h s =
    record {
      same = ap (λ (n : ℕ). rotated n k) s.same ∙ flip-rotated f k h s.word;
      flag = s.flag;
      word = rotated_word a k s.word;
    }

flip-flip : (f : ℕ) {a : ℕ} → a < 2 ^ 64 → flip f (flip f a) ≡ a
unfolding flip
flip-flip zero h = refl
flip-flip (suc f) h = inverse-inverse h

-- lanes that are turned over twice are as they were
turned_twice : (F A : List ℕ) → Words A → turned F (turned F A) ≡ state (lane A)
unfolding turned
turned_twice F A h =
    state-same _ _ (λ x y. ap (flip (lane F x y)) (lane-turned F A x y) ∙ flip-flip (lane F x y) (lane_word A h x y))

-- ---- θ, ρ and π, for any flags

-- the flags after θ: each with the parities of two columns, as the lanes, and no rotation
θ-flags : List ℕ → List ℕ
θ-flags F = state (λ x y. bit_xor (lane F x y) (bit_xor (C F (x + 4)) (C F (x + 1))))

module _ (F A : List ℕ) (u : Below 1 F) (h : Words A) where
  lane_flag : (x y : ℕ) → lane F x y < 2
  unfolding lane
  lane_flag x y = u _

  lane_flips : (x y : ℕ) → Flips (lane F x y) (lane A x y) (lane (turned F A) x y)
  lane_flips x y = record { same = lane-turned F A x y; flag = lane_flag x y; word = lane_word A h x y }

  C-flips : (x : ℕ) → Flips (C F x) (C A x) (C (turned F A) x)
  unfolding C
  C-flips x =
      flips_xor (flips_xor (flips_xor (flips_xor (lane_flips x 0) (lane_flips x 1)) (lane_flips x 2)) (lane_flips x 3)) (lane_flips x 4)

  D-flips : (x : ℕ) → Flips (bit_xor (C F (x + 4)) (C F (x + 1))) (D A x) (D (turned F A) x)
  unfolding D
  D-flips x = flips_xor (C-flips (x + 4)) (flips_rotated 1 (lit< tt) (C-flips (x + 1)))

  θ-turned : θ (turned F A) ≡ turned (θ-flags F) (θ A)
  unfolding θ θ-flags turned state lane
  θ-turned = state-same _ _ (λ x y. (flips_xor (lane_flips x y) (D-flips x)).same)

  ρ-turned : ρ (turned F A) ≡ turned F (ρ A)
  unfolding ρ turned state lane
  ρ-turned = state-same _ _ (λ x y. (flips_rotated (lane offsets x y % 64) (mod-lt (lane offsets x y) (zero-lt-suc 63)) (lane_flips x y)).same)

π-turned : (F A : List ℕ) → π (turned F A) ≡ turned (π F) (π A)
unfolding π turned state lane
π-turned F A = state-same _ _ (λ x y. lane-turned F A (x + 3 * y) x)

-- ---- the steps with the flags of the code

-- that each number fits its type, as the checker says it of a struct's fields
abbrev pub Fitted : List ℕ → Type 0
Fitted [] = Unit
Fitted (a ∷ l) = Fits w64 a × Fitted l

pub fitted_words : (l : List ℕ) → Fitted l → Words l
fitted_words [] t = λ i. pow_pos 64
fitted_words (a ∷ l) t = below-cons 64 a l t.0.fits (fitted_words l t.1)

kept_flags : Below 1 kept
unfolding kept
kept_flags = below_all 1 kept tt

mixed_flags : Below 1 mixed
unfolding mixed
mixed_flags = below_all 1 mixed tt

pub kept_twice : (A : List ℕ) → Fitted A → turned kept (turned kept A) ≡ state (lane A)
kept_twice A s = turned_twice kept A (fitted_words A s)

mixed-kept : θ-flags kept ≡ mixed
unfolding θ-flags kept mixed state lane C
mixed-kept = refl

moved-mixed : π mixed ≡ moved
unfolding π mixed moved state lane
moved-mixed = refl

pub turned_θ : (A : List ℕ) → Fitted A → turned mixed (θ A) ≡ θ (turned kept A)
turned_θ A s = ap (λ (F : List ℕ). turned F (θ A)) (sym mixed-kept) ∙ sym (θ-turned kept A kept_flags (fitted_words A s))

pub turned_π_ρ : (A : List ℕ) → Fitted A → turned moved (π (ρ A)) ≡ π (ρ (turned mixed A))
turned_π_ρ A s =
    ap (λ (F : List ℕ). turned F (π (ρ A))) (sym moved-mixed) ∙ sym (π-turned mixed (ρ A))
    ∙ ap π (sym (ρ-turned mixed A mixed_flags (fitted_words A s)))

-- the lanes of χ as the code has them
unfoldable pub χ-second : List ℕ → List ℕ
χ-second A =
    bit_xor (get_or A 0 0) (bit_or (get_or A 1 0) (get_or A 2 0)) ∷
    bit_xor (get_or A 1 0) (bit_or (inverse (get_or A 2 0)) (get_or A 3 0)) ∷
    bit_xor (get_or A 2 0) (bit_and (get_or A 3 0) (get_or A 4 0)) ∷
    bit_xor (get_or A 3 0) (bit_or (get_or A 4 0) (get_or A 0 0)) ∷
    bit_xor (get_or A 4 0) (bit_and (get_or A 0 0) (get_or A 1 0)) ∷
    bit_xor (get_or A 5 0) (bit_or (get_or A 6 0) (get_or A 7 0)) ∷
    bit_xor (get_or A 6 0) (bit_and (get_or A 7 0) (get_or A 8 0)) ∷
    bit_xor (get_or A 7 0) (bit_or (get_or A 8 0) (inverse (get_or A 9 0))) ∷
    bit_xor (get_or A 8 0) (bit_or (get_or A 9 0) (get_or A 5 0)) ∷
    bit_xor (get_or A 9 0) (bit_and (get_or A 5 0) (get_or A 6 0)) ∷
    bit_xor (get_or A 10 0) (bit_or (get_or A 11 0) (get_or A 12 0)) ∷
    bit_xor (get_or A 11 0) (bit_and (get_or A 12 0) (get_or A 13 0)) ∷
    bit_xor (get_or A 12 0) (bit_and (inverse (get_or A 13 0)) (get_or A 14 0)) ∷
    bit_xor (inverse (get_or A 13 0)) (bit_or (get_or A 14 0) (get_or A 10 0)) ∷
    bit_xor (get_or A 14 0) (bit_and (get_or A 10 0) (get_or A 11 0)) ∷
    bit_xor (get_or A 15 0) (bit_and (get_or A 16 0) (get_or A 17 0)) ∷
    bit_xor (get_or A 16 0) (bit_or (get_or A 17 0) (get_or A 18 0)) ∷
    bit_xor (get_or A 17 0) (bit_or (inverse (get_or A 18 0)) (get_or A 19 0)) ∷
    bit_xor (inverse (get_or A 18 0)) (bit_and (get_or A 19 0) (get_or A 15 0)) ∷
    bit_xor (get_or A 19 0) (bit_or (get_or A 15 0) (get_or A 16 0)) ∷
    bit_xor (get_or A 20 0) (bit_and (inverse (get_or A 21 0)) (get_or A 22 0)) ∷
    bit_xor (inverse (get_or A 21 0)) (bit_or (get_or A 22 0) (get_or A 23 0)) ∷
    bit_xor (get_or A 22 0) (bit_and (get_or A 23 0) (get_or A 24 0)) ∷
    bit_xor (get_or A 23 0) (bit_or (get_or A 24 0) (get_or A 20 0)) ∷
    bit_xor (get_or A 24 0) (bit_and (get_or A 20 0) (get_or A 21 0)) ∷ []

pub cons : {a b : ℕ} {l m : List ℕ} → a ≡ b → l ≡ m → a ∷ l ≡ b ∷ m
cons p q = ap₂ (λ (a : ℕ) (l : List ℕ). a ∷ l) p q

pub turned_χ : (A : List ℕ) → Fitted A → turned kept (χ-second A) ≡ χ (turned moved A)
unfolding turned kept moved χ χ-second state lane flip
turned_χ A s =
    cons (or_both (g 0) (g 1) (g 2) (h 0) (h 1) (h 2)) (
    cons (or-inverse_out (g 1) (g 2) (g 3) (h 1) (h 2) (h 3)) (
    cons (and_left_out (g 2) (g 3) (g 4) (h 2) (h 3) (h 4)) (
    cons (or_both (g 3) (g 4) (g 0) (h 3) (h 4) (h 0)) (
    cons (and_left (g 4) (g 0) (g 1) (h 4) (h 0) (h 1) (g 4)) (
    cons (or_both (g 5) (g 6) (g 7) (h 5) (h 6) (h 7)) (
    cons (and_left (g 6) (g 7) (g 8) (h 6) (h 7) (h 8) (g 6)) (
    cons (or-inverse (g 7) (g 8) (g 9) (h 7) (h 8) (h 9)) (
    cons (or_right_out (g 8) (g 9) (g 5) (h 8) (h 9) (h 5)) (
    cons (and_left (g 9) (g 5) (g 6) (h 9) (h 5) (h 6) (g 9)) (
    cons (or_both (g 10) (g 11) (g 12) (h 10) (h 11) (h 12)) (
    cons (and_left (g 11) (g 12) (g 13) (h 11) (h 12) (h 13) (g 11)) (
    cons (and-inverse_out (g 12) (g 13) (g 14) (h 12) (h 13) (h 14)) (
    cons (or_right_in (g 13) (g 14) (g 10) (h 13) (h 14) (h 10)) (
    cons (and_left (g 14) (g 10) (g 11) (h 14) (h 10) (h 11) (g 14)) (
    cons (and_left (g 15) (g 16) (g 17) (h 15) (h 16) (h 17) (g 15)) (
    cons (or_both (g 16) (g 17) (g 18) (h 16) (h 17) (h 18)) (
    cons (or-inverse_out (g 17) (g 18) (g 19) (h 17) (h 18) (h 19)) (
    cons (and_left (g 18) (g 19) (g 15) (h 18) (h 19) (h 15) (inverse (g 18))) (
    cons (or_both (g 19) (g 15) (g 16) (h 19) (h 15) (h 16)) (
    cons (and-inverse_out (g 20) (g 21) (g 22) (h 20) (h 21) (h 22)) (
    cons (or_right_in (g 21) (g 22) (g 23) (h 21) (h 22) (h 23)) (
    cons (and_left (g 22) (g 23) (g 24) (h 22) (h 23) (h 24) (g 22)) (
    cons (or_both (g 23) (g 24) (g 20) (h 23) (h 24) (h 20)) (
    cons (and_left (g 24) (g 20) (g 21) (h 24) (h 20) (h 21) (g 24)) refl))))))))))))))))))))))))
  where
    g : ℕ → ℕ
    g i = get_or A i 0

    h : Words A
    h = fitted_words A s
