-- Laws of the permutation that other crates cite: its result has 25 lanes, and they are words where those of the state are.
-- Assumes nothing.
use mathlib.Core.Path.{◌≡◌, refl, sym, subst}
use mathlib.Core.List.{List}
use Prim.Native.Nat.{ℕ, zero, suc, ◌+◌, ◌*◌, ◌-◌, ◌/◌, ◌%◌, ◌^◌, ◌≤◌, ◌<◌}
use native.Mathlib.Nat.{mod-lt, div-le_self, lt_of_le_of_lt}
use native.Mathlib.Omega.{arith}
use lib.ListN.{length}
use lib.Pow.{pow_pos}
use lib.Bits.{xor_lt, and_lt}
use Rattle.memory.specs.Lists.{table}
use Rattle.memory.proofs.Words.{Below, table_below, set_below}
use Rattle.keccak.specs.Keccak.{lane, state, rotated, inverse, C, D, θ, offsets, ρ, π, χ, ι, Rnd, rounds, keccak_f}
use Rattle.keccak.proofs.Constants.{constant_lt}

length-Rnd : (A : List ℕ) (i : ℕ) → length (Rnd A i) ≡ 25
unfolding Rnd ι χ state
length-Rnd A i = refl

pub length-keccak_f : (a : List ℕ) → length (keccak_f a) ≡ 25
unfolding keccak_f rounds
length-keccak_f a = length-Rnd (rounds 23 a) 23

-- every lane is a word
abbrev pub Words : List ℕ → Type 0
Words A = Below 64 A

pub state-table : (f : ℕ → ℕ → ℕ) → state f ≡ table 25 (λ i. f (i % 5) (i / 5))
unfolding state table
state-table f = refl

pub state_words : (f : ℕ → ℕ → ℕ) → ((x y : ℕ) → f x y < 2 ^ 64) → Words (state f)
state_words f h = subst Words (sym (state-table f)) (table_below 64 25 _ (λ i k. h (i % 5) (i / 5)))

module _ (A : List ℕ) (h : Words A) where
  pub lane_word : (x y : ℕ) → lane A x y < 2 ^ 64
  unfolding lane
  lane_word x y = h _

  pub C-word : (x : ℕ) → C A x < 2 ^ 64
  unfolding C
  C-word x =
      xor_lt 64 _ _ (xor_lt 64 _ _ (xor_lt 64 _ _ (xor_lt 64 _ _ (lane_word x 0) (lane_word x 1)) (lane_word x 2)) (lane_word x 3)) (lane_word x 4)

pub rotated_word : (a k : ℕ) → a < 2 ^ 64 → rotated a k < 2 ^ 64
unfolding rotated
rotated_word a k h = xor_lt 64 _ _ (mod-lt (a * 2 ^ k) (pow_pos 64)) (lt_of_le_of_lt (div-le_self a (2 ^ (64 - k))) h)

pub inverse_word : (a : ℕ) → inverse a < 2 ^ 64
unfolding inverse
inverse_word a = omega arith

module _ (A : List ℕ) (h : Words A) where
  pub θ-words : Words (θ A)
  unfolding θ D
  θ-words = state_words _ (λ x y. xor_lt 64 _ _ (lane_word A h x y) (xor_lt 64 _ _ (C-word A h (x + 4)) (rotated_word _ 1 (C-word A h (x + 1)))))

  pub ρ-words : Words (ρ A)
  unfolding ρ
  ρ-words = state_words _ (λ x y. rotated_word _ (lane offsets x y % 64) (lane_word A h x y))

  pub π-words : Words (π A)
  unfolding π
  π-words = state_words _ (λ x y. lane_word A h (x + 3 * y) x)

  pub χ-words : Words (χ A)
  unfolding χ
  χ-words = state_words _ (λ x y. xor_lt 64 _ _ (lane_word A h x y) (and_lt 64 _ _ (inverse_word (lane A (x + 1) y)) (lane_word A h (x + 2) y)))

  ι-words : (i : ℕ) → i < 24 → Words (ι A i)
  unfolding ι
  ι-words i k = set_below 64 A 0 _ (xor_lt 64 _ _ (lane_word A h 0 0) (constant_lt i k)) h

Rnd-words : (A : List ℕ) → Words A → (i : ℕ) → i < 24 → Words (Rnd A i)
unfolding Rnd
Rnd-words A h = ι-words _ (χ-words _ (π-words _ (ρ-words _ (θ-words A h))))

rounds_words : (n : ℕ) → n ≤ 24 → (A : List ℕ) → Words A → Words (rounds n A)
unfolding rounds
rounds_words zero k A h = h
rounds_words (suc n) k A h = Rnd-words (rounds n A) (rounds_words n (omega arith) A h) n (omega arith)

pub lanes_fit : (a : List ℕ) → Words a → Words (keccak_f a)
unfolding keccak_f
lanes_fit a h = rounds_words 24 (omega arith) a h
