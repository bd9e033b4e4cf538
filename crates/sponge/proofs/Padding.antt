-- The padding of specs/ in bits: the message's bits, then 1111, then pad10*1 of FIPS 202, section 5.1.
-- Assumes nothing.
use mathlib.Core.Path.{◌≡◌, refl, sym, ap, ◌∙◌}
use mathlib.Core.List.{List, [], ◌∷◌, ◌++◌, append_assoc}
use Prim.Native.Nat.{ℕ, zero, suc, ◌+◌, ◌-◌, ◌*◌, ◌%◌}
use native.Mathlib.Omega.{arith}
use lib.ListN.{length, replicate, replicate-append-replicate}
use Rattle.sponge.specs.Sponge.{rate, low_bits, bits, pad10*1, suffix, padded}

bits-append : (x y : List ℕ) → bits (x ++ y) ≡ bits x ++ bits y
unfolding bits
bits-append [] y = refl
bits-append (b ∷ x) y = ap (λ (r : List ℕ). low_bits 8 b ++ r) (bits-append x y) ∙ sym (append_assoc (low_bits 8 b) (bits x) (bits y))

bits_zeros : (n : ℕ) → bits (replicate n 0) ≡ replicate (8 * n) 0
unfolding bits low_bits
bits_zeros zero = refl
bits_zeros (suc n) =
    ap (λ (r : List ℕ). replicate 8 0 ++ r) (bits_zeros n)
    ∙ replicate-append-replicate 8 (8 * n) 0
    ∙ ap (λ (k : ℕ). replicate k 0) (let e : 8 + 8 * n ≡ 8 * suc n = omega arith in e)

-- n + 1 bytes hold 1111, 1, 8n + 2 zeros and 1
bits-suffix : (n : ℕ) → bits (suffix n) ≡ (1 ∷ 1 ∷ 1 ∷ 1 ∷ []) ++ (1 ∷ (replicate (8 * n + 2) 0 ++ (1 ∷ [])))
unfolding bits low_bits suffix
bits-suffix zero = refl
bits-suffix (suc n) =
    ap (λ (r : List ℕ). 1 ∷ 1 ∷ 1 ∷ 1 ∷ 1 ∷ (replicate 3 0 ++ r))
    (bits-append (replicate n 0) (0x80 ∷ []) ∙ ap (λ (r : List ℕ). r ++ bits (0x80 ∷ [])) (bits_zeros n)
    ∙ sym (append_assoc (replicate (8 * n) 0) (replicate 7 0) (1 ∷ []))
    ∙ ap (λ (r : List ℕ). r ++ (1 ∷ [])) (replicate-append-replicate (8 * n) 7 0))
    ∙ ap (λ (r : List ℕ). 1 ∷ 1 ∷ 1 ∷ 1 ∷ 1 ∷ (r ++ (1 ∷ [])))
    (replicate-append-replicate 3 (8 * n + 7) 0 ∙ ap (λ (k : ℕ). replicate k 0) (let e : 3 + (8 * n + 7) ≡ 8 * suc n + 2 = omega arith in e))

-- P of algorithm 8, step 1, for N = M || 1111 of 6.2
pub bits-padded : (M : List ℕ) → bits (padded M) ≡ bits M ++ ((1 ∷ 1 ∷ 1 ∷ 1 ∷ []) ++ pad10*1 (8 * rate) (8 * length M + 4))
unfolding padded pad10*1
bits-padded M =
    bits-append M (suffix (rate - 1 - length M % rate))
    ∙ ap (λ (r : List ℕ). bits M ++ r)
    (bits-suffix (rate - 1 - length M % rate)
    ∙ ap (λ (k : ℕ). (1 ∷ 1 ∷ 1 ∷ 1 ∷ []) ++ (1 ∷ (replicate k 0 ++ (1 ∷ [])))) (zeros (length M)))
  where
    zeros : (n : ℕ) → 8 * (rate - 1 - n % rate) + 2 ≡ (8 * rate - (8 * n + 4 + 2) % (8 * rate)) % (8 * rate)
    zeros n = omega arith
