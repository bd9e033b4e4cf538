-- What the proofs of the code's functions cite: lane 0 of ρ, two rounds as their steps, and a state as its lanes.
-- Assumes nothing.
use mathlib.Core.Path.{◌≡◌, refl, sym, ap, ap₂, ◌∙◌, subst}
use mathlib.Core.List.{List}
use Prim.Native.Nat.{ℕ, suc, ◌+◌, ◌-◌, ◌*◌, ◌/◌, ◌%◌, ◌^◌, ◌<◌, ◌≤◌}
use native.Mathlib.Nat.{add-zero, mul-mod_left, div-lt_iff_lt-mul, mod-eq_of_lt, mul-one, div-eq_of_lt}
use native.Mathlib.Omega.{arith}
use native.Mathlib.Numerals.{add-one}
use lib.ListN.{length, get_or}
use lib.Bits.{bit_xor, bit_or, bit_and, xor_zero_r, and_shifted, or_disjoint, xor_disjoint}
use lib.Pow.{pow_pos, pow-add, mod-pow-add}
use Rattle.memory.specs.Lists.{table}
use Rattle.memory.proofs.Lists.{table_of}
use Rattle.keccak.specs.Keccak.{rotated, θ, ρ, π, χ, ι, RC, Rnd, rounds, keccak_f, lane, state}
use Rattle.keccak.specs.Lanes.{keyed}
use Rattle.keccak.proofs.Constants.{constants, constant_at}

-- an offset of 0 leaves a lane as it is
pub rotated-zero : (a : ℕ) → a < 2 ^ 64 → rotated a 0 ≡ a
unfolding rotated
rotated-zero a h =
    ap₂ bit_xor (ap (λ (n : ℕ). n % 2 ^ 64) (mul-one a) ∙ mod-eq_of_lt h) (div-eq_of_lt h) ∙ xor_zero_r a

-- what the library joins by `or` has no bit twice, so that it is the exclusive or of the standard
pub rotated-left : (k : ℕ) {a r : ℕ} → k ≤ 64 → a < 2 ^ 64 → r ≡ bit_or (a * 2 ^ k % 2 ^ 64) (a / 2 ^ (64 - k)) → r ≡ rotated a k
unfolding rotated
rotated-left k {a} {r} h fits e =
    let whole : 64 ≡ 64 - k + k = omega arith in
    let all : 64 ≡ k + (64 - k) = omega arith in
    let q = a * 2 ^ k / 2 ^ k % 2 ^ (64 - k) in
    let high : a * 2 ^ k % 2 ^ 64 ≡ q * 2 ^ k =
    ap (λ (n : ℕ). a * 2 ^ k % 2 ^ n) whole ∙ mod-pow-add (a * 2 ^ k) (64 - k) k
    ∙ ap (λ (n : ℕ). q * 2 ^ k + n) (mul-mod_left a (2 ^ k)) ∙ add-zero (q * 2 ^ k) in
    let room : a < 2 ^ k * 2 ^ (64 - k) = subst (λ (n : ℕ). a < n) (ap (λ (n : ℕ). 2 ^ n) all ∙ pow-add 2 k (64 - k)) fits in
    let low : a / 2 ^ (64 - k) < 2 ^ k = (div-lt_iff_lt-mul (pow_pos (64 - k))).1 room in
    let none : bit_and (a * 2 ^ k % 2 ^ 64) (a / 2 ^ (64 - k)) ≡ 0 =
    ap (λ (n : ℕ). bit_and n (a / 2 ^ (64 - k))) high ∙ and_shifted q k (a / 2 ^ (64 - k)) low in
    e ∙ or_disjoint _ _ none ∙ sym (xor_disjoint _ _ none)

pub rounds-zero : (A : List ℕ) → rounds 0 A ≡ A
unfolding rounds
rounds-zero A = refl

-- a round is its four steps with the constant added
round_more : (n : ℕ) (A : List ℕ) → rounds (suc n) A ≡ keyed (χ (π (ρ (θ (rounds n A))))) (RC n)
unfolding rounds Rnd ι keyed
round_more n A = refl

pub rounds-keccak_f : (A : List ℕ) → rounds 24 A ≡ keccak_f A
unfolding keccak_f
rounds-keccak_f A = refl

-- two rounds more, with the constants that the code's table has
pub two_more : (A : List ℕ) (i : ℕ) {S R : List ℕ} → i < 12 → S ≡ rounds (2 * i) A
    → R ≡ keyed (χ (π (ρ (θ (keyed (χ (π (ρ (θ S)))) (get_or constants (2 * i) 0)))))) (get_or constants (2 * i + 1) 0)
    → R ≡ rounds (2 * (i + 1)) A
two_more A i {S} h s r =
    r
    ∙ ap₂ (λ (k l : ℕ). keyed (χ (π (ρ (θ (keyed (χ (π (ρ (θ S)))) k))))) l)
    (constant_at (2 * i) (omega arith))
    (constant_at (2 * i + 1) (omega arith) ∙ ap RC (add-one (2 * i)))
    ∙ ap (λ (B : List ℕ). keyed (χ (π (ρ (θ (keyed (χ (π (ρ (θ B)))) (RC (2 * i))))))) (RC (suc (2 * i)))) s
    ∙ ap (λ (B : List ℕ). keyed (χ (π (ρ (θ B)))) (RC (suc (2 * i)))) (sym (round_more (2 * i) A))
    ∙ sym (round_more (suc (2 * i)) A)
    ∙ ap (λ (n : ℕ). rounds n A) (let e : suc (suc (2 * i)) ≡ 2 * (i + 1) = omega arith in e)

-- a state is the list of its lanes
pub state_lanes : (A : List ℕ) → length A ≡ 25 → state (lane A) ≡ A
unfolding state lane table
state_lanes A h = sym (table_of A 25 (λ i. get_or A i 0) h (λ i k. refl))
