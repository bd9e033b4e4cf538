-- The constants of the rounds follow algorithms 5 and 6 of FIPS 202: one test over the whole table, which antt computes.
-- Assumes nothing.
use mathlib.Core.Path.{◌≡◌, refl, sym, ap, subst, ◌∙◌}
use mathlib.Core.List.{List, [], ◌∷◌}
use Prim.Native.Nat.{ℕ, ◌/◌, ◌^◌, ◌<◌}
use native.Mathlib.Omega.{arith}
use lib.ListN.{get_or}
use Rattle.memory.specs.Lists.{table}
use Rattle.memory.proofs.Lists.{get_or-table}
use Rattle.keccak.specs.Keccak.{fed, register, rc, RC}

-- the table of the code
abbrev pub constants : List ℕ
constants =
    1 ∷ 32898 ∷ 9223372036854808714 ∷ 9223372039002292224 ∷
    32907 ∷ 2147483649 ∷ 9223372039002292353 ∷ 9223372036854808585 ∷
    138 ∷ 136 ∷ 2147516425 ∷ 2147483658 ∷
    2147516555 ∷ 9223372036854775947 ∷ 9223372036854808713 ∷ 9223372036854808579 ∷
    9223372036854808578 ∷ 9223372036854775936 ∷ 32778 ∷ 9223372039002259466 ∷
    9223372039002292353 ∷ 9223372036854808704 ∷ 2147483649 ∷ 9223372039002292232 ∷ []

all_constants : constants ≡ table 24 RC
unfolding table fed register rc RC
all_constants = refl

pub constant_at : (i : ℕ) → i < 24 → get_or constants i 0 ≡ RC i
constant_at i h = ap (λ (l : List ℕ). get_or l i 0) all_constants ∙ get_or-table 24 RC i h

all_words : table 24 (λ i. get_or constants i 0 / 2 ^ 64) ≡ table 24 (λ i. 0)
unfolding table
all_words = refl

-- each constant is a word
pub constant_lt : (i : ℕ) → i < 24 → RC i < 2 ^ 64
constant_lt i h =
    let e : get_or constants i 0 / 2 ^ 64 ≡ 0 = sym (get_or-table 24 _ i h) ∙ ap (λ (l : List ℕ). get_or l i 0) all_words ∙ get_or-table 24 (λ i. 0) i h in
    subst (λ (v : ℕ). v < 2 ^ 64) (constant_at i h) (omega arith)
