-- The lanes that the code holds as 25 numbers, seen as the list of a state array, and which of them it holds turned over. Only private contracts cite these.
-- Assumes nothing.
use Rattle.std.specs.Prelude.{List, [], ◌∷◌, ℕ, zero, suc, set}
use Rattle.std.specs.Int.Bits.{bit_xor}
use Rattle.keccak.specs.declared.Lanes.{Lanes}
use Rattle.keccak.specs.Keccak.{lane, state, inverse}

-- the 25 lanes in the order of the state
unfoldable pub listed : Lanes → List ℕ
listed s =
    s.0 ∷ s.1 ∷ s.2 ∷ s.3 ∷ s.4 ∷
    s.5 ∷ s.6 ∷ s.7 ∷ s.8 ∷ s.9 ∷
    s.10 ∷ s.11 ∷ s.12 ∷ s.13 ∷ s.14 ∷
    s.15 ∷ s.16 ∷ s.17 ∷ s.18 ∷ s.19 ∷
    s.20 ∷ s.21 ∷ s.22 ∷ s.23 ∷ s.24 ∷ []

-- a state with k added to lane 0, as ι does with the round's constant
unfoldable pub keyed : List ℕ → ℕ → List ℕ
keyed A k = set A 0 (bit_xor (lane A 0 0) k)

-- a lane, turned over where the flag is not 0
unfoldable pub flip : ℕ → ℕ → ℕ
flip zero a = a
flip (suc f) a = inverse a

-- a state with those lanes turned over that a list of flags marks
unfoldable pub turned : List ℕ → List ℕ → List ℕ
turned F A = state (λ x y. flip (lane F x y) (lane A x y))

-- the lanes that are turned over between rounds: 1, 2, 8, 12, 17 and 20
unfoldable pub kept : List ℕ
kept =
    0 ∷ 1 ∷ 1 ∷ 0 ∷ 0 ∷
    0 ∷ 0 ∷ 0 ∷ 1 ∷ 0 ∷
    0 ∷ 0 ∷ 1 ∷ 0 ∷ 0 ∷
    0 ∷ 0 ∷ 1 ∷ 0 ∷ 0 ∷
    1 ∷ 0 ∷ 0 ∷ 0 ∷ 0 ∷ []

-- those that are so after θ
unfoldable pub mixed : List ℕ
mixed =
    1 ∷ 1 ∷ 1 ∷ 1 ∷ 0 ∷
    1 ∷ 0 ∷ 0 ∷ 0 ∷ 0 ∷
    1 ∷ 0 ∷ 1 ∷ 1 ∷ 0 ∷
    1 ∷ 0 ∷ 1 ∷ 1 ∷ 0 ∷
    0 ∷ 0 ∷ 0 ∷ 1 ∷ 0 ∷ []

-- those that are so after ρ and π
unfoldable pub moved : List ℕ
moved =
    1 ∷ 0 ∷ 1 ∷ 1 ∷ 0 ∷
    1 ∷ 0 ∷ 1 ∷ 0 ∷ 0 ∷
    1 ∷ 0 ∷ 1 ∷ 0 ∷ 0 ∷
    0 ∷ 1 ∷ 0 ∷ 1 ∷ 1 ∷
    1 ∷ 0 ∷ 0 ∷ 1 ∷ 0 ∷ []
