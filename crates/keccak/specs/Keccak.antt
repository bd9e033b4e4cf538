-- The permutation Keccak-f[1600] of FIPS 202, section 3: b = 1600, w = 64, l = 6, 24 rounds.
-- A state array is the list of its 25 lanes: Lane(x, y) of section 3.1.3 stands at place 5y + x, as 3.1.2 has it, and bit z of a lane is the bit of weight 2^z of its word.
-- Assumes nothing.
use Rattle.std.specs.Prelude.{List, [], ◌∷◌, ℕ, zero, suc, ◌+◌, ◌-◌, ◌*◌, ◌/◌, ◌%◌, ◌^◌, get_or, set}
use Rattle.std.specs.Int.Bits.{bit_xor, bit_and}

-- 3.1.3: Lane(x, y) of a state, both taken modulo 5
unfoldable pub lane : List ℕ → ℕ → ℕ → ℕ
lane A x y = get_or A (5 * (y % 5) + x % 5) 0

-- 3.1.2: the state whose Lane(x, y) is f x y
unfoldable pub state : (ℕ → ℕ → ℕ) → List ℕ
state f =
    f 0 0 ∷ f 1 0 ∷ f 2 0 ∷ f 3 0 ∷ f 4 0 ∷
    f 0 1 ∷ f 1 1 ∷ f 2 1 ∷ f 3 1 ∷ f 4 1 ∷
    f 0 2 ∷ f 1 2 ∷ f 2 2 ∷ f 3 2 ∷ f 4 2 ∷
    f 0 3 ∷ f 1 3 ∷ f 2 3 ∷ f 3 3 ∷ f 4 3 ∷
    f 0 4 ∷ f 1 4 ∷ f 2 4 ∷ f 3 4 ∷ f 4 4 ∷ []

-- for 3.2.1 and 3.2.2: the lane whose bit z is bit (z - k) mod w of a, for k from 0 to 63
unfoldable pub rotated : ℕ → ℕ → ℕ
rotated a k = bit_xor (a * 2 ^ k % 2 ^ 64) (a / 2 ^ (64 - k))

-- for 3.2.4: the lane with each bit turned over, xor 1
unfoldable pub inverse : ℕ → ℕ
inverse a = 2 ^ 64 - 1 - a

-- 3.2.1, step 1: the parity of each column
unfoldable pub C : List ℕ → ℕ → ℕ
C A x = bit_xor (bit_xor (bit_xor (bit_xor (lane A x 0) (lane A x 1)) (lane A x 2)) (lane A x 3)) (lane A x 4)

-- 3.2.1, step 2: D[x, z] = C[(x - 1) mod 5, z] xor C[(x + 1) mod 5, (z - 1) mod w]
unfoldable pub D : List ℕ → ℕ → ℕ
D A x = bit_xor (C A (x + 4)) (rotated (C A (x + 1)) 1)

-- 3.2.1, step 3
unfoldable pub θ : List ℕ → List ℕ
θ A = state (λ x y. bit_xor (lane A x y) (D A x))

-- 3.2.2, table 2: the offset of each lane, in the order of the state
unfoldable pub offsets : List ℕ
offsets =
    0 ∷ 1 ∷ 190 ∷ 28 ∷ 91 ∷
    36 ∷ 300 ∷ 6 ∷ 55 ∷ 276 ∷
    3 ∷ 10 ∷ 171 ∷ 153 ∷ 231 ∷
    105 ∷ 45 ∷ 15 ∷ 21 ∷ 136 ∷
    210 ∷ 66 ∷ 253 ∷ 120 ∷ 78 ∷ []

-- 3.2.2: A'[x, y, z] = A[x, y, (z - offset) mod w]. Walk.antt has the walk of steps 2 and 3, and the law `offsets_follow_the_walk` of proofs/ says that the table follows it
unfoldable pub ρ : List ℕ → List ℕ
ρ A = state (λ x y. rotated (lane A x y) (lane offsets x y % 64))

-- 3.2.3: A'[x, y] = A[(x + 3y) mod 5, x]
unfoldable pub π : List ℕ → List ℕ
π A = state (λ x y. lane A (x + 3 * y) x)

-- 3.2.4: A'[x, y] = A[x, y] xor ((A[(x + 1) mod 5, y] xor 1) and A[(x + 2) mod 5, y])
unfoldable pub χ : List ℕ → List ℕ
χ A = state (λ x y. bit_xor (lane A x y) (bit_and (inverse (lane A (x + 1) y)) (lane A (x + 2) y)))

-- 3.2.5, algorithm 5, steps 3b to 3f on the nine bits that step 3a leaves: bit 8 is fed into bits 0, 4, 5 and 6, and the first eight are kept
unfoldable pub fed : List ℕ → List ℕ
fed R =
    bit_xor (get_or R 0 0) (get_or R 8 0) ∷ get_or R 1 0 ∷ get_or R 2 0 ∷ get_or R 3 0 ∷
    bit_xor (get_or R 4 0) (get_or R 8 0) ∷ bit_xor (get_or R 5 0) (get_or R 8 0) ∷ bit_xor (get_or R 6 0) (get_or R 8 0) ∷ get_or R 7 0 ∷ []

-- 3.2.5, algorithm 5, steps 2 and 3: the register R after i turns; step 3a sets 0 before it
unfoldable pub register : ℕ → List ℕ
register zero = 1 ∷ 0 ∷ 0 ∷ 0 ∷ 0 ∷ 0 ∷ 0 ∷ 0 ∷ []
register (suc i) = fed (0 ∷ register i)

-- 3.2.5, algorithm 5: rc(t)
unfoldable pub rc : ℕ → ℕ
rc t = get_or (register (t % 255)) 0 0

-- 3.2.5, algorithm 6, steps 2 and 3: bit 2^j - 1 of RC is rc(j + 7 ir), for j from 0 to 6
unfoldable pub RC : ℕ → ℕ
RC ir =
    rc (7 * ir) * 2 ^ 0 + rc (1 + 7 * ir) * 2 ^ 1 + rc (2 + 7 * ir) * 2 ^ 3 + rc (3 + 7 * ir) * 2 ^ 7
    + rc (4 + 7 * ir) * 2 ^ 15 + rc (5 + 7 * ir) * 2 ^ 31 + rc (6 + 7 * ir) * 2 ^ 63

-- 3.2.5, algorithm 6, step 4
unfoldable pub ι : List ℕ → ℕ → List ℕ
ι A ir = set A 0 (bit_xor (lane A 0 0) (RC ir))

-- 3.3: one round
unfoldable pub Rnd : List ℕ → ℕ → List ℕ
Rnd A ir = ι (χ (π (ρ (θ A)))) ir

-- 3.3, algorithm 7: the first n rounds, with round indices from 12 + 2l - 24 = 0
unfoldable pub rounds : ℕ → List ℕ → List ℕ
rounds zero A = A
rounds (suc n) A = Rnd (rounds n A) n

-- 3.4: Keccak-f[1600] is Keccak-p[1600, 24]
unfoldable pub keccak_f : List ℕ → List ℕ
keccak_f A = rounds 24 A
