-- What lent bytes hold: a circuit packed as it is expanded, and the challenges and hidden parties of all repetitions.
-- Assumes nothing.
use Rattle.std.specs.Prelude.{List, [], ◌∷◌, ◌≡◌, ℕ, zero, suc, ◌+◌, ◌-◌, ◌*◌, ◌%◌, ◌^◌, get_or, drop}
use Rattle.field.specs.Packing.{packed_length, unpack}
use Rattle.forms.specs.Circuit.{Affine, Circuit, affine_length}

-- ---- the circuit

-- the bytes that hold a circuit: 3(⌈m/2⌉ + m⌈n/2⌉)
unfoldable pub circuit_length : ℕ → ℕ → ℕ
circuit_length n m = affine_length n m + affine_length n m + affine_length n m

-- m rows of n coefficients, one after another
unfoldable pub rows_in : ℕ → ℕ → List ℕ → List (List ℕ)
rows_in n zero bytes = []
rows_in n (suc m) bytes = unpack n bytes ∷ rows_in n m (drop (packed_length n) bytes)

-- one of the three tables: all m constants, then the m rows
unfoldable pub affine_in : ℕ → ℕ → List ℕ → Affine
affine_in n m bytes = record { constants = unpack m bytes; rows = rows_in n m (drop (packed_length m) bytes) }

-- the three tables in the order A1, A2, A0
unfoldable pub circuit_in : ℕ → ℕ → List ℕ → Circuit
circuit_in n m bytes = record {
  A1 = affine_in n m bytes;
  A2 = affine_in n m (drop (affine_length n m) bytes);
  A0 = affine_in n m (drop (affine_length n m + affine_length n m) bytes);
}

-- the bytes hold the circuit f of m equations in n variables
unfoldable pub HoldsCircuit : ℕ → ℕ → Circuit → List ℕ → Type 0
HoldsCircuit n m f bytes = circuit_in n m bytes ≡ f

-- ---- challenges and hidden parties

-- the challenge of repetition e, m elements for each repetition
unfoldable pub challenge_in : ℕ → List ℕ → ℕ → List ℕ
challenge_in m bytes e = unpack m (drop ((e - 1) * packed_length m) bytes)

-- the hidden party of repetition e of 2^l parties, a byte for each repetition
unfoldable pub hidden_in : ℕ → List ℕ → ℕ → ℕ
hidden_in l bytes e = get_or bytes (e - 1) 0 % 2 ^ l + 1
