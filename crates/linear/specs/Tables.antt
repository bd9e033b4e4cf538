-- Where a table of coefficients stands in the bytes of a circuit. Assumes nothing.
use Rattle.std.specs.Prelude.{List, ◌≡◌, ℕ, ◌+◌, drop}
use Rattle.field.specs.Packing.{packed_length}

-- `bytes` begins with the table whose constants stand at `start` in the bytes of a circuit of m equations in n variables
pub record TableAt (n m : ℕ) (circuit : List ℕ) (start : ℕ) (bytes : List ℕ) (width rows : ℕ) : Type 0 where
  pub wide : width ≡ packed_length n
  pub high : rows ≡ m
  pub place : bytes ≡ drop (start + packed_length m) circuit
