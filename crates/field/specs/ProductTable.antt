-- What a table of all products of two elements is, for functions that hand one on or take one.
-- Assumes nothing.
use Rattle.std.specs.Prelude.{List, ◌≡◌, ℕ, ◌+◌, ◌*◌, ◌%◌, get_or}
use Rattle.field.specs.Field.{mul}

-- the product of a and b stands at 16 * a + b
pub record ProductTable (products : List ℕ) : Type 0 where
  pub entry : (a b : ℕ) → get_or products (a % 16 * 16 + b % 16) 0 ≡ mul a b
