-- The sizes that the values of the forms at sixteen shares take: n words of shares, m words for each form, and the bytes of a circuit. Assumes nothing.
use Rattle.std.specs.Prelude.{◌≡◌, List, ℕ, ◌≤◌, length}
use Rattle.forms.specs.Room.{circuit_length}

pub record FormsFit (circuit shares x y z : List ℕ) : Type 0 where
  pub variables : length shares ≤ 118
  pub equations : length x ≤ 121
  pub second : length y ≡ length x
  pub third : length z ≡ length x
  pub whole : length circuit ≡ circuit_length (length shares) (length x)
