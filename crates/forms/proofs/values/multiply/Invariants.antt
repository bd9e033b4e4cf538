-- `forms::values::multiply` meets its contract. The invariant: the first k elements are multiplied, and the others are as they were.
-- Assumes nothing.
use mathlib.Core.Path.{◌≡◌}
use mathlib.Core.List.{◌++◌}
use lib.ListN.{take, drop}
use Rattle.field.specs.Vectors.{◌⊙◌}
use Rattle.forms.proofs.values.multiply.Given as goal

abbrev pub invariant-loop-k : goal.invariant-loop-k
invariant-loop-k l = l.out ≡ take l.k (l.initial.out ⊙ l.y) ++ drop l.k l.initial.out
