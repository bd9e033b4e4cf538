-- `views::add` meets its contract. The invariant: the first i bytes are those of the sum, and the others are as they were.
-- Assumes nothing.
use mathlib.Core.Path.{◌≡◌}
use mathlib.Core.List.{◌++◌}
use lib.ListN.{take, drop}
use Rattle.field.specs.Vectors.{◌⊕◌}
use Rattle.views.proofs.add.Given as goal

abbrev pub invariant-loop-i : goal.invariant-loop-i
invariant-loop-i l =
    (l.sums ≡ take l.i (l.initial.sums ⊕ l.more) ++ drop l.i l.initial.sums)
