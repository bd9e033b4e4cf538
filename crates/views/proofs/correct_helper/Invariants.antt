-- `views::correct_helper` meets its contract. The invariant: the first k entries are those of Δc, and the others are as they were.
-- Assumes nothing.
use mathlib.Core.Path.{◌≡◌}
use mathlib.Core.List.{◌++◌}
use lib.ListN.{length, take, drop}
use Rattle.field.specs.Packing.{unpack}
use Rattle.field.specs.Vectors.{◌⊕◌, ◌⊙◌}
use Rattle.views.proofs.correct_helper.Given as goal

abbrev pub invariant-loop-k : goal.invariant-loop-k
invariant-loop-k l =
    (l.dc ≡ take l.k (l.y ⊙ unpack (length l.y) (drop l.mask l.sums) ⊕ unpack (length l.y) (drop l.helper l.sums)) ++ drop l.k l.initial.dc)
