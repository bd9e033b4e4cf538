-- `marks::fold_into` meets its contract. The invariant: the bytes below k are the sums of the lanes, and the others are as they were.
-- Assumes nothing.
use mathlib.Core.Path.{◌≡◌}
use Rattle.field.specs.Vectors.{◌!◌}
use Rattle.memory.proofs.Groups.{Stepped}
use Rattle.marks.specs.Marks.{lane_sum}
use Rattle.marks.proofs.fold_into.Given as goal

abbrev pub invariant-loop-k : goal.invariant-loop-k
invariant-loop-k l = Stepped (λ j x y. y ≡ lane_sum (l.words ! j)) l.k l.initial.out l.out
