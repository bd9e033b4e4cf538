-- `forms::values::add_affine` meets its contract. The invariant: the first k elements have their form added, and the others are as they were.
-- Assumes nothing.
use mathlib.Core.Path.{◌≡◌}
use mathlib.Core.List.{◌++◌}
use lib.ListN.{length, take, drop}
use Rattle.field.specs.Vectors.{◌⊕◌}
use Rattle.forms.specs.Circuit.{affine}
use Rattle.forms.specs.Room.{affine_in}
use Rattle.forms.proofs.values.add_affine.Given as goal

abbrev pub invariant-loop-k : goal.invariant-loop-k
invariant-loop-k l =
    l.out ≡ take l.k (l.initial.out ⊕ affine (affine_in (length l.s) (length l.initial.out) (drop l.start l.circuit)) l.s) ++ drop l.k l.initial.out
