-- `forms::values::row_product` meets its contract. The invariant: the sum is that of the first i products.
-- Assumes nothing.
use mathlib.Core.Path.{◌≡◌}
use Prim.Native.Nat.{◌+◌, ◌*◌}
use Rattle.field.specs.Packing.{nib}
use Rattle.field.specs.Vectors.{◌!◌}
use Rattle.field.specs.Sums.{dot_of}
use Rattle.forms.proofs.values.row_product.Given as goal

abbrev pub invariant-loop-i : goal.invariant-loop-i
invariant-loop-i l = l.sum ≡ dot_of l.i (λ j. nib l.circuit (l.row * 2 + j)) (λ j. l.s ! j)
