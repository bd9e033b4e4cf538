-- `single::masks::each` meets its contract. The invariant: the masks of the first w words are written.
-- Assumes nothing.
use Rattle.field.specs.Packing.{nib}
use Rattle.single.specs.Masks.{MasksOf}
use Rattle.single.proofs.masks.each.Given as goal

abbrev pub invariant-loop-w : goal.invariant-loop-w
invariant-loop-w l = MasksOf (nib l.packed) l.w l.masks
