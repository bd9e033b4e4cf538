-- `single::masks::row` meets its contract. The invariant: the four sums, weighed and added up, are the product of the first w words of the row.
-- Assumes nothing.
use mathlib.Core.Path.{◌≡◌}
use Prim.Native.Nat.{ℕ, ◌+◌, ◌*◌}
use Rattle.field.specs.Packing.{nib}
use Rattle.field.specs.Sums.{dot_of}
use Rattle.single.specs.Masks.{MasksOf}
use Rattle.single.proofs.Weighing.{weighed}
use Rattle.single.proofs.masks.row.Given as goal

abbrev pub invariant-loop-w : goal.invariant-loop-w
invariant-loop-w l = (s : ℕ → ℕ) → MasksOf s 8 l.masks → weighed l.a l.b l.c l.d ≡ dot_of (16 * l.w) (λ j. nib l.bytes (l.at * 2 + j)) s
