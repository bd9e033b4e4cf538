-- `field::unpack_into` meets its contract. The invariant: the first i entries of `out` are the elements that the bytes hold, and the others are as they were.
-- Assumes nothing.
use mathlib.Core.Path.{◌≡◌}
use mathlib.Core.List.{◌++◌}
use lib.ListN.{length, take, drop}
use Rattle.field.specs.Packing.{unpack}
use Rattle.field.proofs.unpack_into.Given as goal

abbrev pub invariant-loop-i : goal.invariant-loop-i
invariant-loop-i l = l.out ≡ take l.i (unpack (length l.initial.out) l.bytes) ++ drop l.i l.initial.out
