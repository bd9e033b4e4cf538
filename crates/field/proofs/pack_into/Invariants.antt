-- `field::pack_into` meets its contract. The invariant: the first i bytes of `out` are those of the packing, and the others are as they were.
-- Assumes nothing.
use mathlib.Core.Path.{◌≡◌}
use mathlib.Core.List.{◌++◌}
use Prim.Native.Nat.{min}
use lib.ListN.{length, take, drop}
use Rattle.field.specs.Packing.{pack, packed_length}
use Rattle.field.proofs.pack_into.Given as goal

abbrev pub invariant-loop-i : goal.invariant-loop-i
invariant-loop-i l =
    (l.n ≡ min (packed_length (length l.elements)) (length l.initial.out)) × (l.out ≡ take l.i (pack l.elements) ++ drop l.i l.initial.out)
