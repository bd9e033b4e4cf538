-- `vectors::halves` meets its contract. The invariant: the elements of the first k bytes are written, and the entries behind them are as they were.
-- Assumes nothing.
use mathlib.Core.Path.{◌≡◌}
use mathlib.Core.List.{◌++◌}
use Prim.Native.Nat.{◌*◌}
use lib.ListN.{length, take, drop}
use Rattle.field.specs.Packing.{unpack}
use Rattle.vectors.proofs.halves.Given as goal

abbrev pub invariant-loop-k : goal.invariant-loop-k
invariant-loop-k l = (length l.out ≡ length l.initial.out) × (l.out ≡ take (l.k * 2) (unpack (length l.initial.out) l.bytes) ++ drop (l.k * 2) l.initial.out)
