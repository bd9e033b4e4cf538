-- `lines::elements` meets its contract. The invariant: the bytes passed are what the old ones leave modulo 16, and the others are the old ones.
-- Assumes nothing.
use mathlib.Core.Path.{◌≡◌}
use Prim.Native.Nat.{◌%◌}
use lib.ListN.{get_or, take, drop}
use Rattle.memory.specs.Lists.{table}
use Rattle.lines.proofs.elements.Given as goal

abbrev pub invariant-loop-b : goal.invariant-loop-b
invariant-loop-b l = (take l.b-index l.out ≡ table l.b-index (λ i. get_or l.initial.out i 0 % 16)) × (drop l.b-index l.out ≡ drop l.b-index l.initial.out)
