-- `memory::copy` meets its contract. The invariant: the first i entries of `dst` are those of `src`, and the others are as they were.
-- Assumes nothing.
use mathlib.Core.Path.{◌≡◌}
use mathlib.Core.List.{◌++◌}
use lib.ListN.{take, drop}
use Rattle.memory.proofs.copy.Given as goal

abbrev pub invariant-loop-i : goal.invariant-loop-i
invariant-loop-i g l = l.dst ≡ take l.i l.src ++ drop l.i l.initial.dst
