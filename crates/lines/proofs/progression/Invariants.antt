-- `lines::progression` meets its contract. The invariant: the bytes passed follow the rule, and x is the next.
-- Assumes nothing.
use mathlib.Core.Path.{◌≡◌}
use Prim.Native.Nat.{◌+◌, ◌*◌, ◌%◌, ◌<◌}
use lib.ListN.{take}
use Rattle.memory.specs.Lists.{table}
use Rattle.lines.proofs.progression.Given as goal

abbrev pub invariant-loop-b : goal.invariant-loop-b
invariant-loop-b l = (l.x < 256) × (l.x ≡ (l.step * l.b-index + l.start) % 256) × (take l.b-index l.out ≡ table l.b-index (λ i. (l.step * i + l.start) % 256))
