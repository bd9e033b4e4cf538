-- `sponge::part::give_bytes` meets its contract. The loop's invariant: the first i bytes of `out` are given. A turn is `given_turn`.
-- Assumes nothing.
use mathlib.Core.Path.{◌≡◌}
use lib.ListN.{take}
use Rattle.sponge.specs.Steps.{bytes_from}
use Rattle.sponge.proofs.part.give_bytes.Given as goal

abbrev pub invariant-loop-i : goal.invariant-loop-i
invariant-loop-i l = take l.i l.out ≡ bytes_from l.lanes l.at l.i
