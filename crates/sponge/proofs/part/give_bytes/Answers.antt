-- `sponge::part::give_bytes` meets its contract. The loop's invariant: the first i bytes of `out` are given. A turn is `given_turn`.
-- Assumes nothing.
use mathlib.Core.Path.{refl}
use native.Mathlib.Omega.{arith}
use Rattle.memory.specs.Lists.{table}
use Rattle.sponge.specs.Steps.{bytes_from}
use Rattle.sponge.proofs.Lanes.{given_turn}
use Rattle.sponge.proofs.part.give_bytes.Goals as goal

pub loop-i-init : goal.loop-i-init
unfolding bytes_from table
loop-i-init c = refl

pub loop-i-preserved : goal.loop-i-preserved
loop-i-preserved c = given_turn _ _ c.loop-i.out c.loop-i.i _ (omega arith) c.loop-i.invariant c.byte.ensures
