-- `sponge::Sponge::absorb` meets its contract. The loop's invariant: absorbing what is left makes the same sponge as absorbing all of the bytes,
-- and the place is in the block. A turn takes as many bytes as the block has room for (`absorb_turn`). The measure is how many are left.
-- Assumes nothing.
use mathlib.Core.Path.{◌≡◌}
use Prim.Native.Nat.{◌<◌}
use lib.ListN.{length}
use Rattle.sponge.specs.Sponge.{rate}
use Rattle.sponge.specs.Steps.{sponge, absorbed}
use Rattle.sponge.proofs.Sponge.absorb.Given as goal

abbrev pub invariant-loop-rest : goal.invariant-loop-rest
invariant-loop-rest l = (l.at < rate) × (absorbed (sponge l.lanes l.at) l.rest ≡ absorbed (sponge l.initial.lanes l.initial.at) l.initial.rest)

abbrev pub decreases-loop-rest : goal.decreases-loop-rest
decreases-loop-rest l = length l.rest
