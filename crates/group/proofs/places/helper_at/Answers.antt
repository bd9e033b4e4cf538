-- `group::places::helper_at` meets its contract. Assumes nothing.
use mathlib.Core.Path.{ap₂}
use Prim.Native.Nat.{ℕ, ◌+◌, ◌*◌}
use Rattle.group.specs.Shares.{helper_at}
use Rattle.group.proofs.Shares.{packed_is}
use Rattle.group.proofs.places.helper_at.Goals as goal

pub returns-clause-place : goal.returns-clause-place
unfolding helper_at
returns-clause-place c = ap₂ (λ (a b : ℕ). (a + b) * 2) (packed_is _ _ c.div_ceil.ensures) (packed_is _ _ c.div_ceil-2.ensures)
