-- `group::places::mask_at` meets its contract. Assumes nothing.
use mathlib.Core.Path.{ap}
use Prim.Native.Nat.{ℕ, ◌*◌}
use Rattle.group.specs.Shares.{mask_at}
use Rattle.group.proofs.Shares.{packed_is}
use Rattle.group.proofs.places.mask_at.Goals as goal

pub returns-clause-place : goal.returns-clause-place
unfolding mask_at
returns-clause-place c = ap (λ (a : ℕ). a * 2) (packed_is _ _ c.div_ceil.ensures)
