-- `sponge::part::byte` meets its contract: the lane is shifted down to the byte, and the byte is kept.
-- Assumes nothing.
use mathlib.Core.Path.{refl}
use Rattle.sponge.specs.Sponge.{byte_at}
use Rattle.sponge.proofs.part.byte.Goals as goal

pub returns : goal.returns
unfolding byte_at
returns c = refl
