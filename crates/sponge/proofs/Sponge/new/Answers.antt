-- `sponge::Sponge::new` meets its contract: 25 zero lanes at place 0 are `fresh`.
-- Assumes nothing.
use mathlib.Core.Path.{refl}
use Rattle.sponge.specs.Steps.{fresh}
use Rattle.sponge.proofs.Sponge.new.Goals as goal

pub returns : goal.returns
unfolding fresh
returns c = refl
