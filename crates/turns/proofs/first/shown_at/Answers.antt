-- `turns::first::shown_at` meets its contract: the sum of the layout.
-- Assumes nothing.
use native.Mathlib.Omega.{arith}
use Rattle.sets.specs.Sets.{S}
use Rattle.biscuit.specs.Signature.{head_length, shown_length, shown_at}
use Rattle.turns.proofs.first.shown_at.Goals as goal

pub returns : goal.returns
unfolding S shown_at head_length shown_length
returns c = omega arith
