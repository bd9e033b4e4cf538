-- `biscuit::packing_at` meets its contract: the sum of the layout.
-- Assumes nothing.
use native.Mathlib.Omega.{arith}
use Rattle.sets.specs.Sets.{S}
use Rattle.biscuit.specs.Signature.{head_length, shown_length, packing_at}
use Rattle.biscuit.proofs.packing_at.Goals as goal

pub returns : goal.returns
unfolding S packing_at head_length shown_length
returns c = omega arith
