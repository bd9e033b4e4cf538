-- `keccak::permute` meets its contract: the lanes that it reads are the whole of its array, and `rounds` does the rest.
-- Assumes nothing.
use mathlib.Core.Path.{ap, ◌∙◌}
use native.Mathlib.Omega.{arith}
use Rattle.keccak.specs.Keccak.{state, lane, keccak_f}
use Rattle.keccak.specs.Lanes.{listed}
use Rattle.keccak.proofs.Steps.{state_lanes}
use Rattle.keccak.proofs.permute.Goals as goal

pub returns : goal.returns
unfolding state lane listed
returns c = c.rounds-s.ensures ∙ ap keccak_f (state_lanes c.args.a (omega (arith, c.well_formed.0)))
