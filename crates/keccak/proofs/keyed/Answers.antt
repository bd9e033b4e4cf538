-- `keccak::keyed` meets its contract: lane 0 is never turned over.
-- Assumes nothing.
use mathlib.Core.Path.{refl}
use Rattle.keccak.specs.Keccak.{state, lane}
use Rattle.keccak.specs.Lanes.{listed, keyed, turned, flip, kept}
use Rattle.keccak.proofs.keyed.Goals as goal

pub returns : goal.returns
unfolding listed keyed turned flip kept state lane
returns c = refl
