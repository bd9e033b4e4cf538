-- `keccak::turn_over` meets its contract: a lane that is turned over twice is as it was.
-- Assumes nothing.
use borrow.Author.Rules.{rules}
use mathlib.Core.Path.{refl}
use Rattle.keccak.specs.Keccak.{state, lane, inverse}
use Rattle.keccak.specs.Lanes.{listed, turned, flip, kept}
use Rattle.keccak.proofs.Turned.{kept_twice}
use Rattle.keccak.proofs.turn_over.Goals as goal

pub returns : goal.returns
unfolding listed turned flip kept state lane inverse
returns c = (refl, kept_twice (listed c.args.a) (search rules))
