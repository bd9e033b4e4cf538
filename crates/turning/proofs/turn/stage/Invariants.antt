-- `turning::turn::stage` meets its contract. The invariant: the words of the first p pairs are those after the stage.
-- Assumes nothing.
use mathlib.Core.Path.{◌≡◌}
use lib.ListN.{length}
use Rattle.turning.proofs.Stages.{MixedTo}
use Rattle.turning.proofs.turn.stage.Given as goal

abbrev pub invariant-loop-p : goal.invariant-loop-p
invariant-loop-p g l = (length l.y ≡ 16) × MixedTo g.row.D l.even l.p l.x l.y
