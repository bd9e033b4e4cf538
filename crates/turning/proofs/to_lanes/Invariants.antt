-- `turning::to_lanes` meets its contract. The invariant: the first w groups of sixteen words are turned.
-- Assumes nothing.
use mathlib.Core.Path.{◌≡◌}
use Prim.Native.Nat.{◌*◌}
use lib.ListN.{length}
use Rattle.turning.proofs.Groups.{TurnedTo}
use Rattle.turning.proofs.to_lanes.Given as goal

abbrev pub invariant-loop-w : goal.invariant-loop-w
invariant-loop-w l = (length l.out ≡ length l.initial.out) × TurnedTo (16 * l.w) l.tapes l.out
