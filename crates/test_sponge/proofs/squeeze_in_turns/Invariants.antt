-- `test_sponge::squeeze_in_turns` is safe and ends: turns are not empty, and their size is at most one more than what is done. The measure is what is left.
-- Assumes nothing.
use Prim.Native.Nat.{◌≤◌, ◌<◌, ◌+◌}
use lib.ListN.{length}
use Rattle.test_sponge.proofs.squeeze_in_turns.Given as goal

abbrev pub invariant-loop-rest : goal.invariant-loop-rest
invariant-loop-rest l = (0 < l.n) × (l.n + length l.rest ≤ length l.initial.rest + 1)

abbrev pub decreases-loop-rest : goal.decreases-loop-rest
decreases-loop-rest l = length l.rest
