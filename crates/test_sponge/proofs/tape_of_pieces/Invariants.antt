-- `test_sponge::tape_of_pieces` is safe and ends: pieces are not empty, and their size is at most one more than what is done. The measure is what is left.
-- Assumes nothing.
use Prim.Native.Nat.{◌≤◌, ◌<◌, ◌+◌}
use lib.ListN.{length}
use Rattle.test_sponge.proofs.tape_of_pieces.Given as goal

abbrev pub invariant-loop-rest : goal.invariant-loop-rest
invariant-loop-rest l = (0 < l.n) × (l.n + length l.rest ≤ length l.initial.rest + 1)

abbrev pub decreases-loop-rest : goal.decreases-loop-rest
decreases-loop-rest l = length l.rest
