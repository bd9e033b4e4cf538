-- `test_desk::places::number` meets its contract: six digits are below a million. Assumes nothing.
use Prim.Native.Nat.{◌<◌}
use Rattle.test_desk.proofs.places.number.Given as goal

abbrev pub invariant-loop-i : goal.invariant-loop-i
invariant-loop-i l = l.n < 1000000
