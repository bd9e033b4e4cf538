-- `test_desk::line::is_left` is safe and ends: x stays below 256. Assumes nothing.
use Prim.Native.Nat.{◌<◌}
use Rattle.test_desk.proofs.line.is_left.Given as goal

abbrev pub invariant-loop-i : goal.invariant-loop-i
invariant-loop-i l = l.x < 256
