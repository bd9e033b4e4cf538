-- `test_clip::number` is safe and ends: the number stays below a million. Assumes nothing.
use Prim.Native.Nat.{◌<◌}
use Rattle.test_clip.proofs.number.Given as goal

abbrev pub invariant-loop-byte : goal.invariant-loop-byte
invariant-loop-byte l = l.n < 1000000
