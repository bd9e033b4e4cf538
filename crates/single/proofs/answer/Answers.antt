-- `single::answer` meets its contract. Assumes nothing.
use native.Mathlib.Omega.{arith}
use Rattle.single.proofs.Alpha.{answer_made}
use Rattle.single.proofs.answer.Goals as goal

pub returns : goal.returns
returns c = answer_made _ _ _ _ _ c.loop-k.k c.requires.0 (omega arith) c.loop-k.invariant
