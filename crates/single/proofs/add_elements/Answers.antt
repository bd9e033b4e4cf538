-- `single::add_elements` meets its contract. Assumes nothing.
use native.Mathlib.Omega.{arith}
use Rattle.single.proofs.Alpha.{elements_added}
use Rattle.single.proofs.add_elements.Goals as goal

pub returns : goal.returns
returns c = elements_added _ _ _ c.loop-k.k (omega arith) c.loop-k.invariant
