-- `marks::fold_into` meets its contract. Assumes nothing.
use native.Mathlib.Omega.{arith}
use Rattle.memory.proofs.Groups.{stepped_all}
use Rattle.marks.specs.Marks.{EachWord}
use Rattle.marks.proofs.fold_into.Goals as goal

pub returns : goal.returns
unfolding EachWord
returns c = stepped_all _ _ _ _ c.loop-k.invariant (omega arith)
