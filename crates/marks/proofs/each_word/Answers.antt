-- `marks::each_word` meets its contract. Assumes nothing.
use native.Mathlib.Omega.{arith}
use Rattle.memory.proofs.Groups.{stepped_all}
use Rattle.marks.specs.Marks.{EachWord}
use Rattle.marks.proofs.each_word.Goals as goal

pub returns : goal.returns
unfolding EachWord
returns g c = stepped_all _ _ _ _ c.loop-k.invariant (omega arith)
