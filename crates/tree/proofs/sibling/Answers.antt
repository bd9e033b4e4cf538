-- `tree::sibling` meets its contract: by whether p is odd or even.
-- Assumes nothing.
use native.Mathlib.Omega.{arith}
use Rattle.tree.proofs.Positions.{sibling_odd, sibling-even}
use mathlib.Core.Path.{sym}
use Rattle.tree.proofs.sibling.Goals as goal

pub returns-then-p-eq1 : goal.returns-then-p-eq1
returns-then-p-eq1 c = (sym (sibling_odd _ c.if-p-eq1.true), omega arith)

pub returns-else-p-eq1 : goal.returns-else-p-eq1
returns-else-p-eq1 c = (sym (sibling-even _ (omega arith)), omega arith)
