-- `marks::mark` meets its contract: the party is before the group, one of it, or behind it.
-- Assumes nothing.
use native.Mathlib.Omega.{arith}
use Rattle.marks.proofs.Marks.{mark_before, mark_here, mark_behind}
use Rattle.marks.proofs.mark.Goals as goal

pub returns-then-i-first : goal.returns-then-i-first
returns-then-i-first c = mark_before c.args.g c.args.i (omega arith)

pub returns-then-d-lt16 : goal.returns-then-d-lt16
returns-then-d-lt16 c = mark_here c.args.g c.args.i (omega arith) (omega arith)

pub returns : goal.returns
returns c = mark_behind c.args.g c.args.i (omega arith)
