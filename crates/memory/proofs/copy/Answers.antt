-- `memory::copy` meets its contract. The invariant: the first i entries of `dst` are those of `src`, and the others are as they were.
-- Assumes nothing.
use mathlib.Core.Path.{◌∙◌}
use native.Mathlib.Omega.{arith}
use borrow.Author.Rules.{rules}
use Rattle.memory.proofs.Parts.{copied_entry, copied_all}
use Rattle.memory.proofs.copy.Goals as goal

pub loop-i-preserved : goal.loop-i-preserved
loop-i-preserved g c = search (rules, copied_entry)

pub returns : goal.returns
returns g c =
    let l = c.loop-i in
    l.invariant ∙ copied_all _ _ l.i (omega arith)
