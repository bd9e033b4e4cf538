-- `views::add` meets its contract. The invariant: the first i bytes are those of the sum, and the others are as they were.
-- Assumes nothing.
use mathlib.Core.Path.{◌∙◌}
use native.Mathlib.Omega.{arith}
use Rattle.field.specs.Vectors.{◌⊕◌}
use Rattle.memory.proofs.Xors.{written_all}
use Rattle.views.proofs.Entries.{length-sum, sum-entry}
use Rattle.views.proofs.add.Goals as goal

pub loop-i-preserved : goal.loop-i-preserved
loop-i-preserved c =
    let l = c.loop-i in
    let a = c.args in
    sum-entry a.more.now a.sums.now l.sums l.i (omega arith) (omega arith) l.invariant

pub returns : goal.returns
returns c =
    let l = c.loop-i in
    let a = c.args in
    l.invariant ∙ written_all (a.sums.now ⊕ a.more.now) a.sums.now l.i (length-sum a.sums.now a.more.now (omega arith)) (omega arith)
