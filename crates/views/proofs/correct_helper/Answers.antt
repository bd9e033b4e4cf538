-- `views::correct_helper` meets its contract. The invariant: the first k entries are those of Δc, and the others are as they were.
-- Assumes nothing.
use mathlib.Core.Path.{◌∙◌}
use native.Mathlib.Omega.{arith}
use lib.ListN.{length, drop}
use Rattle.field.specs.Packing.{unpack}
use Rattle.field.specs.Vectors.{◌⊕◌, ◌⊙◌}
use Rattle.memory.proofs.Xors.{written_more, written_all}
use Rattle.views.proofs.Entries.{length-correction_c, helper-entry}
use Rattle.views.proofs.correct_helper.Goals as goal

pub loop-k-preserved : goal.loop-k-preserved
loop-k-preserved c =
    let l = c.loop-k in
    let a = c.args in
    let size = length-correction_c a.y.now a.sums.now a.mask a.helper in
    written_more (a.y.now ⊙ unpack (length a.y.now) (drop a.mask a.sums.now) ⊕ unpack (length a.y.now) (drop a.helper a.sums.now)) a.dc.now l.dc l.k _ (omega arith) (omega arith) l.invariant
    (helper-entry a.y.now a.sums.now a.mask a.helper l.k _ _ _ (omega arith) c.element-a.ensures c.element-c.ensures c.product.ensures)

pub returns : goal.returns
returns c =
    let l = c.loop-k in
    let a = c.args in
    let size = length-correction_c a.y.now a.sums.now a.mask a.helper in
    l.invariant ∙ written_all (a.y.now ⊙ unpack (length a.y.now) (drop a.mask a.sums.now) ⊕ unpack (length a.y.now) (drop a.helper a.sums.now)) a.dc.now l.k (omega arith) (omega arith)
