-- `views::correct_secret` meets its contract. The invariant: the first k entries are those of Δs, and the others are as they were.
-- Assumes nothing.
use mathlib.Core.Path.{◌∙◌}
use native.Mathlib.Omega.{arith}
use lib.ListN.{length}
use Rattle.views.specs.Views.{correction_s}
use Rattle.memory.proofs.Xors.{written_more, written_all}
use Rattle.views.proofs.Entries.{length-correction_s, secret-entry}
use Rattle.views.proofs.correct_secret.Goals as goal

pub loop-k-preserved : goal.loop-k-preserved
loop-k-preserved c =
    let l = c.loop-k in
    let a = c.args in
    let size = length-correction_s a.s.now a.sums.now in
    written_more (correction_s (length a.s.now) a.s.now a.sums.now) a.ds.now l.ds l.k _ (omega arith) (omega arith) l.invariant (secret-entry a.s.now a.sums.now l.k _ (omega arith) c.element.ensures)

pub returns : goal.returns
returns c =
    let l = c.loop-k in
    let a = c.args in
    let size = length-correction_s a.s.now a.sums.now in
    l.invariant ∙ written_all (correction_s (length a.s.now) a.s.now a.sums.now) a.ds.now l.k (omega arith) (omega arith)
