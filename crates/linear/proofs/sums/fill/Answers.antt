-- `linear::sums::fill` meets its contract. The invariant: the sums of the first c pairs of words are written. Assumes nothing.
use native.Mathlib.Omega.{arith}
use Rattle.linear.proofs.Pairs.{pairs_lent, pairs_none}
use Rattle.linear.proofs.sums.fill.Goals as goal

pub loop-c-init : goal.loop-c-init
loop-c-init g c = let a = c.args in pairs_none g.W.Word.view a.words.now a.sums.now a.at

pub loop-c-preserved : goal.loop-c-preserved
loop-c-preserved g c =
    let low = c.word_or_zero in
    let high = c.word_or_zero-in-loop-c in
    let l = c.loop-c in
    let a = c.args in
    pairs_lent g.W.Word.view a.words.now l.sums c.fill_one.new.out a.at l.c _ _ low.result high.result l.invariant low.ensures high.ensures (omega arith) (omega arith)
    c.fill_one.ensures c.fill_one.auto.out (omega arith)
