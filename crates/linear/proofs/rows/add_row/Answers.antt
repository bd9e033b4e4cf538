-- `linear::rows::add_row` meets its contract. The invariant: the value of the first i bytes is added. Assumes nothing.
use mathlib.Core.Path.{sym, ap, ◌∙◌, subst}
use Prim.Native.Nat.{ℕ, ◌+◌, ◌*◌, ◌<◌}
use native.Mathlib.Omega.{arith}
use lib.ListN.{length, get_or}
use Rattle.std.proofs.lemmas.List.{get_or_read}
use Rattle.linear.specs.Rows.{RowAdded}
use Rattle.linear.proofs.Added.{row_none, row_more}
use Rattle.linear.proofs.rows.add_row.Goals as goal

pub loop-i-init : goal.loop-i-init
loop-i-init g c = λ s a m. row_none g.W.Word.view c.args.row.now 0 s a c.args.word

pub loop-i-preserved : goal.loop-i-preserved
loop-i-preserved g c =
    let v = g.W.Word.view in
    let l = c.loop-i in
    let row = c.args.row.now in
    let sums = c.args.sums.now in
    let fits = c.type_inv.row l.i in
    let small : get_or row l.i 0 < 256 = omega arith in
    let wide = c.wide.ensures.0 in
    let picked = get_or_read sums (l.i * 256 + c.wide.result) c.index-sums-i.result (omega arith) c.index-sums-i.is v.zero in
    λ s a m.
    subst (RowAdded v row 0 s a ((l.i + 1) * 2) c.args.word)
    (sym (c.plus-sum.ensures ∙ ap (v.sum l.sum) (picked ∙ ap (λ (b : ℕ). get_or sums (l.i * 256 + b) v.zero) wide)))
    (row_more v g.met.W.Word.adds row s sums a (length row) l.i c.args.word l.sum m c.loop-i-test.true small (l.invariant s a m))
