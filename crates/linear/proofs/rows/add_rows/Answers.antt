-- `linear::rows::add_rows` meets its contract. A block is the callee's. The invariant otherwise: the first i bytes of each row are added. Assumes nothing.
use mathlib.Core.Path.{refl}
use Prim.Native.Nat.{◌+◌, ◌*◌}
use Rattle.linear.proofs.Pairs.{pairs_part}
use Rattle.linear.proofs.Added.{rows_none, rows_on}
use Rattle.linear.proofs.rows.add_rows.Goals as goal

pub loop-i-init : goal.loop-i-init
loop-i-init g c = let a = c.args in λ s p m. rows_none g.W.Word.view a.table.bytes.now a.at a.table.width s p a.out.now

pub loop-i-preserved : goal.loop-i-preserved
loop-i-preserved g c =
    let v = g.W.Word.view in
    let d = c.add_columns-in-loop-i in
    let l = c.loop-i in
    let a = c.args in
    λ s p m.
    rows_on v a.table.bytes.now a.at (a.at + l.i) l.i 1 a.table.width s p a.out.now l.out d.new.out refl l.auto.out (l.invariant s p m)
    (d.ensures s (p + l.i * 2) (pairs_part v s a.sums.now p a.count l.i m c.loop-i-test.true))
