-- `single::masks::rows` meets its contract. Assumes nothing.
use mathlib.Core.Path.{refl}
use Prim.Native.Nat.{◌*◌}
use native.Mathlib.Omega.{arith}
use Rattle.single.proofs.Weighing.{rows_none, rows_more}
use Rattle.single.proofs.masks.rows.Goals as goal

pub loop-k-init : goal.loop-k-init
loop-k-init c = λ s h. rows_none _ _ _ _ s _

pub loop-k-preserved : goal.loop-k-preserved
loop-k-preserved c = λ s h.
    let l = c.loop-k in
    let a = c.args in
    rows_more a.bytes.now a.start a.width (16 * a.words) s l.out l.k _ c.row.result (omega arith) refl (l.invariant s h) (c.row.ensures s h)
