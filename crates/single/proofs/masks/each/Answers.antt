-- `single::masks::each` meets its contract. Assumes nothing.
use native.Mathlib.Omega.{arith}
use Rattle.single.proofs.Weighing.{masks_none, masks_lent}
use Rattle.single.proofs.masks.each.Goals as goal

pub loop-w-init : goal.loop-w-init
loop-w-init c = masks_none _ _

pub loop-w-preserved : goal.loop-w-preserved
loop-w-preserved c =
    let m = c.four in
    let l = c.loop-w in
    masks_lent c.args.packed.now l.w c.word_at.result l.masks m.new.masks l.invariant c.word_at.ensures m.ensures m.auto.masks (omega arith)
