-- `hashes::assemble` meets its contract: the fields lie one after another, as the law `assembled` says.
-- Assumes nothing.
use native.Mathlib.Omega.{arith}
use lib.ListN.{length-set}
use Rattle.hashes.proofs.Laws.{assembled}
use Rattle.hashes.proofs.assemble.Goals as goal

pub returns : goal.returns
returns c =
    let a = c.args in
    let s = c.section-a.ensures in
    let t = c.section-b.ensures in
    let u = c.section.ensures in
    let k = c.section-a.auto.block in (
      omega (arith, length-set a.block.now 0 a.byte),
      assembled a.block.now _ _ _ _ _ _ _ _ _ _ (omega arith) s.0 s.1 t.0 t.1 u.0 u.1,
    )
