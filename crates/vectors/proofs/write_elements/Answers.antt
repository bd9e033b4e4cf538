-- `vectors::write_elements` meets its contract. The invariant: the first i elements are written, and every other half byte is as it was.
-- Assumes nothing.
use native.Mathlib.Omega.{arith}
use Rattle.vectors.proofs.Laying.{laid_none, laid_more, laid_all}
use Rattle.vectors.proofs.write_elements.Goals as goal

pub loop-i-init : goal.loop-i-init
loop-i-init c = laid_none _ _ _ (λ i. omega (arith, c.type_inv.bytes i))

pub loop-i-preserved : goal.loop-i-preserved
loop-i-preserved c =
    let l = c.loop-i in
    laid_more l.i _ _ _ l.bytes _ l.invariant c.put_element.ensures

pub returns : goal.returns
returns c = laid_all _ _ _ _ c.loop-i.i c.loop-i.invariant (omega arith)
