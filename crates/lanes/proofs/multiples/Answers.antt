-- `lanes::multiples` meets its contract: the sixteen sums of the word and its doubles are its multiples, and they fill the whole part.
-- Assumes nothing.
use mathlib.Core.Path.{subst⁻¹}
use Rattle.lanes.specs.Lanes.{Multiples}
use Rattle.lanes.proofs.Products.{multiples_lanes}
use Rattle.lanes.proofs.multiples.Goals as goal

pub returns : goal.returns
returns c =
    subst⁻¹ (Multiples c.args.w) c.copy_from_slice.ensures.after
    (multiples_lanes _ _ _ _ c.doubled-w2.ensures c.doubled-w4.ensures c.doubled-w8.ensures)
