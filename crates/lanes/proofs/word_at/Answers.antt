-- `lanes::word_at` meets its contract: the number of eight bytes is a word whose lanes are their elements.
-- Assumes nothing.
use mathlib.Core.Path.{subst⁻¹}
use Rattle.lanes.specs.Lanes.{WordAt}
use Rattle.lanes.proofs.Bytes.{read_lanes}
use Rattle.lanes.proofs.word_at.Goals as goal

pub returns : goal.returns
returns c =
    subst⁻¹ (WordAt c.args.bytes.now c.args.at) c.from_le_bytes.ensures
    (read_lanes c.args.bytes.now c.args.at _ (λ i. (c.type_inv.bytes i).fits) c.requires c.copy_from_slice.ensures.after)
