-- `lanes::put_word` meets its contract: the eight bytes of a word are put into the list.
-- Assumes nothing.
use mathlib.Core.Path.{◌∙◌}
use Rattle.lanes.proofs.Bytes.{lent_word}
use Rattle.lanes.proofs.put_word.Goals as goal

pub returns : goal.returns
returns c = lent_word c.args.bytes.now c.args.at c.args.w _ (c.copy_from_slice.ensures.after ∙ c.to_le_bytes.ensures)
