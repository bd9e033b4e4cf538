-- `hashes::begin` meets its contract: a byte and then the salt are absorbed as one list.
-- Assumes nothing.
use Rattle.hashes.proofs.Laws.{absorbed_after_byte}
use Rattle.hashes.proofs.begin.Goals as goal

pub returns : goal.returns
returns c = absorbed_after_byte _ _ _ _ _ c.new.ensures c.absorb.ensures c.absorb-2.ensures
