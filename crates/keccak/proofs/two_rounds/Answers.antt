-- `keccak::two_rounds` meets its contract: its steps are the eight that it calls, one after the other.
-- Assumes nothing.

use Rattle.keccak.proofs.two_rounds.Goals as goal

pub returns : goal.returns
returns c = cc
