-- `biscuit::groups_of` meets its contract. Assumes nothing.
use Rattle.biscuit.proofs.Room.{shifted_groups}
use Rattle.biscuit.proofs.groups_of.Goals as goal

pub returns : goal.returns
returns c = shifted_groups _ c.requires
