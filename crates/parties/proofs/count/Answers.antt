-- `parties::count` meets its contract: one shifted by l is 2^l. Assumes nothing.
use Rattle.sets.specs.Sets.{N}
use Rattle.forms.proofs.Room.{shifted_one}
use Rattle.parties.proofs.count.Goals as goal

pub returns : goal.returns
unfolding N
returns c = shifted_one _ c.requires
