-- `hashes::tape` meets its contract: its fields are those of a party, behind its own byte. Assumes nothing.
use Rattle.hashes.specs.Hashes.{tape_fields}
use Rattle.hashes.proofs.salted.Salted.tape.Goals as goal

pub returns : goal.returns
unfolding tape_fields
returns c = c.of_party.ensures
