-- `hashes::commit` meets its contract: its fields are those of a party, behind its own byte. Assumes nothing.
use Rattle.hashes.specs.Hashes.{commit_fields}
use Rattle.hashes.proofs.salted.Salted.commit.Goals as goal

pub returns : goal.returns
unfolding commit_fields
returns c = c.of_party.ensures
