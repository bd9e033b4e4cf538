-- `test_parties::cases::of` meets its contract: the sizes of both sets are numbers, and what `sized` asks of them is computed.
-- Assumes nothing.
use borrow.Author.Rules.{rules}
use Rattle.field.specs.Packing.{packed_length}
use Rattle.forms.specs.Circuit.{affine_length}
use Rattle.forms.specs.Room.{circuit_length}
use Rattle.test_parties.proofs.cases.of.Goals as goal

pub sized-requires : goal.sized-requires
unfolding circuit_length affine_length packed_length
sized-requires c = search rules

pub sized-requires-2 : goal.sized-requires-2
unfolding circuit_length affine_length packed_length
sized-requires-2 c = search rules
