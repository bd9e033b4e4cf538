-- `views::tape_length` meets its contract. Assumes nothing.
use native.Mathlib.Omega.{arith}
use Rattle.field.specs.Packing.{packed_length}
use Rattle.parties.specs.Repetition.{tape_length}
use Rattle.views.proofs.tape_length.Goals as goal

pub returns : goal.returns
unfolding tape_length packed_length
returns c = (omega arith, omega arith)
