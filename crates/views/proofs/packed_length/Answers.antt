-- `views::packed_length` meets its contract. Assumes nothing.
use mathlib.Core.Path.{refl}
use native.Mathlib.Omega.{arith}
use Rattle.field.specs.Packing.{packed_length}
use Rattle.views.proofs.packed_length.Goals as goal

pub returns : goal.returns
unfolding packed_length
returns c = (refl, omega arith)
