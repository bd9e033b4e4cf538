-- `answers::packed::pack_into` meets its contract: the packed vectors are the packing of all of them together.
-- Assumes nothing.
use native.Mathlib.Omega.{arith}
use Rattle.turning.proofs.Packed.{packed_front}
use Rattle.answers.proofs.packed.pack_into.Goals as goal

pub returns : goal.returns
returns c = λ vs packs. packed_front _ _ _ c.pack_parties.ensures vs packs.count packs.sized packs.held (λ i. (c.type_inv.out i).fits) (omega arith)
