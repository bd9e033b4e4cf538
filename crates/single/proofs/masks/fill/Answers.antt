-- `single::masks::fill` meets its contract: the vector is packed over zeros, so the masks of the packed elements are its own.
-- Assumes nothing.
use mathlib.Core.Path.{refl}
use Rattle.memory.proofs.Xors.{get_or_zeros}
use Rattle.single.proofs.Vector.{masks_vector}
use Rattle.single.proofs.masks.fill.Goals as goal

pub returns : goal.returns
returns c = masks_vector c.args.s.now _ _ c.requires.0 refl (get_or_zeros 64) c.pack_into.ensures _ c.each.ensures
