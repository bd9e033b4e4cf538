-- `hashes::section` meets its contract: what was copied into the part that was lent is the field, whole.
-- Assumes nothing.
use Prim.Native.Nat.{◌+◌}
use mathlib.Core.Path.{refl}
use native.Mathlib.Omega.{arith}
use lib.ListN.{length}
use Rattle.memory.proofs.Sections.{copied_part}
use Rattle.hashes.proofs.section.Goals as goal

pub returns : goal.returns
returns c =
    let m = c.copy in
    let a = c.args in
    (refl, copied_part a.block.now a.at (a.at + length a.field.now) a.field.now m.new.dst (omega arith) (omega arith) (omega arith) m.ensures)
