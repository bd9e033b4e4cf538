-- `vectors::write_elements` meets its contract. The invariant: the first i elements are written, and every other half byte is as it was.
-- Assumes nothing.
use Rattle.vectors.proofs.Laying.{Laid}
use Rattle.vectors.proofs.write_elements.Given as goal

abbrev pub invariant-loop-i : goal.invariant-loop-i
invariant-loop-i l = Laid l.i l.elements l.at l.initial.bytes l.bytes
