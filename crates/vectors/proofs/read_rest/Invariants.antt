-- `vectors::read_rest` meets its contract. The invariant: what was read before is read still, and the entries up to i are.
-- Assumes nothing.
use Rattle.vectors.specs.Elements.{ReadTo}
use Rattle.vectors.proofs.read_rest.Given as goal

abbrev pub invariant-loop-i : goal.invariant-loop-i
invariant-loop-i l = ReadTo l.bytes l.at l.f l.initial.out → ReadTo l.bytes l.at l.i l.out
