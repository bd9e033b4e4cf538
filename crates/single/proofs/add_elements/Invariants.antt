-- `single::add_elements` meets its contract. The invariant: the first k entries have their elements added, and the others are as they were.
-- Assumes nothing.
use mathlib.Core.Path.{◌≡◌}
use lib.Bits.{bit_xor}
use Rattle.memory.proofs.Groups.{Stepped}
use Rattle.field.specs.Packing.{nib}
use Rattle.single.proofs.add_elements.Given as goal

abbrev pub invariant-loop-k : goal.invariant-loop-k
invariant-loop-k l = Stepped (λ j x y. y ≡ bit_xor x (nib l.bytes j)) l.k l.initial.v l.v
