-- `single::answer` meets its contract. The invariant: the first k entries are those of x·ε + a, and the others are as they were.
-- Assumes nothing.
use mathlib.Core.Path.{◌≡◌}
use Prim.Native.Nat.{◌+◌, ◌*◌}
use lib.Bits.{bit_xor}
use Rattle.memory.proofs.Groups.{Stepped}
use Rattle.field.specs.Field.{mul}
use Rattle.field.specs.Packing.{nib}
use Rattle.field.specs.Vectors.{◌!◌}
use Rattle.single.proofs.answer.Given as goal

abbrev pub invariant-loop-k : goal.invariant-loop-k
invariant-loop-k l = Stepped (λ j x y. y ≡ bit_xor (mul x (l.challenge ! j)) (nib l.tape (l.mask * 2 + j))) l.k l.initial.out l.out
