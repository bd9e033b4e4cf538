-- `single::masks::four` meets its contract. The invariant: the first b words are the masks of their bits.
-- Assumes nothing.
use Prim.Native.Nat.{ℕ, ◌<◌}
use lib.ListN.{get_or}
use Rattle.single.specs.Masks.{MaskOf}
use Rattle.single.proofs.masks.four.Given as goal

abbrev pub invariant-loop-b : goal.invariant-loop-b
invariant-loop-b l = (j : ℕ) → j < l.b → MaskOf l.x j (get_or l.masks j 0)
