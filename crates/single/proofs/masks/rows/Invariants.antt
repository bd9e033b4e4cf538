-- `single::masks::rows` meets its contract. The invariant: the first k words are those of their rows.
-- Assumes nothing.
use Prim.Native.Nat.{ℕ, ◌*◌}
use Rattle.single.specs.Masks.{MasksOf, RowsOf}
use Rattle.single.proofs.masks.rows.Given as goal

abbrev pub invariant-loop-k : goal.invariant-loop-k
invariant-loop-k l = (s : ℕ → ℕ) → MasksOf s 8 l.masks → RowsOf l.bytes l.start l.width (16 * l.words) s l.k l.out
