-- `linear::rows::add_row` meets its contract. The invariant: the value of the first i bytes is added. Assumes nothing.
use mathlib.Core.List.{List}
use Prim.Native.Nat.{ℕ, ◌*◌}
use lib.ListN.{length}
use Rattle.linear.specs.Rows.{PairsFrom, RowAdded}
use Rattle.linear.proofs.rows.add_row.Given as goal

abbrev pub invariant-loop-i : goal.invariant-loop-i
invariant-loop-i g l = (s : List g.row.W.Denot) (a : ℕ) → PairsFrom g.W.Word.view s a (length l.row) l.sums → RowAdded g.W.Word.view l.row 0 s a (l.i * 2) l.fn.word l.sum
