-- `linear::rows::add_rows` meets its contract. A block is the callee's. The invariant otherwise: the first i bytes of each row are added. Assumes nothing.
use mathlib.Core.List.{List}
use Prim.Native.Nat.{ℕ, ◌*◌}
use Rattle.linear.specs.Rows.{PairsFrom, RowsAdded}
use Rattle.linear.proofs.rows.add_rows.Given as goal

abbrev pub invariant-loop-i : goal.invariant-loop-i
invariant-loop-i g l =
    let v = g.W.Word.view in
    (s : List g.row.W.Denot) (a : ℕ) → PairsFrom v s a l.count l.sums → RowsAdded v l.table.bytes.now l.at l.table.width s a (l.i * 2) l.initial.out l.out
