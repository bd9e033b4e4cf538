-- `linear::rows::add_columns` meets its contract. The invariant: the first k words have their row's bytes added, and the others are as they were. Assumes nothing.
use mathlib.Core.Path.{◌≡◌}
use mathlib.Core.List.{List}
use Prim.Native.Nat.{ℕ, ◌+◌, ◌*◌, ◌≤◌, ◌<◌}
use lib.ListN.{get_or}
use Rattle.linear.specs.Rows.{PairsFrom, RowAdded}
use Rattle.linear.proofs.rows.add_columns.Given as goal

abbrev pub invariant-loop-k : goal.invariant-loop-k
invariant-loop-k g l =
    let v = g.W.Word.view in record {
      rest : (j : ℕ) → l.k ≤ j → get_or l.out j v.zero ≡ get_or l.initial.out j v.zero;
      added : (s : List g.row.W.Denot) (a : ℕ) → PairsFrom v s a g.row.N l.sums → (j : ℕ) → j < l.k
          → RowAdded v l.table.bytes.now ((l.at + j * l.table.width) * 2) s a (g.row.N * 2) (get_or l.initial.out j v.zero) (get_or l.out j v.zero);
    }
