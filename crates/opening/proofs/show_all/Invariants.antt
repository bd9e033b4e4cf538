-- `opening::show_all` meets its contract. The invariant: `out` begins with the sections of the first i repetitions and `roots` with their hidden leaves;
-- the roots behind them are still as they were. Assumes nothing.
use mathlib.Core.Path.{◌≡◌}
use mathlib.Core.List.{◌++◌}
use Prim.Native.Nat.{◌+◌, ◌*◌}
use lib.ListN.{drop}
use Rattle.sets.specs.Sets.{S}
use Rattle.biscuit.specs.Signature.{repeated}
use Rattle.opening.specs.Shown.{leaf_of, shown_of}
use Rattle.opening.proofs.show_all.Given as goal

abbrev pub invariant-loop-i : goal.invariant-loop-i
invariant-loop-i l =
    (l.roots ≡ repeated l.i (leaf_of l.p l.salt l.hidden l.initial.roots) ++ drop (l.i * S l.p) l.initial.roots)
    × (l.out ≡ repeated l.i (shown_of l.p l.salt l.hidden l.initial.roots) ++ drop (l.i * (l.p.l * S l.p + 2 * S l.p)) l.initial.out)
