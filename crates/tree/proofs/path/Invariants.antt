-- `tree::path` meets its contract. The invariant: the seed on the way lies at `at` of `pair`, and `out` begins with the path so far. Where the
-- walk ends the seed on the way is the hidden party's leaf.
-- Assumes nothing.
use mathlib.Core.Path.{◌≡◌}
use mathlib.Core.List.{◌++◌, flatten}
use Prim.Native.Nat.{◌*◌, ◌≤◌}
use lib.ListN.{take, drop}
use Rattle.tree.specs.Tree.{children, on_way, path_at}
use Rattle.tree.proofs.path.Given as goal

abbrev pub invariant-loop-k : goal.invariant-loop-k
invariant-loop-k l =
    (l.at ≤ l.s)
    × (take l.s (drop l.at l.pair) ≡ on_way (children l.s l.of.salt.now l.of.e) l.l l.root l.hidden l.k)
    × (l.out ≡ flatten (path_at (children l.s l.of.salt.now l.of.e) l.l l.root l.hidden l.k) ++ drop (l.k * l.s) l.initial.out)
