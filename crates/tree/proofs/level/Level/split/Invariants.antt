-- `tree::split` meets its contract. The invariant: the parents from j on are spread out, and what lies before their children is as it was.
-- Assumes nothing.
use mathlib.Core.Path.{◌≡◌}
use Prim.Native.Nat.{◌*◌, ◌≤◌}
use Rattle.memory.specs.Lists.{put}
use Rattle.tree.specs.Tree.{children}
use Rattle.tree.specs.Spread.{spread}
use Rattle.tree.proofs.level.Level.split.Given as goal

abbrev pub invariant-loop-j : goal.invariant-loop-j
invariant-loop-j l =
    (l.from ≤ l.j)
    × (l.out ≡ put l.initial.out (l.j * (2 * l.self.s)) (spread l.self.s (children l.self.s l.self.of.salt.now l.self.of.e l.self.k) l.j l.to l.initial.out))
