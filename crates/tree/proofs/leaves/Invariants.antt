-- `tree::leaves` meets its contract. The invariant: the first n seeds of `out` are level k of the tree.
-- Assumes nothing.
use mathlib.Core.Path.{◌≡◌}
use Prim.Native.Nat.{◌*◌, ◌^◌}
use lib.ListN.{length}
use Rattle.memory.specs.Sections.{pieces}
use Rattle.tree.specs.Tree.{children, seeds_at}
use Rattle.tree.proofs.leaves.Given as goal

abbrev pub invariant-loop-k : goal.invariant-loop-k
invariant-loop-k l = (length l.out ≡ 2 ^ l.l * l.s) × (pieces l.s (2 ^ l.k) l.out ≡ seeds_at (children l.s l.of.salt.now l.of.e) l.root l.k)
