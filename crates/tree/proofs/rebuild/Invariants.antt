-- `tree::rebuild` meets its contract. The invariant: the first n seeds of `out` are level k of the tree that the path gives, with zeros in the hidden place.
-- Assumes nothing.
use mathlib.Core.Path.{◌≡◌}
use Prim.Native.Nat.{◌*◌, ◌^◌}
use lib.ListN.{length, replicate}
use Rattle.memory.specs.Sections.{pieces}
use Rattle.tree.specs.Tree.{children}
use Rattle.tree.proofs.Coded.{coded_at}
use Rattle.tree.proofs.rebuild.Given as goal

abbrev pub invariant-loop-k : goal.invariant-loop-k
invariant-loop-k l =
    (length l.out ≡ 2 ^ l.l * l.s)
    × (pieces l.s (2 ^ l.k) l.out ≡ coded_at (children l.s l.of.salt.now l.of.e) l.l (pieces l.s l.l l.path) l.hidden (replicate l.s 0) l.k)
