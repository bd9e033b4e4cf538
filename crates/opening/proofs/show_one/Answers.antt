-- `opening::show_one` meets its contract: the path, then the commitment to the leaf that the walk ended at, and the leaf over the root.
-- Assumes nothing.
use mathlib.Core.Path.{refl}
use Prim.Native.Nat.{◌≤◌}
use lib.ListN.{length}
use Rattle.opening.proofs.Showing.{leaf_over-root, shown-written}
use Rattle.opening.proofs.show_one.Goals as goal

pub returns : goal.returns
returns c =
    let a = c.args in
    let h = c.requires in
    let fits : length a.root.now ≤ 32 = h.0 in
    let way = c.path in
    let made = c.commit in
    let s = length a.root.now in
    let x = way.new.leaf in
    let kept = way.auto.leaf in record {
      shown = shown-written s a.of.salt.now a.of.e a.l a.root.now a.h _ x fits kept way.ensures.leaf a.out.now way.new.out made.new.out
          h.4 way.ensures.path made.ensures;
      leaf = leaf_over-root s a.of.salt.now a.of.e a.l a.root.now a.h _ x fits kept way.ensures.leaf _ refl c.copy.ensures;
    }
