-- `tree::path` meets its contract. The invariant: the seed on the way lies at `at` of `pair`, and `out` begins with the path so far. Where the
-- walk ends the seed on the way is the hidden party's leaf.
-- Assumes nothing.
use mathlib.Core.Path.{ap, ◌∙◌}
use mathlib.Core.List.{List}
use Prim.Native.Nat.{ℕ}
use native.Mathlib.Omega.{arith}
use lib.ListN.{length, take, drop}
use Rattle.tree.specs.Tree.{on_way}
use Rattle.tree.proofs.Positions.{position-shift}
use Rattle.tree.proofs.Walking.{on_way_turn, path_none, path_turn, path-whole, leaf_copied, root-first}
use Rattle.tree.proofs.path.Goals as goal

pub loop-k-init : goal.loop-k-init
unfolding on_way
loop-k-init c =
    let a = c.args in
    let m = c.copy in
    let s = length a.root.now in (
      omega arith,
      ap (λ (x : List ℕ). take s (drop 0 x)) m.ensures ∙ root-first a.root.now _ (omega arith),
      path_none s a.of.salt.now a.of.e a.l a.root.now a.hidden a.out.now,
    )

pub loop-k-preserved : goal.loop-k-preserved
loop-k-preserved c =
    let a = c.args in
    let l = c.loop-k in
    let m = c.step-at in
    let s = length a.root.now in
    let p = position-shift a.l a.hidden l.k (omega arith) in (
      m.ensures.0,
      m.ensures.1 ∙ on_way_turn s a.of.salt.now a.of.e a.l a.root.now a.hidden l.k _ _ p l.invariant.1,
      path_turn s a.of.salt.now a.of.e a.l a.root.now a.hidden l.k _ _ a.out.now _ _ p l.invariant.1 l.invariant.2 m.ensures.2,
    )

pub returns : goal.returns
returns c =
    let a = c.args in
    let l = c.loop-k in
    let s = length a.root.now in record {
      path = path-whole s a.of.salt.now a.of.e a.l a.root.now a.hidden l.k a.out.now l.out (omega arith) (omega arith) l.invariant.2;
      leaf = leaf_copied s a.of.salt.now a.of.e a.l a.root.now a.hidden l.k l.at l.pair a.leaf.now _ (omega arith) (omega arith) (omega arith) (omega arith) l.invariant.1
          c.copy-2.ensures;
    }
