-- `tree::leaves` meets its contract. The invariant: the first n seeds of `out` are level k of the tree.
-- Assumes nothing.
use mathlib.Core.Path.{ap, ◌∙◌}
use Prim.Native.Nat.{ℕ, ◌*◌, ◌≤◌}
use native.Mathlib.Omega.{arith}
use lib.ListN.{length}
use Rattle.memory.specs.Sections.{pieces}
use Rattle.tree.specs.Tree.{seeds_at}
use Rattle.tree.proofs.Laying.{level_room, shifted_one, seed-room, root_lies, level_turn, leaves_lie}
use Rattle.tree.proofs.leaves.Goals as goal

pub loop-k-init : goal.loop-k-init
unfolding seeds_at
loop-k-init c =
    let a = c.args in
    let m = c.copy in
    let h : length a.root.now ≤ length a.out.now = (let r = seed-room (length a.root.now) a.l in omega arith) in
    (omega arith, ap (pieces (length a.root.now) 1) m.ensures ∙ root_lies a.root.now a.out.now h)

pub split-requires : goal.split-requires
split-requires c =
    let s = length c.args.root.now in
    let l = c.loop-k in
    let r = level_room s l.k c.args.l (omega arith) in
    let t = ap (λ (m : ℕ). m * (2 * s)) (shifted_one l.k (omega arith)) in
    omega arith

pub loop-k-preserved : goal.loop-k-preserved
loop-k-preserved c =
    let a = c.args in
    let l = c.loop-k in
    let m = c.split in (
      omega arith,
      level_turn (length a.root.now) a.of.salt.now a.of.e a.root.now l.k _ l.out _ (shifted_one l.k (omega arith)) l.invariant.1 m.ensures,
    )

pub returns : goal.returns
returns c =
    let a = c.args in
    let l = c.loop-k in
    leaves_lie (length a.root.now) a.of.salt.now a.of.e a.l a.root.now l.k l.out (omega arith) l.invariant.0 l.invariant.1
