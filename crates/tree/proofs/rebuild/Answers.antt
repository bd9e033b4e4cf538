-- `tree::rebuild` meets its contract. The invariant: the first n seeds of `out` are level k of the tree that the path gives, with zeros in the hidden place.
-- Assumes nothing.
use Rattle.tree.proofs.Positions.{position-shift, parent_lt}
use Rattle.tree.proofs.Around.{blank_lies, length-cleared, own_piece, length-own, around_turn, rebuilt}
use mathlib.Core.Path.{◌≡◌, ap, ◌∙◌}
use Prim.Native.Nat.{ℕ, ◌*◌, ◌^◌, ◌≤◌}
use native.Mathlib.Omega.{arith}
use lib.ListN.{length}
use Rattle.tree.proofs.Coded.{coded_at}
use Rattle.tree.proofs.Laying.{level_room, pow_small, shifted_one, seed-room}
use Rattle.tree.proofs.rebuild.Goals as goal

pub loop-k-init : goal.loop-k-init
unfolding coded_at
loop-k-init c =
    let a = c.args in
    let m = c.clear in
    let h : a.s ≤ length a.out.now = (let r = seed-room a.s a.l in omega arith) in (
      length-cleared a.s a.out.now m.new.dst h m.auto.dst ∙ (let t : length a.out.now ≡ 2 ^ a.l * a.s = omega arith in t),
      blank_lies a.s a.out.now m.new.dst h m.ensures,
    )

pub split_around-requires : goal.split_around-requires
split_around-requires c =
    let a = c.args in
    let l = c.loop-k in
    let q = parent_lt a.l a.hidden (omega arith) l.k (omega arith) in
    let w = pow_small l.k (omega arith) in
    let r = level_room a.s l.k a.l (omega arith) in
    let o = shifted_one l.k (omega arith) in
    let t = ap (λ (m : ℕ). m * (2 * a.s)) o in
    let own = length-own a.s l.k a.l a.path.now (omega arith) (omega arith) in
    (omega arith, omega arith, omega arith, own)

pub loop-k-preserved : goal.loop-k-preserved
loop-k-preserved c =
    let a = c.args in
    let l = c.loop-k in
    let m = c.split_around in
    let q = parent_lt a.l a.hidden (omega arith) l.k (omega arith) in (
      omega arith,
      around_turn a.s a.of.salt.now a.of.e a.l a.path.now a.hidden l.k _ _ _ l.out _ (shifted_one l.k (omega arith)) l.invariant.1 q
          (position-shift a.l a.hidden l.k (omega arith))
          (own_piece a.s a.of.salt.now a.of.e a.l a.path.now a.hidden l.k (omega arith))
          (length-own a.s l.k a.l a.path.now (omega arith) (omega arith))
          m.ensures,
    )

pub returns : goal.returns
returns c =
    let a = c.args in
    let l = c.loop-k in
    rebuilt a.s a.of.salt.now a.of.e a.l a.path.now a.hidden l.k l.out (omega arith) l.invariant.0 (omega arith) l.invariant.1
