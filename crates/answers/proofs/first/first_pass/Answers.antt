-- `answers::first::first_pass` meets its contract. The groups are taken two at a time, and one that is left over by itself.
-- Assumes nothing.
use mathlib.Core.Path.{◌≡◌, refl, ◌∙◌}
use native.Mathlib.Omega.{arith}
use Prim.Native.Nat.{◌+◌, ◌*◌, ◌/◌}
use Rattle.answers.specs.Passes.{circuit_of, leaves_of, room_at, alphas_of}
use Rattle.answers.proofs.Absorbing.{absorbing_start, absorbing_group, absorbing_two, absorbing_at, absorbing-end}
use Rattle.answers.proofs.Passing.{passed_none, passed_more, passed_two, passed_at}
use Rattle.answers.proofs.Sizes.{length-alphas, alphas-vectors}
use Rattle.answers.proofs.Work.{part_same, turn_front, two_turns_front}
use Rattle.answers.proofs.first.first_pass.Goals as goal

pub loop-pair-init : goal.loop-pair-init
loop-pair-init c = record {
  absorbing = absorbing_start _ (alphas_of c.args.of.rep (circuit_of c.args.of.rep c.args.work.now) c.args.of.salt.now (leaves_of c.args.of.rep c.args.work.now) c.args.of.values.now);
  passed = passed_none _ _ _ _ _ _ _ _ c.requires.4 c.requires.5 c.requires.6;
  front = refl;
}

pub loop-pair-preserved : goal.loop-pair-preserved
loop-pair-preserved c =
    let of = c.args.of in
    let r = of.rep in
    let w = c.args.work.now in
    let l = c.loop-pair in
    let i = l.invariant in
    let t = c.turn_two-s in
    let g = 2 * l.pair in
    let e : g + 2 ≡ 2 * (l.pair + 1) = omega arith in
    let n = length-alphas r of.salt.now (leaves_of r w) of.values.now of.whole (circuit_of r w) in
    let same = two_turns_front r g _ _ l.work w _ _ _ _ _ _ _ _ _ _ i.front t.ensures.turned in record {
      absorbing = absorbing_two r.m _ (alphas-vectors r of.salt.now (leaves_of r w) of.values.now of.whole (circuit_of r w)) g _ e (omega arith) _ _ _ _ i.absorbing same.first.absorbs same.second.absorbs;
      passed = passed_two g _ r.m (room_at r) _ _ _ _ _ _ _ _ _ _ _ l.work t.new.work e t.ensures.kept i.passed same;
      front = part_same t.new.work l.work 0 (room_at r) (room_at r + g * (16 * r.m)) (omega arith) t.ensures.kept ∙ i.front;
    }

pub returns-then-pairs-of : goal.returns-then-pairs-of
returns-then-pairs-of c =
    let of = c.args.of in
    let r = of.rep in
    let w = c.args.work.now in
    let l = c.loop-pair in
    let i = l.invariant in
    let t = c.turn in
    let g = 2 * (r.groups / 2) in
    let at : 2 * l.pair ≡ g = omega arith in
    let e : g + 1 ≡ r.groups = omega arith in
    let n = length-alphas r of.salt.now (leaves_of r w) of.values.now of.whole (circuit_of r w) in
    let same = turn_front r g _ _ l.work w _ _ _ _ _ _ _ _ _ i.front t.ensures.turned in record {
      absorbs = absorbing-end _ (g + 1) _ _ (omega arith) (omega arith)
          (absorbing_group r.m _ (alphas-vectors r of.salt.now (leaves_of r w) of.values.now of.whole (circuit_of r w)) g (omega arith) _ _ _ (absorbing_at _ _ _ at i.absorbing) same.absorbs);
      keeps = passed_at _ _ _ _ _ _ _ _ _ _ e
          (passed_more g r.m (room_at r) _ _ _ _ _ _ _ _ _ _ _ l.work t.new.work t.ensures.kept (passed_at _ _ _ _ _ _ _ _ _ _ at i.passed) same);
      kept = part_same t.new.work l.work 0 (room_at r) (room_at r + g * (16 * r.m)) (omega arith) t.ensures.kept ∙ i.front;
    }

pub returns : goal.returns
returns c =
    let of = c.args.of in
    let r = of.rep in
    let w = c.args.work.now in
    let l = c.loop-pair in
    let i = l.invariant in
    let e : 2 * l.pair ≡ r.groups = omega arith in
    let n = length-alphas r of.salt.now (leaves_of r w) of.values.now of.whole (circuit_of r w) in
    let o = c.requires.0 in
    record { absorbs = absorbing-end _ (2 * l.pair) _ _ (omega arith) (omega arith) i.absorbing; keeps = passed_at _ _ _ _ _ _ _ _ _ _ e i.passed; kept = i.front }
