-- `answers::first::turn_two` meets its contract. The two groups are worked out together, and then taken one after the other.
-- Assumes nothing.
use Prim.Native.Nat.{◌+◌}
use Rattle.answers.specs.Passes.{circuit_of, leaves_of, room_at}
use Rattle.answers.proofs.Turning.{lent_same, answers_same}
use Rattle.answers.proofs.Work.{two_turns, two_front}
use Rattle.answers.proofs.first.turn_two.Goals as goal

pub returns : goal.returns
returns c =
    let r = c.args.of.rep in
    let w = c.args.work.now in
    let g = c.groups_of in
    let t = c.taken_at-first in
    let u = c.taken_at in record {
      turned = two_turns c.args.g r.m (room_at r) _ _ _ _ _ _ _ _ _ _ _ _ t.new.work u.new.work _ _ _ u.ensures.kept
          (t.ensures.turned (circuit_of r w) c.args.of.salt.now (leaves_of r w) c.args.of.values.now c.args.of.whole
          (answers_same r c.args.g _ _ _ _ _ _ _ _ _ (lent_same 121 c.args.of.rep.m g.new.x c.args.of.sized.equations g.auto.x) (lent_same 121 c.args.of.rep.m g.new.y c.args.of.sized.equations g.auto.y) (lent_same 121 c.args.of.rep.m g.new.z c.args.of.sized.equations g.auto.z) g.ensures.first))
          (u.ensures.turned (circuit_of r w) c.args.of.salt.now (leaves_of r w) c.args.of.values.now c.args.of.whole
          (answers_same r (c.args.g + 1) _ _ _ _ _ _ _ _ _ (lent_same 121 c.args.of.rep.m g.new.x2 c.args.of.sized.equations g.auto.x2) (lent_same 121 c.args.of.rep.m g.new.y2 c.args.of.sized.equations g.auto.y2) (lent_same 121 c.args.of.rep.m g.new.z2 c.args.of.sized.equations g.auto.z2) g.ensures.second));
      kept = two_front c.args.g r.m (room_at r) w t.new.work u.new.work u.ensures.kept t.ensures.kept;
    }
