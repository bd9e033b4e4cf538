-- `answers::first::turn` meets its contract. The group is worked out, and then taken at its place.
-- Assumes nothing.
use Rattle.answers.specs.Passes.{circuit_of, leaves_of}
use Rattle.answers.proofs.Turning.{lent_same, answers_same}
use Rattle.answers.proofs.first.turn.Goals as goal

pub returns : goal.returns
returns c =
    let r = c.args.of.rep in
    let w = c.args.work.now in
    let g = c.group_of in
    let t = c.taken_at in record {
      turned = t.ensures.turned (circuit_of r w) c.args.of.salt.now (leaves_of r w) c.args.of.values.now c.args.of.whole
          (answers_same r c.args.g _ _ _ _ _ _ _ _ _ (lent_same 121 c.args.of.rep.m g.new.x c.args.of.sized.equations g.auto.x) (lent_same 121 c.args.of.rep.m g.new.y c.args.of.sized.equations g.auto.y) (lent_same 121 c.args.of.rep.m g.new.z c.args.of.sized.equations g.auto.z) g.ensures);
      kept = t.ensures.kept;
    }
