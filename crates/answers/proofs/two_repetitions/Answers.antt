-- `answers::two_repetitions` meets its contract. Both groups are worked out together, and the answers of each are absorbed.
-- Assumes nothing.
use mathlib.Core.Path.{sym, ap, ◌∙◌}
use Rattle.sponge.specs.declared.Sponge.{Sponge}
use Rattle.sponge.specs.Steps.{absorbed}
use Rattle.answers.specs.Answers.{shares_of, answered}
use Rattle.answers.proofs.Turning.{lent_same, answers_same}
use Rattle.answers.proofs.OneGroup.{circuit_for}
use Rattle.answers.proofs.two_repetitions.Goals as goal

pub returns : goal.returns
returns c = λ P f en em ec.
    let r = c.args.rep in
    let o = c.args.other in
    let g = c.two_groups in
    let circuit = c.args.circuit.now in
    let salt = c.args.salt.now in
    c.one_group.ensures circuit salt c.args.others.now c.args.more.now c.requires.9
    (answers_same o 0 _ _ _ _ _ _ _ _ _ (lent_same 121 c.args.rep.m g.new.x2 c.requires.0.equations g.auto.x2) (lent_same 121 c.args.rep.m g.new.y2 c.requires.0.equations g.auto.y2) (lent_same 121 c.args.rep.m g.new.z2 c.requires.0.equations g.auto.z2) g.ensures.second)
    P f (en ∙ sym c.requires.4) (em ∙ sym c.requires.5) (circuit_for r.n r.m o.n o.m f circuit c.requires.4 c.requires.5 ec)
    ∙ ap (λ (t : Sponge). absorbed t (answered f o c.args.more.now (shares_of P o salt c.args.others.now c.args.more.now)))
    (c.one_group-first.ensures circuit salt c.args.leaves.now c.args.values.now c.requires.7
    (answers_same r 0 _ _ _ _ _ _ _ _ _ (lent_same 121 c.args.rep.m g.new.x c.requires.0.equations g.auto.x) (lent_same 121 c.args.rep.m g.new.y c.requires.0.equations g.auto.y) (lent_same 121 c.args.rep.m g.new.z c.requires.0.equations g.auto.z) g.ensures.first)
    P f en em ec)
