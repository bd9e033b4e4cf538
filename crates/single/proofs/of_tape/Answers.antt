-- `single::of_tape` meets its contract: the party's share, the forms A1 there, and these times the challenge plus its mask.
-- Assumes nothing.
use mathlib.Core.Path.{ap, ◌∙◌}
use Rattle.forms.specs.Circuit.{forms_of}
use Rattle.forms.specs.Room.{affine_in}
use Rattle.group.proofs.Shares.{packed_is}
use Rattle.single.proofs.Alpha.{delta_lent, challenge-lent, alpha_parts, front-lent, front-length}
use Rattle.single.proofs.of_tape.Goals as goal

pub returns : goal.returns
returns c =
    let rep = c.args.rep in
    let i = c.args.i in
    let v = c.args.values.now in
    let circuit = c.args.circuit.now in
    let small = c.requires.0.variables in
    alpha_parts rep i circuit v c.args.tape.now _ _ _ _ _ _ _ _ (front-length _ _ small) (c.own_forms.auto.out ∙ c.requires.3) (packed_is _ _ c.div_ceil.ensures) (delta_lent rep v) (challenge-lent rep v)
    c.own_share.ensures (c.own_forms.ensures ∙ ap (forms_of i (affine_in rep.n rep.m circuit)) (front-lent _ _ _ rep.n small c.own_share.auto.s)) c.answer.ensures
