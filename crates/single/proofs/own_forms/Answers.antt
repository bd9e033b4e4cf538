-- `single::own_forms` meets its contract: the linear forms, and at party 1 with the constants.
-- Assumes nothing.
use mathlib.Core.Path.{◌∙◌}
use Rattle.single.proofs.Alpha.{forms_first, forms_other}
use Rattle.single.proofs.own_forms.Goals as goal

pub returns-then-i-eq1 : goal.returns-then-i-eq1
returns-then-i-eq1 c =
    let rep = c.args.rep in
    forms_first c.args.i rep.n rep.m c.args.circuit.now c.args.s.now _ _ c.if-i-eq1.true (c.first_forms.auto.out ∙ c.requires.3) c.first_forms.ensures c.add_elements.ensures

pub returns : goal.returns
returns c = let rep = c.args.rep in forms_other c.args.i rep.n rep.m c.args.circuit.now c.args.s.now _ c.if-i-eq1.false c.first_forms.ensures
