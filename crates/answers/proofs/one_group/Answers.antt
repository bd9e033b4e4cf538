-- `answers::one_group` meets its contract. The words of y become every v: times the sum of all α, plus the rest, with the sum of the others in the hidden lane.
-- Assumes nothing.
use mathlib.Core.Path.{refl, sym, subst, ◌∙◌}
use mathlib.Core.List.{List}
use Prim.Native.Nat.{ℕ}
use Rattle.field.specs.Packing.{Elements}
use Rattle.marks.specs.Marks.{Marked}
use Rattle.marks.proofs.Marks.{mark_flags}
use Rattle.answers.proofs.Turning.{zeros_sized, lent_same, lent-sized, folded_same, folded_elements}
use Rattle.answers.proofs.Values.{all_answers}
use Rattle.answers.proofs.OneGroup.{some_group, alphas_packed, vs_packed}
use Rattle.answers.proofs.one_group.Goals as goal

pub add_marked-requires : goal.add_marked-requires
add_marked-requires c =
    let g = c.folds in
    (g.auto.sy ∙ c.requires.3 ∙ sym (lent-sized 121 c.args.rep.m g.new.given c.requires.0.equations g.auto.given), subst Elements (sym (lent_same 121 c.args.rep.m g.new.given c.requires.0.equations g.auto.given)) (folded_elements _ _ _ _ _ _ (g.auto.given ∙ zeros_sized 121 _ c.requires.0.equations ∙ sym c.requires.2) g.ensures.folded), mark_flags _ _ _ c.mark.ensures)

pub returns : goal.returns
returns c = λ circuit salt leaves values size held P f en em ec.
    let r = c.args.rep in
    let g = c.folds in
    let k = c.add_marked in
    all_answers r circuit salt leaves values size (some_group r c.requires.1) _ _ _
    (c.absorb_group-first.ensures _ (alphas_packed r c.requires.1 circuit salt leaves values size _ _ _ c.requires.2 c.requires.3 c.requires.4 held))
    (c.absorb_group.ensures _
    (vs_packed r c.requires.1 circuit salt leaves values size _ _ _ c.requires.2 c.requires.3 c.requires.4 held _ g.new.alpha g.new.given g.new.sy k.new.words c.mark.ensures
    (folded_same _ _ _ _ _ _ _ _ _ _ c.requires.2 refl refl refl g.ensures.folded) g.auto.sy k.auto.words g.ensures.multiplied
    (subst (λ (l : List ℕ). Marked l c.mark.result g.new.sy k.new.words) (lent_same 121 c.args.rep.m g.new.given c.requires.0.equations g.auto.given) k.ensures)))
    P f en em ec
