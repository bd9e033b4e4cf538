-- `group::after_forms` meets its contract. The constants are added to the forms, and then α, y and the rest come from them.
-- Assumes nothing.
use mathlib.Core.Path.{refl, ◌∙◌}
use Rattle.marks.proofs.Marks.{mark_flags}
use Rattle.group.proofs.Answers.{answers_held}
use Rattle.group.proofs.after_forms.Goals as goal

pub clear_marked-requires : goal.clear_marked-requires
clear_marked-requires c = mark_flags _ _ _ c.mark.ensures

pub returns : goal.returns
returns c = λ share h forms.
    let k = c.constants in
    let a = c.alpha_words in
    let y = c.clear_marked in
    let z = c.rest_words in
    answers_held c.args.of.rep c.args.g _ _ _ _ share _ _ _ _ _ _ _ _ _ _ c.mark.ensures c.mask_at-a.ensures.place refl c.helper_at-c.ensures.place refl
    (k.auto.x ∙ c.requires.3) (k.auto.y ∙ c.requires.4) (k.auto.z ∙ c.requires.5) a.auto.x y.auto.words z.auto.z
    h (k.ensures (λ q. (share q).s) forms) a.ensures y.ensures z.ensures
