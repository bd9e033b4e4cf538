-- `answers::second::finish` meets its contract. The sums are folded, and every v is absorbed with what they give.
-- Assumes nothing.
use mathlib.Core.Path.{refl, sym, subst, ◌∙◌}
use Rattle.field.specs.Packing.{Elements}
use Rattle.answers.proofs.Turning.{zeros_sized, lent_same, lent-sized, folded_elements, folded_same, vs-same}
use Rattle.answers.proofs.second.finish.Goals as goal

pub invariant_of-of : goal.invariant_of-of
invariant_of-of c =
    let m = c.args.rep.m in
    let few = c.requires.0.equations in
    let f = c.folds in record {
      sized = c.requires.0;
      whole = lent-sized 121 m f.new.alpha few f.auto.alpha;
      given_whole = lent-sized 121 m f.new.given few f.auto.given;
      elements = subst Elements (sym (lent_same 121 m f.new.given few f.auto.given)) (folded_elements _ _ _ _ _ _ (f.auto.given ∙ zeros_sized 121 _ few ∙ sym c.requires.2) f.ensures.folded);
    }

pub returns : goal.returns
returns c = λ ys ws vs all kept.
    c.second_pass.ensures ys ws vs
    (vs-same _ _ _ _ _ ys ws vs (lent_same 121 c.args.rep.m c.folds.new.alpha c.requires.0.equations c.folds.auto.alpha) (lent_same 121 c.args.rep.m c.folds.new.given c.requires.0.equations c.folds.auto.given) (all _ _ (folded_same _ _ _ _ _ _ _ _ _ _ c.requires.2 refl refl refl c.folds.ensures.folded))) kept
