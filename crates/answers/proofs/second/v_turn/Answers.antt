-- `answers::second::v_turn` meets its contract. The words hold the v of the group in their lanes, so their packing is absorbed.
-- Assumes nothing.
use mathlib.Core.Path.{sym, subst}
use Rattle.answers.specs.Passes.{VWords}
use Rattle.answers.proofs.Turning.{lent_same, lent-sized, v_packs}
use Rattle.answers.proofs.second.v_turn.Goals as goal

pub returns : goal.returns
returns c = λ ys ws vs all kept.
    let f = lent-sized 121 c.args.of.rep.m c.v_words.new.y c.args.of.sized.equations c.v_words.auto.y in
    c.absorb_group.ensures _ (v_packs c.args.of.rep c.args.g _ _ _ _ ys ws vs c.requires.0 f all kept
    (subst (VWords c.args.of.rep c.args.g _ _ _) (sym (lent_same 121 c.args.of.rep.m c.v_words.new.y c.args.of.sized.equations c.v_words.auto.y)) c.v_words.ensures))
