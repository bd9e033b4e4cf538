-- `group::alpha_words` meets its contract. Multiplied, cleared in the hidden lane, and the given α put in there.
-- Assumes nothing.
use mathlib.Core.Path.{refl}
use Rattle.marks.proofs.Marks.{mark_flags}
use Rattle.group.proofs.Shares.{elements-part}
use Rattle.group.proofs.Answers.{alpha_words_lem}
use borrow.Author.Rules.{rules}
use Rattle.group.proofs.alpha_words.Goals as goal

pub clear_marked-requires : goal.clear_marked-requires
clear_marked-requires c = mark_flags _ _ _ c.mark-hide.ensures

pub add_marked-requires : goal.add_marked-requires
add_marked-requires c = (search rules, elements-part _ _ _ c.args.of.elements, mark_flags _ _ _ c.mark-hide.ensures)

pub returns : goal.returns
returns c =
    alpha_words_lem c.args.of.rep c.args.g _ _ _ _ _ _ c.mark-hide.ensures refl refl refl refl _ _ _ _ _ c.multiply_add.auto.words c.clear_marked.auto.words
    c.multiply_add.ensures c.clear_marked.ensures c.add_marked.ensures
