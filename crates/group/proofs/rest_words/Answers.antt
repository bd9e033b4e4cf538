-- `group::rest_words` meets its contract. The target added but at party 1, then multiplied, and cleared in the hidden lane.
-- Assumes nothing.
use mathlib.Core.Path.{refl}
use Rattle.marks.proofs.Marks.{mark_flags, others_flags}
use Rattle.group.proofs.Shares.{elements-part}
use Rattle.group.proofs.Answers.{rest_words_lem}
use borrow.Author.Rules.{rules}
use Rattle.group.proofs.rest_words.Goals as goal

pub add_marked-requires : goal.add_marked-requires
add_marked-requires c = (search rules, elements-part _ _ _ c.args.of.elements, others_flags _ _ _ c.mark-others.ensures)

pub clear_marked-requires : goal.clear_marked-requires
clear_marked-requires c = mark_flags _ _ _ c.mark.ensures

pub returns : goal.returns
returns c =
    rest_words_lem c.args.of.rep c.args.g _ _ _ _ _ _ c.mark.ensures refl refl refl refl _ _ _ _ _ _ c.mark-others.ensures c.add_marked.auto.words c.multiply_add.auto.words
    c.add_marked.ensures c.multiply_add.ensures c.clear_marked.ensures
