-- `answers::second::v_words` meets its contract. y and the rest are read back, multiplied and added, and the hidden v is put in.
-- Assumes nothing.
use mathlib.Core.Path.{refl}
use Rattle.marks.proofs.Marks.{mark_flags}
use Rattle.answers.proofs.Turning.{v_words_lem}
use borrow.Author.Rules.{rules}
use Rattle.answers.proofs.second.v_words.Goals as goal

pub add_marked-requires : goal.add_marked-requires
add_marked-requires c = (search rules, c.args.of.elements, mark_flags _ _ _ c.mark-hide.ensures)

pub returns : goal.returns
returns c =
    v_words_lem c.args.of.rep c.args.g _ _ _ _ _ _ _ _ _ _ _ _ refl refl c.mark-hide.ensures c.requires.2 c.requires.3 c.load_words.auto.words c.multiply_add.auto.words
    c.load_words.ensures c.load_words-2.ensures c.multiply_add.ensures c.add_marked.ensures
