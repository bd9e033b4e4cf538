-- `group::correct` meets its contract. The corrections are added in the lane of party 1, first to s and then to c.
-- Assumes nothing.
use mathlib.Core.Path.{refl}
use Rattle.marks.proofs.Marks.{mark_flags}
use Rattle.group.proofs.Shares.{elements-part, corrected-shares}
use borrow.Author.Rules.{rules}
use Rattle.group.proofs.correct.Goals as goal

pub add_marked-requires : goal.add_marked-requires
add_marked-requires c = (search rules, elements-part _ _ _ c.args.of.elements, mark_flags _ _ _ c.mark-first.ensures)

pub add_marked-requires-2 : goal.add_marked-requires-2
add_marked-requires-2 c = (search rules, elements-part _ _ _ c.args.of.elements, mark_flags _ _ _ c.mark-first.ensures)

pub returns : goal.returns
returns c = λ share h.
    corrected-shares c.args.of.rep c.args.g _ _ _ _ _ _ _ c.args.of.sized c.mark-first.ensures c.requires.1 c.helper_at-c.ensures.place refl c.add_marked.auto.words c.add_marked-2.auto.words
    c.add_marked.ensures c.add_marked-2.ensures share h
