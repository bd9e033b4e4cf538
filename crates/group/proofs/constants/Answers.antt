-- `group::constants` meets its contract: at party 1 the constants of each table are added.
-- Assumes nothing.
use native.Mathlib.Omega.{arith}
use Rattle.marks.proofs.Marks.{mark_flags}
use Rattle.group.proofs.Answers.{parts_held}
use borrow.Author.Rules.{rules}
use Rattle.group.proofs.constants.Goals as goal

pub add_constants-requires : goal.add_constants-requires
add_constants-requires c = (search rules, mark_flags _ _ _ c.mark-first.ensures)

pub add_constants-requires-2 : goal.add_constants-requires-2
add_constants-requires-2 c = (omega arith, mark_flags _ _ _ c.mark-first.ensures)

pub add_constants-requires-3 : goal.add_constants-requires-3
add_constants-requires-3 c = (omega arith, mark_flags _ _ _ c.mark-first.ensures)

pub returns : goal.returns
returns c = λ share h.
    parts_held c.args.g _ c.args.rep.m c.mark-first.ensures share c.args.rep.n _ _ _ _ _ _ _ _ c.table-size.ensures.bytes
    c.requires.3 c.requires.4 c.requires.5 c.add_constants.auto.words c.add_constants-2.auto.words c.add_constants-3.auto.words
    h c.add_constants.ensures c.add_constants-2.ensures c.add_constants-3.ensures
