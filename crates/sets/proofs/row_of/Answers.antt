-- `sets::row_of` meets its contract: each row has what the formulas say; a number past the table has the row of number 0, which the check finds by `no_such_row`.
-- Assumes nothing.
use Rattle.sets.proofs.Laws.{table_row}
use Rattle.sets.proofs.row_of.Goals as goal

pub returns-then-set-lt7 : goal.returns-then-set-lt7
returns-then-set-lt7 c = table_row c.args.set _ c.if-set-lt7.true
