-- `report::put_refused` meets its contract: the word, the number and the end, each behind the one before. Assumes nothing.
use Rattle.report.specs.Report.{refused_word}
use Rattle.report.proofs.Lines.{refused_laid}
use Rattle.report.proofs.put_refused.Goals as goal

pub returns : goal.returns
unfolding refused_word
returns c =
    refused_laid c.args.line.now c.args.number c.requires
    c.put_bytes-a.new.line c.put_decimal-e.new.line c.put_bytes.new.line
    c.put_bytes-a.result c.put_decimal-e.result c.put_bytes.result
    c.put_bytes-a.ensures.0 c.put_bytes-a.ensures.1
    (rw c.from.ensures at c.put_decimal-e.ensures.0) (rw c.from.ensures at c.put_decimal-e.ensures.1)
    c.put_bytes.ensures.0 c.put_bytes.ensures.1
