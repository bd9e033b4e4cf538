-- `report::put_genuine` meets its contract: the word, the set, a space, the length and the end, each behind the one before. Assumes nothing.
use Rattle.report.specs.Report.{genuine_word}
use Rattle.report.proofs.Lines.{genuine_laid}
use Rattle.report.proofs.put_genuine.Goals as goal

pub returns : goal.returns
unfolding genuine_word
returns c =
    genuine_laid c.args.line.now c.args.h c.requires
    c.put_bytes-a.new.line c.put_decimal-b.new.line c.put_bytes-d.new.line c.put_decimal-e.new.line c.put_bytes.new.line
    c.put_bytes-a.result c.put_decimal-b.result c.put_bytes-d.result c.put_decimal-e.result c.put_bytes.result
    c.put_bytes-a.ensures.0 c.put_bytes-a.ensures.1
    c.put_decimal-b.ensures.0 c.put_decimal-b.ensures.1
    c.put_bytes-d.ensures.0 c.put_bytes-d.ensures.1
    c.put_decimal-e.ensures.0 c.put_decimal-e.ensures.1
    c.put_bytes.ensures.0 c.put_bytes.ensures.1
