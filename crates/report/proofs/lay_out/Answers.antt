-- `report::lay_out` meets its contract: a line that has room is put where it is written over the start. Assumes nothing.
use Rattle.std.proofs.Common.{sym, ap, ◌∙◌}
use Rattle.report.specs.Report.{refused_line, answer_line}
use Rattle.report.proofs.Lines.{put_over}
use Rattle.report.proofs.lay_out.Goals as goal

pub returns-in-Ok : goal.returns-in-Ok
returns-in-Ok c = let put = c.put_genuine.ensures in put_over _ _ c.args.line.now _ _ (ap answer_line c.in-Ok.is) c.requires put.0 put.1

pub returns-in-Err : goal.returns-in-Err
returns-in-Err c =
    let put = c.put_refused.ensures in
    put_over _ _ c.args.line.now _ _ (ap answer_line c.in-Err.is ∙ ap refused_line (sym c.number.ensures)) c.requires put.0 put.1
