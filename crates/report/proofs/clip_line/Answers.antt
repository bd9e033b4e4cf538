-- `report::clip_line` meets its contract: what was read is a part of the input, and work has the 65,536 bytes that verifying needs. Assumes nothing.
use Rattle.std.proofs.Common.{ap, ◌∙◌, List, ℕ, length, take, arith}
use lib.ListN.{length-replicate}
use Rattle.memory.specs.Lists.{over}
use Rattle.refusals.proofs.Refusals.{work_length_is}
use Rattle.report.specs.Report.{clip_line}
use Rattle.report.proofs.Clips.{line_fits, part_read}
use Rattle.report.proofs.clip_line.Goals as goal

pub genuine_header-answer-requires : goal.genuine_header-answer-requires
genuine_header-answer-requires c =
    let size = length-replicate {A = ℕ} 65536 0 in
    let enough = work_length_is in
    omega arith

pub lay_out-requires : goal.lay_out-requires
lay_out-requires c =
    let e = ap length c.genuine_header-answer.ensures.line in
    let f = line_fits (take c.lesser.result c.args.input.now) in
    omega arith

pub returns : goal.returns
returns c =
    let w = c.lay_out in
    let l = c.lesser in
    let same = c.genuine_header-answer.ensures.line ∙ ap clip_line (part_read c.args.n l.result 65536 c.args.input.now (omega (arith, c.well_formed)) l.ensures) in
    (w.ensures.0 ∙ ap length same, w.ensures.1 ∙ ap (λ (x : List ℕ). over x c.args.line.now) same)
