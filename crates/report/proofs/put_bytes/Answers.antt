-- `report::put_bytes` meets its contract: the part is lent, and comes back holding the bytes. Assumes nothing.
use Rattle.std.proofs.Common.{refl, ap, ◌∙◌, arith}
use Rattle.memory.proofs.Parts.{back, lent-put}
use Rattle.report.proofs.put_bytes.Goals as goal

pub returns : goal.returns
returns c =
    let a = c.args in
    (refl, ap (back a.line.now a.at _) c.copy_from_slice.ensures.after ∙ lent-put a.line.now a.at _ a.bytes.now (omega arith))
