-- `vectors::put_element` meets its contract: in the low half of a byte, and in the high half.
-- Assumes nothing.
use native.Mathlib.Omega.{arith}
use Rattle.vectors.proofs.Laying.{low_put, high_put}
use Rattle.vectors.proofs.put_element.Goals as goal
use Rattle.vectors.proofs.put_element.Goals.{then-j-eq0, else-j-eq0}

pub returns : goal.returns
returns c =
    let bytes = c.args.bytes.now in
    let j = c.args.j in
    elim c.if-j-eq0.branch [
      | then-j-eq0 w ↦ rw w.bytes-is (low_put c.args.x j bytes w.if-j-eq0.true c.requires (omega arith))
      | else-j-eq0 w ↦ rw w.bytes-is (high_put c.args.x j bytes w.if-j-eq0.false c.requires (omega arith))
    ]
