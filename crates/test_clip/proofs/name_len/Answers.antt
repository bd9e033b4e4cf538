-- `test_clip::name_len` meets its contract: a place in the column lies before its end. Assumes nothing.
use Rattle.std.proofs.Common.{sym, arith, length-take-le}
use Rattle.test_clip.proofs.name_len.Goals as goal

pub slice_bounds-iter-end : goal.slice_bounds-iter-end
slice_bounds-iter-end c = sym (length-take-le 48 c.args.case.now (omega arith))

pub returns-in-Some : goal.returns-in-Some
returns-in-Some c =
    let whole = length-take-le 48 c.args.case.now (omega arith) in
    omega (arith, c.in-Some.ensures.bound, c.iter.ensures.len)
