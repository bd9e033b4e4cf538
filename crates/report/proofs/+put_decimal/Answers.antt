-- `report::put_decimal` meets its contract: one digit, or the digits of the tenth and one more. Assumes nothing.
use native.Mathlib.Omega.{arith}
use lib.ListN.{length}
use Rattle.report.proofs.Digits.{room_of_tenth, one-room, one_place, one-put, last-room, last-place, last-put}
use Rattle.report.proofs.+put_decimal.Goals as goal

pub bounds-line-at : goal.bounds-line-at
bounds-line-at t c = one-room c.args.n c.args.at c.args.line.now c.requires c.if-n-lt10.true

pub returns-then-n-lt10 : goal.returns-then-n-lt10
returns-then-n-lt10 t c =
    (one_place c.args.n c.args.at c.args.line.now c.requires c.if-n-lt10.true, one-put c.args.n c.args.at c.args.line.now c.requires c.if-n-lt10.true)

pub put_decimal-last-requires : goal.put_decimal-last-requires
put_decimal-last-requires t c =
    let m = c.decreases in
    let h = c.if-n-lt10.false in
    let r = room_of_tenth c.args.n c.args.at (length c.args.line.now) h c.requires in
    (omega arith, omega arith)

pub bounds-line-last : goal.bounds-line-last
bounds-line-last t c =
    let w = c.put_decimal-last in
    last-room c.args.n c.args.at c.args.line.now c.requires c.if-n-lt10.false w.result w.new.line w.ensures.0 w.ensures.1

pub overflow_add-result-2 : goal.overflow_add-result-2
overflow_add-result-2 t c =
    let w = c.put_decimal-last in
    let r = last-room c.args.n c.args.at c.args.line.now c.requires c.if-n-lt10.false w.result w.new.line w.ensures.0 w.ensures.1 in
    let k = w.auto.line in
    omega arith

pub returns : goal.returns
returns t c =
    let w = c.put_decimal-last in (
      last-place c.args.n c.args.at c.args.line.now c.requires c.if-n-lt10.false w.result w.new.line w.ensures.0 w.ensures.1,
      last-put c.args.n c.args.at c.args.line.now c.requires c.if-n-lt10.false w.result w.new.line w.ensures.0 w.ensures.1,
    )
