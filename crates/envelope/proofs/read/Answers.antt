-- `envelope::read` meets its contract: an envelope of three bytes or more has the number of its header and length. Assumes nothing.
use Rattle.std.proofs.Common.{arith}
use Rattle.std.proofs.lemmas.Bool.Decides.{nat_tests}
use Rattle.std.proofs.lemmas.Result.{err_from_is_err_and}
use Rattle.refusals.proofs.Numbers.{refusal_from_one}
use Rattle.envelope.specs.Envelope.{read_number, read_outcome}
use Rattle.envelope.proofs.Outcomes.{headed}
use Rattle.envelope.proofs.read.Goals as goal

pub returns-in_default : goal.returns-in_default
unfolding read_outcome read_number
returns-in_default c = grind (arith, nat_tests)

pub returns-in_err-check : goal.returns-in_err-check
unfolding read_outcome read_number
returns-in_err-check c =
    let p = err_from_is_err_and c.from_residual.result c.from_residual.ensures.1 in
    let same = headed c.args.envelope.now c.in-len3-up.len_at_least in
    let positive = refusal_from_one c.in_err-check.field-0.0 in
    rw (p.1, p.2) (grind (arith, nat_tests, c.in_err-check.ensures))

pub returns : goal.returns
unfolding read_outcome read_number
returns c =
    let same = headed c.args.envelope.now c.in-len3-up.len_at_least in
    grind (arith, nat_tests, c.in_ok-check.ensures)
