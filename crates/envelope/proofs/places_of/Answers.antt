-- `envelope::places_of` meets its contract: the places behind the header that reading gave. Assumes nothing.
use Rattle.std.proofs.Common.{arith}
use Rattle.std.proofs.lemmas.Bool.Decides.{nat_tests}
use Rattle.refusals.proofs.Numbers.{refusal_from_one}
use Rattle.envelope.specs.Envelope.{read_outcome, places_of}
use Rattle.envelope.proofs.Sizes.{read_right}
use Rattle.envelope.proofs.places_of.Goals as goal

pub places-requires : goal.places-requires
unfolding read_outcome
places-requires c = grind (arith, nat_tests, read_right, c.in-Ok.ensures)

pub returns-in-Ok : goal.returns-in-Ok
unfolding read_outcome places_of
returns-in-Ok c = grind (arith, nat_tests, c.in-Ok.ensures)

pub returns-in-Err : goal.returns-in-Err
unfolding read_outcome places_of
returns-in-Err c =
    let positive = refusal_from_one c.in-Err.field-0 in
    grind (arith, nat_tests, c.in-Err.ensures)
