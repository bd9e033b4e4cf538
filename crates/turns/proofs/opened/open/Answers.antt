-- `turns::opened::open` gives what it says: the party by its byte, and the values as they are read.
-- Assumes nothing.
use mathlib.Core.Path.{◌∙◌}
use Rattle.turns.proofs.Reading.{values_read}
use Rattle.turns.proofs.opened.open.Goals as goal

pub invariant_of-result : goal.invariant_of-result
invariant_of-result c =
    let r = c.args.repetition in
    let all = c.requires.1 in record {
      hides = c.hidden_party-party.ensures ∙ all.hidden r.e r.from_one r.within;
      holds = values_read r _ _ c.read_values.ensures (all.challenge r.e r.from_one r.within);
    }
