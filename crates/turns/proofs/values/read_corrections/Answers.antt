-- `turns::values::read_corrections` meets its contract: Δs and Δc of a repetition lie side by side.
-- Assumes nothing.
use mathlib.Core.Path.{ap, ◌∙◌}
use Rattle.vectors.specs.Elements.{elements_at}
use Rattle.turns.proofs.Reading.{corrections_read}
use Rattle.turns.proofs.values.read_corrections.Goals as goal

pub returns : goal.returns
returns c =
    let r = c.args.repetition in
    c.read_elements.ensures
    ∙ ap (elements_at _ _) c.requires
    ∙ corrections_read r.claim.p r.claim.signature.now r.e r.from_one r.within _ c.packing.ensures
