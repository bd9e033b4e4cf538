-- `turns::values::read_alpha` meets its contract: the α of all repetitions lie behind all corrections.
-- Assumes nothing.
use mathlib.Core.Path.{ap, ◌∙◌}
use Rattle.vectors.specs.Elements.{elements_at}
use Rattle.turns.proofs.Reading.{alpha_read}
use Rattle.turns.proofs.values.read_alpha.Goals as goal

pub returns : goal.returns
returns c =
    let r = c.args.repetition in
    c.read_elements.ensures
    ∙ ap (elements_at _ _) c.requires
    ∙ alpha_read r.claim.p r.claim.signature.now r.e r.from_one r.within _ c.packing.ensures
