-- `turns::values::read_target` meets its contract: t lies behind the seed, packed from a whole byte on.
-- Assumes nothing.
use mathlib.Core.Path.{ap, ◌∙◌}
use Rattle.sets.specs.Sets.{S}
use Rattle.vectors.specs.Elements.{elements_at}
use Rattle.turns.proofs.Reading.{target_read, lent-rest}
use Rattle.turns.proofs.values.read_target.Goals as goal

pub returns : goal.returns
unfolding S
returns c =
    c.read_elements.ensures
    ∙ ap (elements_at _ 0) c.requires
    ∙ target_read c.args.claim.p c.args.claim.pk.now _ (lent-rest c.args.claim.pk.now _)
