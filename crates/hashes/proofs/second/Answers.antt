-- `hashes::second` meets its contract: the first hash is absorbed behind the byte and the salt.
-- Assumes nothing.
use mathlib.Core.Path.{ap, ◌∙◌}
use Rattle.sponge.specs.declared.Sponge.{Sponge}
use Rattle.sponge.specs.Steps.{absorbed}
use Rattle.sponge.proofs.Laws.{absorbed-append}
use Rattle.hashes.proofs.second.Goals as goal

pub returns : goal.returns
returns c = c.absorb.ensures ∙ ap (λ (s : Sponge). absorbed s c.args.h1.now) c.begin.ensures ∙ absorbed-append _ _ _
