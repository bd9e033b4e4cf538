-- `sponge::shake256` meets its contract: the four steps are SHAKE256 of the standard's blocks, by `given-shake256`.
-- Assumes nothing.
use mathlib.Core.Path.{ap, ◌∙◌}
use lib.ListN.{length}
use Rattle.sponge.specs.declared.Sponge.{Sponge}
use Rattle.sponge.specs.declared.Tape.{Tape}
use Rattle.sponge.specs.Steps.{absorbed, finished, given}
use Rattle.sponge.proofs.Laws.{given-shake256}
use Rattle.sponge.proofs.shake256.Goals as goal

pub returns : goal.returns
returns c =
    let message = c.args.message.now in
    let n = length c.args.out.now in
    c.squeeze.ensures.0
    ∙ ap (λ (t : Tape). given t n) (c.finish.ensures ∙ ap finished (c.absorb.ensures ∙ ap (λ (s : Sponge). absorbed s message) c.new.ensures))
    ∙ given-shake256 message n
