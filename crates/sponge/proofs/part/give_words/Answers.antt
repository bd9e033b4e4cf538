-- `sponge::part::give_words` meets its contract. The loop's invariant: the first j words of `out` are given. A turn is `given_words_turn`.
-- Assumes nothing.
use mathlib.Core.Path.{refl, ◌∙◌}
use native.Mathlib.Omega.{arith}
use Rattle.memory.specs.Lists.{table}
use Rattle.sponge.specs.Steps.{bytes_from}
use Rattle.sponge.proofs.Lanes.{given_words_turn}
use Rattle.sponge.proofs.part.give_words.Goals as goal

pub loop-j-init : goal.loop-j-init
unfolding bytes_from table
loop-j-init c = refl

pub loop-j-preserved : goal.loop-j-preserved
loop-j-preserved c =
    given_words_turn _ c.args.k c.loop-j.out c.loop-j.j _ _ (omega arith) c.loop-j.invariant (c.copy_from_slice.ensures.after ∙ c.to_le_bytes-word.ensures)
