-- `sponge::part::load` meets its contract. The loop's invariant: `word` is the number of the first i bytes. A turn is `load_turn`.
-- Assumes nothing.
use mathlib.Core.Path.{refl}
use native.Mathlib.Omega.{arith}
use Rattle.sponge.specs.Sponge.{little}
use Rattle.sponge.proofs.Words.{load_turn}
use Rattle.sponge.proofs.part.load.Goals as goal

pub loop-i-init : goal.loop-i-init
unfolding little
loop-i-init c = refl

pub loop-i-preserved : goal.loop-i-preserved
loop-i-preserved c =
    let l = c.loop-i in
    load_turn c.args.bytes.now l.i _ _ c.loop-i-test.true l.invariant c.from.ensures (omega arith) c.requires
