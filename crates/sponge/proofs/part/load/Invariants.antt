-- `sponge::part::load` meets its contract. The loop's invariant: `word` is the number of the first i bytes. A turn is `load_turn`.
-- Assumes nothing.
use mathlib.Core.Path.{◌≡◌}
use lib.ListN.{take}
use Rattle.sponge.specs.Sponge.{little}
use Rattle.sponge.proofs.part.load.Given as goal

abbrev pub invariant-loop-i : goal.invariant-loop-i
invariant-loop-i l = l.word ≡ little (take l.i l.bytes)
