-- `sponge::part::xor_words` meets its contract. The loop's invariant: the first j words are xored in. A turn is `words_turn`.
-- Assumes nothing.
use mathlib.Core.Path.{◌≡◌}
use Prim.Native.Nat.{◌*◌}
use lib.ListN.{take}
use Rattle.sponge.specs.Steps.{xor_bytes}
use Rattle.sponge.proofs.part.xor_words.Given as goal

abbrev pub invariant-loop-j : goal.invariant-loop-j
invariant-loop-j l = l.lanes ≡ xor_bytes l.initial.lanes (8 * l.k) (take (8 * l.j) l.bytes)
