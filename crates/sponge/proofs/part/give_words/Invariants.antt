-- `sponge::part::give_words` meets its contract. The loop's invariant: the first j words of `out` are given. A turn is `given_words_turn`.
-- Assumes nothing.
use mathlib.Core.Path.{◌≡◌}
use Prim.Native.Nat.{◌*◌}
use lib.ListN.{take}
use Rattle.sponge.specs.Steps.{bytes_from}
use Rattle.sponge.proofs.part.give_words.Given as goal

abbrev pub invariant-loop-j : goal.invariant-loop-j
invariant-loop-j l = take (8 * l.j) l.out ≡ bytes_from l.lanes (8 * l.k) (8 * l.j)
