-- `sponge::Tape::squeeze` meets its contract. The loop's invariant: the first i bytes of `out` are given, and the tape is the one behind them.
-- A turn gives as many bytes as the block has, which `squeeze_given` and `squeeze_moved` show to be the next ones. The measure is what is left of `out`.
-- Assumes nothing.
use mathlib.Core.Path.{◌≡◌}
use Prim.Native.Nat.{◌≤◌, ◌-◌}
use lib.ListN.{length, take}
use Rattle.sponge.specs.Steps.{tape, given, moved}
use Rattle.sponge.proofs.Tape.squeeze.Given as goal

abbrev pub invariant-loop-i : goal.invariant-loop-i
invariant-loop-i l =
    (l.i ≤ length l.out) × (take l.i l.out ≡ given (tape l.initial.lanes l.initial.at) l.i) × (tape l.lanes l.at ≡ moved (tape l.initial.lanes l.initial.at) l.i)

abbrev pub decreases-loop-i : goal.decreases-loop-i
decreases-loop-i l = length l.initial.out - l.i
