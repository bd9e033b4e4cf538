-- `turning::pack::write_windows` meets its contract. The invariant: the elements below 16 o stand in the bytes, 16 o is the place of element k of party q,
-- and what lies behind the bytes to write is kept.
-- Assumes nothing.
use mathlib.Core.Path.{◌≡◌}
use Prim.Native.Nat.{◌+◌, ◌*◌, ◌<◌}
use lib.ListN.{length, drop}
use Rattle.turning.proofs.Windows.{PackedTo}
use Rattle.turning.proofs.pack.write_windows.Given as goal

abbrev pub invariant-loop-o : goal.invariant-loop-o
invariant-loop-o l =
    (length l.out ≡ length l.initial.out) × (l.k < l.m) × (16 * l.o ≡ l.m * l.q + l.k)
    × PackedTo (16 * l.o) l.words l.out × (drop (8 * l.m) l.out ≡ drop (8 * l.m) l.initial.out)
