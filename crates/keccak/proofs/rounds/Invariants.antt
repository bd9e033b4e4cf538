-- `keccak::rounds` meets its contract. The invariant: after i turns the lanes, but for those that are turned over, are those of the first 2i rounds.
-- The constants of a turn are those of its rounds by the rule of the table. Assumes nothing.
use mathlib.Core.Path.{◌≡◌}
use Prim.Native.Nat.{◌*◌}
use Rattle.keccak.specs.Keccak as spec
use Rattle.keccak.specs.Lanes.{listed, turned, kept}
use Rattle.keccak.proofs.rounds.Given as goal

abbrev pub invariant-loop-i : goal.invariant-loop-i
invariant-loop-i l = turned kept (listed l.s) ≡ spec.rounds (2 * l.i) (turned kept (listed l.initial.s))
