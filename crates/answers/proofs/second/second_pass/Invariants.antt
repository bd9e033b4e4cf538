-- `answers::second::second_pass` meets its contract. The invariant: the v of g groups are absorbed.
-- Assumes nothing.
use mathlib.Core.List.{List, flatten}
use Prim.Native.Nat.{ℕ, ◌*◌, ◌<◌}
use lib.ListN.{take, drop}
use Rattle.field.specs.Packing.{pack}
use Rattle.answers.specs.Passes.{VsOf, HoldsGroup}
use Rattle.answers.proofs.Absorbing.{Absorbing}
use Rattle.answers.proofs.second.second_pass.Given as goal

abbrev pub invariant-loop-g : goal.invariant-loop-g
invariant-loop-g l = (ys ws vs : List (List ℕ)) → VsOf l.of.rep l.of.alpha.now l.of.given.now ys ws vs → ((h : ℕ) → h < l.of.rep.groups → HoldsGroup h l.of.rep.m ys ws (take (16 * l.of.rep.m) (drop (h * (16 * l.of.rep.m)) l.room)))
    → Absorbing l.initial.s l.s (pack (flatten (take (16 * l.g) vs))) l.g
