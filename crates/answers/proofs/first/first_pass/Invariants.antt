-- `answers::first::first_pass` meets its contract. The invariant: the α of two groups for each pair are absorbed, the sums are over their parties, what was kept of them stays, and the work begins as it did.
-- Assumes nothing.
use mathlib.Core.Path.{◌≡◌}
use mathlib.Core.List.{List, flatten}
use Prim.Native.Nat.{ℕ, ◌*◌}
use lib.ListN.{take, drop}
use Rattle.field.specs.Packing.{pack}
use Rattle.answers.specs.Passes.{circuit_of, leaves_of, room_at, alphas_of, second_forms_of, rests_of, Passed}
use Rattle.answers.proofs.Absorbing.{Absorbing}
use Rattle.answers.proofs.first.first_pass.Given as goal

abbrev pub invariant-loop-pair : goal.invariant-loop-pair
invariant-loop-pair l =
    let rep = l.of.rep in
    let g : ℕ = 2 * l.pair in
    let circuit : List ℕ = circuit_of rep l.initial.work in
    let leaves : List ℕ = leaves_of rep l.initial.work in
    let salt : List ℕ = l.of.salt.now in
    let v : List ℕ = l.of.values.now in
    record {
      absorbing : Absorbing l.initial.s l.s (pack (flatten (take (16 * g) (alphas_of rep circuit salt leaves v)))) g;
      passed : Passed g rep.m (alphas_of rep circuit salt leaves v) (second_forms_of rep circuit salt leaves v) (rests_of rep circuit salt leaves v) l.sa l.sy l.sw (drop (room_at rep) l.work);
      front : take (room_at rep) l.work ≡ take (room_at rep) l.initial.work;
    }
