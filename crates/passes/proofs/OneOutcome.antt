-- Each public function of this crate has one outcome: its promise is an equation to a definition of the arguments for the result and for each part that it writes.
-- Assumes nothing.
use mathlib.Core.Path.{sym, ap, ◌∙◌}
use mathlib.Core.List.{List}
use Prim.Native.Nat.{ℕ}
use Rattle.memory.specs.Outcome.{OneOutcome}
use Rattle.passes.proofs.commit_pass as commit-pass
use Rattle.passes.proofs.plant as plant

pub plant_one_outcome : OneOutcome plant.Kinds.ps plant.Kinds.r plant.Reads.Asked plant.Reads.Learnt
plant_one_outcome κs a good asked o q x y = ap (λ (l : List ℕ). (tt, (tt, (tt, (l, tt))))) (x.promised ∙ sym y.promised)

pub commit_pass_one_outcome : OneOutcome commit-pass.Kinds.ps commit-pass.Kinds.r commit-pass.Reads.Asked commit-pass.Reads.Learnt
commit_pass_one_outcome κs a good asked o q x y =
    let hashed = x.promised.0 ∙ sym y.promised.0 in
    let placed = x.promised.1.0 ∙ sym y.promised.1.0 in
    let planted = x.promised.1.1 ∙ sym y.promised.1.1 in
    λ i. (hashed i, (tt, (tt, (placed i, (planted i, tt)))))
