-- The one public function of this crate has one outcome: its promise is an equation to a definition of the arguments.
-- Assumes nothing.
use mathlib.Core.Path.{sym, ap, ◌∙◌}
use Prim.Native.Nat.{ℕ}
use Rattle.memory.specs.Outcome.{OneOutcome}
use Rattle.parties.proofs.count as count

pub count_one_outcome : OneOutcome count.Kinds.ps count.Kinds.r count.Reads.Asked count.Reads.Learnt
count_one_outcome κs a good asked o q x y = ap (λ (z : ℕ). (z, (tt, tt))) (x.promised ∙ sym y.promised)
