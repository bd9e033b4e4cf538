-- The one public function of this crate has one outcome: its promise has an equation to a definition of the arguments for the count and one for the line.
-- Assumes nothing.
use mathlib.Core.Path.{sym, ap₂, ◌∙◌}
use mathlib.Core.List.{List}
use Prim.Native.Nat.{ℕ}
use Rattle.memory.specs.Outcome.{OneOutcome}
use Rattle.report.proofs.clip_line as clip-line

pub clip_line_one_outcome : OneOutcome clip-line.Kinds.ps clip-line.Kinds.r clip-line.Reads.Asked clip-line.Reads.Learnt
clip_line_one_outcome κs a good asked o q x y =
    ap₂ (λ (count : ℕ) (line : List ℕ). (count, (tt, (tt, (line, tt))))) (x.promised.0 ∙ sym y.promised.0) (x.promised.1 ∙ sym y.promised.1)
