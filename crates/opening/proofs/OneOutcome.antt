-- The one public function of this crate has one outcome: its promise is an equation to a definition of the arguments for each of the two parts that it writes.
-- Assumes nothing.
use mathlib.Core.Path.{sym, ap₂, ◌∙◌}
use mathlib.Core.List.{List}
use Prim.Native.Nat.{ℕ}
use Rattle.memory.specs.Outcome.{OneOutcome}
use Rattle.opening.proofs.show_all as show-all

pub show_all_one_outcome : OneOutcome show-all.Kinds.ps show-all.Kinds.r show-all.Reads.Asked show-all.Reads.Learnt
show_all_one_outcome κs a good asked o q x y =
    ap₂ (λ (roots out : List ℕ). (tt, (tt, (tt, (tt, (roots, (out, tt)))))))
    (x.promised.1 ∙ sym y.promised.1) (x.promised.0 ∙ sym y.promised.0)
