-- `rep_of` has one outcome: its promise is an equation to a definition of the arguments. Assumes nothing.
use mathlib.Core.Path.{sym, ap, ◌∙◌}
use Rattle.memory.specs.Outcome.{OneOutcome}
use Rattle.group.specs.declared.Rep.{Rep}
use Rattle.reps.proofs.rep_of as rep-of

pub rep_of_one_outcome : OneOutcome rep-of.Kinds.ps rep-of.Kinds.r rep-of.Reads.Asked rep-of.Reads.Learnt
rep_of_one_outcome κs a good asked o q x y = ap (λ (r : Rep). (r, (tt, (tt, (tt, tt))))) (x.promised ∙ sym y.promised)
