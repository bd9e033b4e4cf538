-- Each public function of this crate has one outcome: its promise is an equation to a definition of the arguments, for the sponge that it hands back and for each part that it writes.
-- Assumes nothing.
use mathlib.Core.Path.{sym, ap, ap₂, ◌∙◌}
use mathlib.Core.List.{List}
use Prim.Native.Nat.{ℕ}
use Rattle.memory.specs.Outcome.{OneOutcome}
use Rattle.sponge.specs.declared.Sponge.{Sponge}
use Rattle.views.proofs.repetition_first as repetition-first
use Rattle.views.proofs.leaves.Leaves.commit_all as commit-all
use Rattle.views.proofs.leaves.Leaves.sum_tapes as sum-tapes
use Rattle.views.proofs.corrections as corrections
use Rattle.views.proofs.absorb_corrections as absorb-corrections

pub repetition_first_one_outcome : OneOutcome repetition-first.Kinds.ps repetition-first.Kinds.r repetition-first.Reads.Asked repetition-first.Reads.Learnt
repetition_first_one_outcome κs a good asked o q x y =
    ap₂ (λ (s : Sponge) (l : List ℕ × List ℕ). (s, (tt, (tt, (tt, (tt, (tt, (tt, (tt, (l.0, (l.1, tt)))))))))))
    (x.promised.hashed ∙ sym y.promised.hashed)
    (ap₂ (λ (ds dc : List ℕ). (ds, dc)) (x.promised.secret ∙ sym y.promised.secret) (x.promised.helper ∙ sym y.promised.helper))

pub commit_all_one_outcome : OneOutcome commit-all.Kinds.ps commit-all.Kinds.r commit-all.Reads.Asked commit-all.Reads.Learnt
commit_all_one_outcome κs a good asked o q x y =
    ap (λ (s : Sponge). (s, (tt, (tt, (tt, tt))))) (x.promised ∙ sym y.promised)

pub sum_tapes_one_outcome : OneOutcome sum-tapes.Kinds.ps sum-tapes.Kinds.r sum-tapes.Reads.Asked sum-tapes.Reads.Learnt
sum_tapes_one_outcome κs a good asked o q x y =
    ap (λ (l : List ℕ). (tt, (tt, (l, tt)))) (x.promised ∙ sym y.promised)

pub corrections_one_outcome : OneOutcome corrections.Kinds.ps corrections.Kinds.r corrections.Reads.Asked corrections.Reads.Learnt
corrections_one_outcome κs a good asked o q x y =
    ap₂ (λ (ds dc : List ℕ). (tt, (tt, (tt, (tt, (ds, (dc, tt)))))))
    (x.promised.0 ∙ sym y.promised.0) (x.promised.1 ∙ sym y.promised.1)

pub absorb_corrections_one_outcome : OneOutcome absorb-corrections.Kinds.ps absorb-corrections.Kinds.r absorb-corrections.Reads.Asked absorb-corrections.Reads.Learnt
absorb_corrections_one_outcome κs a good asked o q x y = ap (λ (s : Sponge). (s, (tt, (tt, (tt, tt))))) (x.promised ∙ sym y.promised)
