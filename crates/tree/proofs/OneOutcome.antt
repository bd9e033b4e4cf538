-- Each public function of this crate has one outcome: its promise is an equation to a definition of the arguments.
-- Assumes nothing.
use mathlib.Core.Path.{sym, ap, ap₂, ◌∙◌}
use mathlib.Core.List.{List}
use Prim.Native.Nat.{ℕ}
use Rattle.memory.specs.Outcome.{OneOutcome}
use Rattle.tree.proofs.leaves as leaves
use Rattle.tree.proofs.path as path
use Rattle.tree.proofs.rebuild as rebuild

pub leaves_one_outcome : OneOutcome leaves.Kinds.ps leaves.Kinds.r leaves.Reads.Asked leaves.Reads.Learnt
leaves_one_outcome κs a good asked o q x y = ap (λ (l : List ℕ). (tt, (tt, (tt, (tt, (l, tt)))))) (x.promised ∙ sym y.promised)

pub path_one_outcome : OneOutcome path.Kinds.ps path.Kinds.r path.Reads.Asked path.Reads.Learnt
path_one_outcome κs a good asked o q x y =
    ap₂ (λ (leaf out : List ℕ). (tt, (tt, (tt, (tt, (tt, (leaf, (out, tt))))))))
    (x.promised.1 ∙ sym y.promised.1) (x.promised.0 ∙ sym y.promised.0)

pub rebuild_one_outcome : OneOutcome rebuild.Kinds.ps rebuild.Kinds.r rebuild.Reads.Asked rebuild.Reads.Learnt
rebuild_one_outcome κs a good asked o q x y = ap (λ (l : List ℕ). (tt, (tt, (tt, (tt, (tt, (tt, (l, tt)))))))) (x.promised ∙ sym y.promised)
