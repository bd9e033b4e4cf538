-- The permutation, the one public function of this crate, has one outcome: its promise is an equation to a definition of the argument.
-- Assumes nothing.
use mathlib.Core.Path.{sym, ap, ◌∙◌}
use mathlib.Core.List.{List}
use Prim.Native.Nat.{ℕ}
use Rattle.memory.specs.Outcome.{OneOutcome}
use Rattle.keccak.proofs.permute as permute

pub permute_one_outcome : OneOutcome permute.Kinds.ps permute.Kinds.r permute.Reads.Asked permute.Reads.Learnt
permute_one_outcome κs a good asked o q x y = ap (λ (l : List ℕ). (l, (tt, tt))) (x.promised ∙ sym y.promised)
