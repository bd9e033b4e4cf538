-- The one public function of this crate has one outcome: its promise is an equation to a definition of the arguments.
-- Assumes nothing.
use mathlib.Core.Path.{sym, ap, ◌∙◌}
use mathlib.Core.List.{List}
use Prim.Native.Nat.{ℕ}
use Rattle.memory.specs.Outcome.{OneOutcome}
use Rattle.shake.proofs.biscuit_shake256 as shake256

pub shake256_one_outcome : OneOutcome shake256.Kinds.ps shake256.Kinds.r shake256.Reads.Asked shake256.Reads.Learnt
shake256_one_outcome κs a good asked o q x y = ap (λ (l : List ℕ). (tt, (tt, (l, tt)))) (x.promised ∙ sym y.promised)
