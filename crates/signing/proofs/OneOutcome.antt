-- What the promise of the one public function of this crate settles: the answer and the signature. Work is scratch that the call clears, and is left open.
-- Assumes nothing.
use mathlib.Core.Path.{sym, ap₂, ◌∙◌}
use mathlib.Core.Bool.{Bool}
use mathlib.Core.List.{List}
use Prim.Native.Nat.{ℕ}
use Rattle.memory.specs.Outcome.{OneSight}
use Rattle.signing.proofs.sign as sign

pub sign_settles : OneSight sign.Kinds.ps sign.Kinds.r sign.Reads.Asked sign.Reads.Learnt (Bool × List ℕ) (λ κs a o. (o.0, o.1.1.1.1.1.0))
sign_settles κs a good asked o q x y =
    ap₂ (λ (b : Bool) (signature : List ℕ). (b, signature)) (x.promised.0 ∙ sym y.promised.0) (x.promised.1 ∙ sym y.promised.1)
