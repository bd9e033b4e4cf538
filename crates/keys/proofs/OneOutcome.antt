-- What the promises of this crate settle: reading a secret key and testing it have one outcome; making keys and the public half settle every part but work, which is scratch that the call clears.
-- Assumes nothing.
use mathlib.Core.Path.{sym, ap, ap₂, ◌∙◌}
use mathlib.Core.Bool.{Bool}
use mathlib.Core.List.{List}
use Prim.Native.Nat.{ℕ}
use Rattle.memory.specs.Outcome.{OneOutcome, OneSight}
use Rattle.keys.proofs.make_keys as make-keys
use Rattle.keys.proofs.read_secret as read-secret
use Rattle.keys.proofs.consistent as consistent
use Rattle.keys.proofs.public_half as public-half

-- both keys
pub make_keys_settles :
    OneSight make-keys.Kinds.ps make-keys.Kinds.r make-keys.Reads.Asked make-keys.Reads.Learnt (List ℕ × List ℕ)
    (λ κs a o. (o.1.1.1.1.0, o.1.1.1.1.1.0))
make_keys_settles κs a good asked o q x y =
    ap₂ (λ (sk pk : List ℕ). (sk, pk)) (x.promised.0 ∙ sym y.promised.0) (x.promised.1 ∙ sym y.promised.1)

pub read_secret_one_outcome : OneOutcome read-secret.Kinds.ps read-secret.Kinds.r read-secret.Reads.Asked read-secret.Reads.Learnt
read_secret_one_outcome κs a good asked o q x y = ap (λ (l : List ℕ). (tt, (tt, (tt, (l, tt))))) (x.promised ∙ sym y.promised)

pub consistent_one_outcome : OneOutcome consistent.Kinds.ps consistent.Kinds.r consistent.Reads.Asked consistent.Reads.Learnt
consistent_one_outcome κs a good asked o q x y =
    ap₂ (λ (b : Bool) (l : List ℕ × List ℕ). (b, (tt, (tt, (l.0, (l.1, tt))))))
    (x.promised.0 ∙ sym y.promised.0)
    (ap₂ (λ (secret circuit : List ℕ). (secret, circuit)) (x.promised.1 ∙ sym y.promised.1) (x.promised.2 ∙ sym y.promised.2))

-- the answer, and the public key
pub public_half_settles :
    OneSight public-half.Kinds.ps public-half.Kinds.r public-half.Reads.Asked public-half.Reads.Learnt (Bool × List ℕ)
    (λ κs a o. (o.0, o.1.1.1.0))
public_half_settles κs a good asked o q x y =
    ap₂ (λ (b : Bool) (pk : List ℕ). (b, pk)) (x.promised.0 ∙ sym y.promised.0) (x.promised.1 ∙ sym y.promised.1)
