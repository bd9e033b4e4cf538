-- `alpha_of` has one outcome. Its promise over every circuit that the bytes hold speaks of the one that is read from them. Assumes nothing.
use mathlib.Core.Path.{refl, sym, ap, ◌∙◌}
use mathlib.Core.List.{List}
use Prim.Native.Nat.{ℕ}
use Rattle.memory.specs.Outcome.{OneOutcome}
use Rattle.forms.specs.Room.{circuit_in}
use Rattle.forms.proofs.Room.{holds_circuit}
use Rattle.group.specs.Shares.{params_in}
use Rattle.single.proofs.alpha_of as alpha-of

pub alpha_of_one_outcome : OneOutcome alpha-of.Kinds.ps alpha-of.Kinds.r alpha-of.Reads.Asked alpha-of.Reads.Learnt
alpha_of_one_outcome κs a good asked o q x y =
    let rep = a.0 in
    let f = circuit_in rep.n rep.m a.1.1.0.now in
    let h = holds_circuit rep.n rep.m a.1.1.0.now in
    ap (λ (l : List ℕ). (tt, (tt, (tt, (tt, (tt, (tt, (tt, (l, tt)))))))))
    (x.promised (params_in rep) f refl refl h ∙ sym (y.promised (params_in rep) f refl refl h))
