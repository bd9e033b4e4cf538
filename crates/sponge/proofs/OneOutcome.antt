-- Each public function of this crate has one outcome: its promise is an equation to a definition of the arguments.
-- Assumes nothing.
use mathlib.Core.Path.{sym, ap, ap₂, ◌∙◌}
use mathlib.Core.List.{List}
use Prim.Native.Nat.{ℕ}
use Rattle.memory.specs.Outcome.{OneOutcome}
use Rattle.sponge.specs.declared.Sponge.{Sponge}
use Rattle.sponge.specs.declared.Tape.{Tape}
use Rattle.sponge.proofs.Sponge.new as new
use Rattle.sponge.proofs.Sponge.absorb as absorb
use Rattle.sponge.proofs.Sponge.finish as finish
use Rattle.sponge.proofs.Tape.squeeze as squeeze
use Rattle.sponge.proofs.shake256 as shake256
use Rattle.sponge.proofs.short as short

pub new_one_outcome : OneOutcome new.Kinds.ps new.Kinds.r new.Reads.Asked new.Reads.Learnt
new_one_outcome κs a good asked o q x y = ap (λ (s : Sponge). (s, tt)) (x.promised ∙ sym y.promised)

pub absorb_one_outcome : OneOutcome absorb.Kinds.ps absorb.Kinds.r absorb.Reads.Asked absorb.Reads.Learnt
absorb_one_outcome κs a good asked o q x y = ap (λ (s : Sponge). (s, (tt, (tt, tt)))) (x.promised ∙ sym y.promised)

pub finish_one_outcome : OneOutcome finish.Kinds.ps finish.Kinds.r finish.Reads.Asked finish.Reads.Learnt
finish_one_outcome κs a good asked o q x y = ap (λ (t : Tape). (t, (tt, tt))) (x.promised ∙ sym y.promised)

pub squeeze_one_outcome : OneOutcome squeeze.Kinds.ps squeeze.Kinds.r squeeze.Reads.Asked squeeze.Reads.Learnt
squeeze_one_outcome κs a good asked o q x y =
    ap₂ (λ (t : Tape) (l : List ℕ). (t, (tt, (l, tt)))) (x.promised.1 ∙ sym y.promised.1) (x.promised.0 ∙ sym y.promised.0)

pub short_one_outcome : OneOutcome short.Kinds.ps short.Kinds.r short.Reads.Asked short.Reads.Learnt
short_one_outcome κs a good asked o q x y = ap (λ (l : List ℕ). (tt, (tt, (tt, (l, tt))))) (x.promised ∙ sym y.promised)

pub shake256_one_outcome : OneOutcome shake256.Kinds.ps shake256.Kinds.r shake256.Reads.Asked shake256.Reads.Learnt
shake256_one_outcome κs a good asked o q x y = ap (λ (l : List ℕ). (tt, (tt, (l, tt)))) (x.promised ∙ sym y.promised)
