-- Each public function of this crate has one outcome: its promise is an equation to a definition of the arguments.
-- Assumes nothing.
use mathlib.Core.Path.{sym, ap, ◌∙◌}
use mathlib.Core.List.{List}
use Prim.Native.Nat.{ℕ}
use Rattle.memory.specs.Outcome.{OneOutcome}
use Rattle.sponge.specs.declared.Sponge.{Sponge}
use Rattle.hashes.proofs.salted.Salted.commit as commit
use Rattle.hashes.proofs.salted.Salted.children as children
use Rattle.hashes.proofs.salted.Salted.tape as tape
use Rattle.hashes.proofs.first as first
use Rattle.hashes.proofs.second as second

pub commit_one_outcome : OneOutcome commit.Kinds.ps commit.Kinds.r commit.Reads.Asked commit.Reads.Learnt
commit_one_outcome κs a good asked o q x y = ap (λ (l : List ℕ). (tt, (tt, (tt, (tt, (l, tt)))))) (x.promised ∙ sym y.promised)

pub children_one_outcome : OneOutcome children.Kinds.ps children.Kinds.r children.Reads.Asked children.Reads.Learnt
children_one_outcome κs a good asked o q x y = ap (λ (l : List ℕ). (tt, (tt, (tt, (tt, (tt, (l, tt))))))) (x.promised ∙ sym y.promised)

pub tape_one_outcome : OneOutcome tape.Kinds.ps tape.Kinds.r tape.Reads.Asked tape.Reads.Learnt
tape_one_outcome κs a good asked o q x y = ap (λ (l : List ℕ). (tt, (tt, (tt, (tt, (l, tt)))))) (x.promised ∙ sym y.promised)

pub first_one_outcome : OneOutcome first.Kinds.ps first.Kinds.r first.Reads.Asked first.Reads.Learnt
first_one_outcome κs a good asked o q x y = ap (λ (s : Sponge). (s, (tt, tt))) (x.promised ∙ sym y.promised)

pub second_one_outcome : OneOutcome second.Kinds.ps second.Kinds.r second.Reads.Asked second.Reads.Learnt
second_one_outcome κs a good asked o q x y = ap (λ (s : Sponge). (s, (tt, (tt, tt)))) (x.promised ∙ sym y.promised)
