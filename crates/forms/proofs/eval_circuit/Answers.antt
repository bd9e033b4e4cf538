-- `forms::eval_circuit` meets its contract: zeros with A1 added, times zeros with A2 added, with A0 added, is algorithm 10.
-- Assumes nothing.
use mathlib.Core.Path.{sym, ap, ap₂, ◌∙◌}
use Prim.Native.Nat.{ℕ}
use native.Mathlib.Omega.{arith}
use lib.ListN.{replicate}
use Rattle.forms.specs.Circuit.{affine_length}
use Rattle.forms.proofs.Room.{circuit_three}
use Rattle.forms.proofs.Evaluated.{evaluated}
use Rattle.forms.proofs.eval_circuit.Goals as goal

pub add_affine-requires : goal.add_affine-requires
add_affine-requires c =
    let three = circuit_three c.args.n c.args.m in
    let l = ap₂ affine_length c.requires.3 (c.clear-2.auto.dst ∙ c.requires.5) in
    omega arith

pub add_affine-requires-2 : goal.add_affine-requires-2
add_affine-requires-2 c =
    let three = circuit_three c.args.n c.args.m in
    let l = ap₂ affine_length c.requires.3 (c.clear.auto.dst ∙ c.requires.4) in
    omega arith

pub add_affine-requires-3 : goal.add_affine-requires-3
add_affine-requires-3 c =
    let three = circuit_three c.args.n c.args.m in
    let l = ap₂ affine_length c.requires.3 (c.multiply.auto.out ∙ c.add_affine.auto.out ∙ c.clear-2.auto.dst ∙ c.requires.5) in
    omega arith

pub returns : goal.returns
returns c =
    let a = c.args in
    let q = c.requires in
    let y₀ = c.clear in
    let t₀ = c.clear-2 in
    let t₁ = c.add_affine in
    let y₁ = c.add_affine-2 in
    let t₂ = c.multiply in
    let t₃ = c.add_affine-3 in
    let lt = t₀.auto.dst ∙ q.5 in
    evaluated a.n a.m c.table_len-size.result a.circuit.now a.s.now
    t₀.new.dst t₁.new.out t₂.new.out t₃.new.out y₀.new.dst y₁.new.out
    q.3 c.table_len-size.ensures.size
    lt (t₀.ensures ∙ ap (λ (i : ℕ). replicate i 0) (sym t₀.auto.dst))
    (y₀.auto.dst ∙ q.4) (y₀.ensures ∙ ap (λ (i : ℕ). replicate i 0) (sym y₀.auto.dst))
    (t₂.auto.out ∙ t₁.auto.out ∙ lt)
    t₁.ensures y₁.ensures t₂.ensures t₃.ensures
