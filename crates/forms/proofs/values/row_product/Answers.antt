-- `forms::values::row_product` meets its contract. The invariant: the sum is that of the first i products.
-- Assumes nothing.
use mathlib.Core.Path.{◌≡◌, refl, sym, ap, ◌∙◌}
use Prim.Native.Nat.{ℕ, ◌+◌, ◌*◌}
use native.Mathlib.Omega.{arith}
use lib.ListN.{length}
use Rattle.field.specs.Field.{mul}
use Rattle.field.specs.Packing.{nib}
use Rattle.field.specs.Vectors.{◌!◌}
use Rattle.field.specs.Sums.{dot_of}
use Rattle.forms.proofs.Evaluated.{sum_more, row-dot}
use Rattle.forms.proofs.values.row_product.Goals as goal

pub loop-i-init : goal.loop-i-init
unfolding dot_of
loop-i-init c = refl

pub loop-i-preserved : goal.loop-i-preserved
loop-i-preserved c =
    let l = c.loop-i in
    let a = c.args in
    sum_more l.i l.sum c.of-sum.result (λ j. nib a.circuit.now (a.row * 2 + j)) (λ j. a.s.now ! j) l.invariant
    (c.of-sum.ensures ∙ ap (λ (x : ℕ). mul x (a.s.now ! l.i)) c.element.ensures)

pub returns : goal.returns
returns c =
    let l = c.loop-i in
    let a = c.args in
    let e : l.i ≡ length a.s.now = omega arith in
    l.invariant
    ∙ ap (λ (n : ℕ). dot_of n (λ j. nib a.circuit.now (a.row * 2 + j)) (λ j. a.s.now ! j)) e
    ∙ sym (row-dot a.circuit.now a.row (length a.s.now) a.s.now)
