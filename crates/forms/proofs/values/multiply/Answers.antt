-- `forms::values::multiply` meets its contract. The invariant: the first k elements are multiplied, and the others are as they were.
-- Assumes nothing.
use mathlib.Core.Path.{sym, ap, ◌∙◌}
use Prim.Native.Nat.{ℕ}
use native.Mathlib.Omega.{arith}
use Rattle.field.specs.Field.{mul}
use Rattle.field.specs.Vectors.{◌!◌, ◌⊙◌}
use Rattle.field.proofs.Vectors.{length_⊙, ⊙-at}
use Rattle.forms.proofs.Evaluated.{written_next, written_more, written_all}
use Rattle.forms.proofs.values.multiply.Goals as goal

pub loop-k-preserved : goal.loop-k-preserved
loop-k-preserved c =
    let l = c.loop-k in
    let o = c.args.out.now in
    let y = c.args.y.now in
    let size = length_⊙ o y in
    written_more (o ⊙ y) o l.out l.k l.invariant (omega arith) _ c.loop-k-test.true
    (c.of.ensures ∙ ap (λ (b : ℕ). mul b (y ! l.k)) (written_next (o ⊙ y) o l.out l.k l.invariant (omega arith) c.loop-k-test.true) ∙ sym (⊙-at o y l.k))

pub returns : goal.returns
returns c =
    let o = c.args.out.now in
    let y = c.args.y.now in
    let size = length_⊙ o y in
    written_all (o ⊙ y) o c.loop-k.out c.loop-k.k c.loop-k.invariant (omega arith) c.loop-k-test.false
