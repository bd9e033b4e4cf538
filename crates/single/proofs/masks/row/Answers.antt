-- `single::masks::row` meets its contract. Assumes nothing.
use mathlib.Core.Path.{◌≡◌, ◌∙◌, ap}
use Prim.Native.Nat.{ℕ, ◌+◌, ◌*◌}
use native.Mathlib.Omega.{arith}
use Rattle.field.specs.Packing.{nib}
use Rattle.field.specs.Sums.{dot_of}
use Rattle.single.proofs.Weighing.{weighed_none, row_more, lanes_weighed}
use Rattle.single.proofs.masks.row.Goals as goal

pub loop-w-init : goal.loop-w-init
loop-w-init c = λ s h. weighed_none _ s

pub loop-w-preserved : goal.loop-w-preserved
loop-w-preserved c = λ s h.
    let l = c.loop-w in
    let a = c.args in
    row_more a.bytes.now a.masks.now a.at l.w s l.a l.b l.c l.d c.word_at-x.result (omega arith) c.word_at-x.ensures h (l.invariant s h)

pub returns : goal.returns
returns c = λ s h.
    let l = c.loop-w in
    let a = c.args in
    let e : l.w ≡ a.words = omega arith in
    lanes_weighed l.a l.b l.c l.d c.weighted.result c.weighted.ensures ∙ l.invariant s h
    ∙ ap (λ (n : ℕ). dot_of (16 * n) (λ j. nib a.bytes.now (a.at * 2 + j)) s) e
