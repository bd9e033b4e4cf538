-- `forms::values::add_affine` meets its contract. The invariant: the first k elements have their form added, and the others are as they were.
-- Assumes nothing.
use mathlib.Core.Path.{sym, ap, ap₂, ◌∙◌}
use Prim.Native.Nat.{ℕ}
use native.Mathlib.Omega.{arith}
use lib.Bits.{bit_xor}
use lib.ListN.{length, drop}
use Rattle.field.specs.Packing.{unpack}
use Rattle.field.specs.Vectors.{◌⊕◌, dot}
use Rattle.forms.specs.Circuit.{affine}
use Rattle.forms.specs.Room.{affine_in}
use Rattle.forms.proofs.Evaluated.{length-added, added_at, written_next, written_more, written_all}
use Rattle.forms.proofs.Room.{packed_holds, row_place}
use Rattle.forms.proofs.values.add_affine.Goals as goal

pub overflow_add-start : goal.overflow_add-start
overflow_add-start c =
    let r = row_place _ _ _ _ _ _ _ c.requires c.loop-k-test.true c.div_ceil-width.ensures c.div_ceil.ensures in
    let w = packed_holds (length c.args.out.now) in
    omega arith

pub overflow_mul-k : goal.overflow_mul-k
overflow_mul-k c = let r = row_place _ _ _ _ _ _ _ c.requires c.loop-k-test.true c.div_ceil-width.ensures c.div_ceil.ensures in omega arith

pub overflow_add-rows-in-loop-k : goal.overflow_add-rows-in-loop-k
overflow_add-rows-in-loop-k c = let r = row_place _ _ _ _ _ _ _ c.requires c.loop-k-test.true c.div_ceil-width.ensures c.div_ceil.ensures in omega arith

pub row_product-requires : goal.row_product-requires
row_product-requires c =
    let r = row_place _ _ _ _ _ _ _ c.requires c.loop-k-test.true c.div_ceil-width.ensures c.div_ceil.ensures in
    let w = packed_holds (length c.args.s.now) in
    omega arith

pub loop-k-preserved : goal.loop-k-preserved
loop-k-preserved c =
    let l = c.loop-k in
    let a = c.args in
    let o = a.out.now in
    let n = length a.s.now in
    let v = o ⊕ affine (affine_in n (length o) (drop a.start a.circuit.now)) a.s.now in
    let size = length-added o a.circuit.now a.start n a.s.now in
    let r = row_place _ _ _ _ _ _ _ c.requires c.loop-k-test.true c.div_ceil-width.ensures c.div_ceil.ensures in
    written_more v o l.out l.k l.invariant size _ c.loop-k-test.true
    (ap₂ bit_xor (written_next v o l.out l.k l.invariant size c.loop-k-test.true)
    (ap₂ bit_xor c.element.ensures (c.row_product.ensures ∙ ap (λ (p : ℕ). dot (unpack n (drop p a.circuit.now)) a.s.now) r.0))
    ∙ sym (added_at o a.circuit.now a.start n a.s.now l.k c.loop-k-test.true))

pub returns : goal.returns
returns c =
    let a = c.args in
    let o = a.out.now in
    let v = o ⊕ affine (affine_in (length a.s.now) (length o) (drop a.start a.circuit.now)) a.s.now in
    written_all v o c.loop-k.out c.loop-k.k c.loop-k.invariant (length-added o a.circuit.now a.start (length a.s.now) a.s.now) c.loop-k-test.false
