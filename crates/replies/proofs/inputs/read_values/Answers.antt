-- `replies::inputs::read_values` meets its contract: four parts, one behind the other, and the challenge of each repetition lies in work. Assumes nothing.
use mathlib.Core.Path.{refl}
use Prim.Native.Nat.{◌+◌}
use native.Mathlib.Omega.{arith}
use Rattle.refusals.proofs.Refusals.{work_length_is}
use Rattle.replies.proofs.Lending.{width-packed, challenge-end, values_lent}
use Rattle.replies.proofs.Values.{filled_values}
use Rattle.replies.proofs.inputs.read_values.Goals as goal

pub overflow_add-at : goal.overflow_add-at
overflow_add-at c =
    let t = c.args.turn in
    let r = challenge-end t.basis.p t.e _ _ t.basis.fits t.counted t.within (width-packed _ _ c.div_ceil-width.ensures) c.layout_of-map.ensures.challenges in
    let w = work_length_is in omega arith

pub overflow_add-at-2 : goal.overflow_add-at-2
overflow_add-at-2 c =
    let t = c.args.turn in
    let r = challenge-end t.basis.p t.e _ _ t.basis.fits t.counted t.within (width-packed _ _ c.div_ceil-width.ensures) c.layout_of-map.ensures.challenges in
    let w = work_length_is in omega arith

pub slice_bounds-unpack_into-end : goal.slice_bounds-unpack_into-end
slice_bounds-unpack_into-end c =
    let t = c.args.turn in
    let r = challenge-end t.basis.p t.e _ _ t.basis.fits t.counted t.within (width-packed _ _ c.div_ceil-width.ensures) c.layout_of-map.ensures.challenges in
    omega arith

pub returns : goal.returns
returns c =
    let t = c.args.turn in
    let n = t.basis.p.n in
    let m = t.basis.p.m in
    let k = c.requires.2 in
    values_lent t.basis.p t.e _ _ _ _ _ _ _ (width-packed _ _ c.div_ceil-width.ensures) c.layout_of-map.ensures.challenges refl
    (filled_values c.read_elements.new.out c.unpack_into.new.out c.copy.new.dst c.clear.new.dst c.args.values.now _ _ _ _
    (n + m) (n + m + m) (n + m + m + m) (n + m + m + m + m) (omega arith) (omega arith) (omega arith) (omega arith) refl refl refl refl
    c.read_elements.auto.out c.unpack_into.auto.out c.copy.auto.dst c.clear.auto.dst
    t.basis.p t.e t.basis.secret.now c.args.packing.now _ t.basis.whole refl (omega arith) (omega arith) (omega arith)
    c.read_elements.ensures c.unpack_into.ensures c.copy.ensures c.clear.ensures)
