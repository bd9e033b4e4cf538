-- `field::element` meets its contract: past the end, in the low half and in the high half of a byte.
-- Assumes nothing.
use mathlib.Core.Path.{sym}
use Prim.Native.Nat.{◌/◌}
use native.Mathlib.Omega.{arith}
use Rattle.field.proofs.Packing.{low_of, high_of, nib_past, nib_low, nib_high}
use Rattle.field.proofs.element.Goals as goal

pub returns-then-bytes-i : goal.returns-then-bytes-i
returns-then-bytes-i c = sym (nib_past _ _ c.if-bytes-i.true)

pub returns-then-i-eq0 : goal.returns-then-i-eq0
returns-then-i-eq0 c =
    let a = c.args in
    sym (nib_low _ _ (low_of a.i c.if-i-eq0.true))

pub returns : goal.returns
returns c =
    let a = c.args in
    let byte = c.type_inv.bytes (a.i / 2) in
    let e = nib_high a.bytes.now a.i (high_of a.i c.if-i-eq0.false) in
    omega arith
