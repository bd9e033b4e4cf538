-- `field::packed` meets its contract: a byte holds two elements, or an odd last one alone.
-- Assumes nothing.
use mathlib.Core.Path.{sym}
use native.Mathlib.Omega.{arith}
use lib.ListN.{get_or-eq_default}
use Rattle.field.proofs.Packing.{byte_pack}
use Rattle.field.proofs.packed.Goals as goal

pub returns-then-i-elements : goal.returns-then-i-elements
returns-then-i-elements c =
    let a = c.args in
    sym (byte_pack a.elements.now a.i)

pub returns-else-i-elements : goal.returns-else-i-elements
returns-else-i-elements c =
    let a = c.args in
    let e = byte_pack a.elements.now a.i in
    let past = get_or-eq_default a.elements.now 0 c.if-i-elements.false in
    omega arith
