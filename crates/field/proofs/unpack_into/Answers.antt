-- `field::unpack_into` meets its contract. The invariant: the first i entries of `out` are the elements that the bytes hold, and the others are as they were.
-- Assumes nothing.
use mathlib.Core.Path.{sym, ap₂, ◌∙◌}
use mathlib.Core.List.{List}
use Prim.Native.Nat.{ℕ}
use native.Mathlib.Omega.{arith}
use lib.ListN.{length, set}
use Rattle.memory.proofs.Parts.{copied_more}
use Rattle.memory.proofs.Xors.{written_all}
use Rattle.field.specs.Packing.{unpack}
use Rattle.field.proofs.Packing.{length-unpack, get_or-unpack}
use Rattle.field.proofs.unpack_into.Goals as goal

pub loop-i-preserved : goal.loop-i-preserved
loop-i-preserved c =
    let l = c.loop-i in
    let bytes = c.args.bytes.now in
    let out = c.args.out.now in
    let size = length-unpack (length out) bytes in
    ap₂ (λ (x : List ℕ) (y : ℕ). set x l.i y) l.invariant (c.element.ensures ∙ sym (get_or-unpack (length out) bytes l.i (omega arith)))
    ∙ copied_more (unpack (length out) bytes) out l.i (omega arith) (omega arith)

pub returns : goal.returns
returns c =
    let l = c.loop-i in
    let out = c.args.out.now in
    l.invariant ∙ written_all (unpack (length out) c.args.bytes.now) out l.i (length-unpack (length out) c.args.bytes.now) (omega arith)
