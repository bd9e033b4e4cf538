-- `field::pack_into` meets its contract. The invariant: the first i bytes of `out` are those of the packing, and the others are as they were.
-- Assumes nothing.
use mathlib.Core.Path.{refl, ap₂, ◌∙◌}
use mathlib.Core.List.{List}
use Prim.Native.Nat.{ℕ}
use native.Mathlib.Omega.{arith}
use lib.ListN.{set}
use Rattle.memory.proofs.Parts.{copied_more, copied_all}
use Rattle.field.specs.Packing.{pack, packed_length}
use Rattle.field.proofs.Packing.{length-pack}
use Rattle.field.proofs.pack_into.Goals as goal

pub loop-i-init : goal.loop-i-init
unfolding packed_length
loop-i-init c = let ceil = c.div_ceil.ensures in (omega arith, refl)

pub loop-i-preserved : goal.loop-i-preserved
loop-i-preserved c =
    let l = c.loop-i in
    let elements = c.args.elements.now in
    let size = length-pack elements in
    (l.invariant.0, ap₂ (λ (x : List ℕ) (y : ℕ). set x l.i y) l.invariant.1 c.packed.ensures ∙ copied_more (pack elements) _ l.i (omega arith) (omega arith))

pub returns : goal.returns
returns c =
    let l = c.loop-i in
    let elements = c.args.elements.now in
    let size = length-pack elements in
    l.invariant.1 ∙ copied_all (pack elements) _ l.i (omega arith)
