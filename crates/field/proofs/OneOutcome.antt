-- Each public function of this crate has one outcome. The table of products is fixed entry by entry: it has 256 of them, and each is at the place of some pair.
-- Assumes nothing.
use mathlib.Core.Path.{◌≡◌, sym, ap, ◌∙◌}
use mathlib.Core.List.{List}
use Prim.Native.Nat.{ℕ, ◌+◌, ◌*◌, ◌/◌, ◌%◌, ◌<◌}
use native.Mathlib.Omega.{arith}
use lib.ListN.{length, get_or}
use lib.Seq.{ext_get_or}
use Rattle.memory.specs.Outcome.{OneOutcome}
use Rattle.field.specs.Field.{mul}
use Rattle.field.specs.ProductTable.{ProductTable}
use Rattle.field.proofs.products as products
use Rattle.field.proofs.product as product
use Rattle.field.proofs.pack_into as pack-into
use Rattle.field.proofs.unpack_into as unpack-into
use Rattle.field.proofs.element as element

pub products_one_outcome : OneOutcome products.Kinds.ps products.Kinds.r products.Reads.Asked products.Reads.Learnt
products_one_outcome κs a good asked o q x y =
    let g : length o.0 ≡ 256 = x.ranged.1.0.1 in
    let h : length q.0 ≡ 256 = y.ranged.1.0.1 in
    ap (λ (l : List ℕ). (l, tt)) (ext_get_or 0 o.0 q.0 (g ∙ sym h) (λ i l. entry x.promised i (omega arith) ∙ sym (entry y.promised i (omega arith))))
  where
    entry : {t : List ℕ} → ProductTable t → (i : ℕ) → i < 256 → get_or t i 0 ≡ mul (i / 16) i
    entry {t} p i l =
        let e : i / 16 % 16 * 16 + i % 16 ≡ i = omega arith in
        ap (λ (k : ℕ). get_or t k 0) (sym e) ∙ p.entry (i / 16) i

pub product_one_outcome : OneOutcome product.Kinds.ps product.Kinds.r product.Reads.Asked product.Reads.Learnt
product_one_outcome κs a good asked o q x y = ap (λ (z : ℕ). (z, (tt, (tt, tt)))) (x.promised ∙ sym y.promised)

pub pack_into_one_outcome : OneOutcome pack-into.Kinds.ps pack-into.Kinds.r pack-into.Reads.Asked pack-into.Reads.Learnt
pack_into_one_outcome κs a good asked o q x y = ap (λ (l : List ℕ). (tt, (tt, (l, tt)))) (x.promised ∙ sym y.promised)

pub unpack_into_one_outcome : OneOutcome unpack-into.Kinds.ps unpack-into.Kinds.r unpack-into.Reads.Asked unpack-into.Reads.Learnt
unpack_into_one_outcome κs a good asked o q x y = ap (λ (l : List ℕ). (tt, (tt, (l, tt)))) (x.promised ∙ sym y.promised)

pub element_one_outcome : OneOutcome element.Kinds.ps element.Kinds.r element.Reads.Asked element.Reads.Learnt
element_one_outcome κs a good asked o q x y = ap (λ (z : ℕ). (z, (tt, (tt, tt)))) (x.promised ∙ sym y.promised)
