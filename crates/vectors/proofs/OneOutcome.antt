-- Each public function of this crate has one outcome. One half byte put is said half by half: bytes are fixed by their halves, so that the entries are bytes is taken from their type, u8.
-- Assumes nothing.
use mathlib.Core.Path.{◌≡◌, sym, ap, ◌∙◌}
use mathlib.Core.List.{List}
use Prim.Native.Nat.{ℕ}
use native.Mathlib.Decide.{ℕ_discrete}
use Rattle.memory.specs.Outcome.{OneOutcome}
use Rattle.field.specs.Packing.{Bytes, nib}
use Rattle.field.proofs.Packing.{bytes_by_halves}
use Rattle.vectors.specs.Elements.{HalfPut}
use Rattle.vectors.proofs.read_elements as read-elements
use Rattle.vectors.proofs.write_elements as write-elements
use Rattle.vectors.proofs.put_element as put-element

pub read_elements_one_outcome : OneOutcome read-elements.Kinds.ps read-elements.Kinds.r read-elements.Reads.Asked read-elements.Reads.Learnt
read_elements_one_outcome κs a good asked o q x y = ap (λ (l : List ℕ). (tt, (tt, (tt, (l, tt))))) (x.promised ∙ sym y.promised)

pub write_elements_one_outcome : OneOutcome write-elements.Kinds.ps write-elements.Kinds.r write-elements.Reads.Asked write-elements.Reads.Learnt
write_elements_one_outcome κs a good asked o q x y = ap (λ (l : List ℕ). (tt, (tt, (tt, (l, tt))))) (x.promised ∙ sym y.promised)

-- the bytes after one half byte is put
half_put_fixes : {v j : ℕ} {old a b : List ℕ} → Bytes a → Bytes b → HalfPut v j old a → HalfPut v j old b → a ≡ b
half_put_fixes {v} {j} {old} {a} {b} ha hb x y = bytes_by_halves a b ha hb (x.kept ∙ sym y.kept) (λ k l. half k)
  where
    half : (k : ℕ) → nib a k ≡ nib b k
    half k =
        elim (ℕ_discrete k j) as (λ d. nib a k ≡ nib b k) [
          | yes e ↦ ap (nib a) e ∙ x.here ∙ sym y.here ∙ ap (nib b) (sym e)
          | no n ↦ x.others k n ∙ sym (y.others k n)
        ]

pub put_element_one_outcome :
    OneOutcome put-element.Kinds.ps put-element.Kinds.r put-element.Reads.Asked
    (λ κs a r e. put-element.Reads.Learnt κs a r e × Bytes e.1.1.0.now)
put_element_one_outcome κs a good asked o q x y =
    ap (λ (l : List ℕ). (tt, (tt, (tt, (l, tt))))) (half_put_fixes x.promised.1 y.promised.1 x.promised.0 y.promised.0)
