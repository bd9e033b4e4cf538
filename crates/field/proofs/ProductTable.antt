-- A table of products follows its rule: one test, which antt computes over the whole table against polynomial multiplication, gives the rule at each pair.
-- Assumes nothing.
use mathlib.Core.Path.{◌≡◌, ap₂, ◌∙◌}
use mathlib.Core.Bool.{Bool}
use mathlib.Core.List.{List}
use Prim.Native.Nat.{ℕ, ◌+◌, ◌*◌, ◌/◌, ◌%◌}
use native.Mathlib.Omega.{arith}
use lib.Arith.{digits_div, digits_mod}
use lib.Dec.{T, eqb, eqb→eq}
use lib.ListN.{length, get_or}
use Rattle.memory.proofs.Every.{both, both_left, both_right, every_entry, same_entries}
use Rattle.field.specs.Field.{mul}
use Rattle.field.specs.ProductTable.{ProductTable}
use Rattle.field.proofs.Laws.{low_lt, mul_low}

-- 256 entries, each the product of the two halves of its place
abbrev pub is_product_table : List ℕ → Bool
is_product_table products =
    both (eqb (length products) 256) (every_entry (λ k x. eqb x (mul (k / 16) (k % 16))) 0 products)

-- a list that passes the test is the table of all products
pub product_table : {products : List ℕ} → T (is_product_table products) → ProductTable products
product_table {products} t = record { entry = entry }
  where
    size : length products ≡ 256
    size = eqb→eq (length products) 256 (both_left (eqb (length products) 256) _ t)

    entry : (a b : ℕ) → get_or products (a % 16 * 16 + b % 16) 0 ≡ mul a b
    entry a b =
        let s = size in
        let ha = low_lt a in
        let hb = low_lt b in
        same_entries products (λ k. mul (k / 16) (k % 16)) (both_right (eqb (length products) 256) _ t) (a % 16 * 16 + b % 16) (omega arith)
        ∙ ap₂ mul (digits_div (a % 16) hb) (digits_mod (a % 16) hb)
        ∙ mul_low a b
