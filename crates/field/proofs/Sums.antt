-- Sums of products by their rules: one product more, equal factors, more products, factors that are 0, and that the product of a row and a vector is such a sum.
-- Assumes nothing.
use mathlib.Core.Path.{◌≡◌, refl, sym, ap, ap₂, ◌∙◌}
use mathlib.Core.List.{List}
use Prim.Native.Nat.{ℕ, zero, suc, ◌+◌, ◌-◌, ◌≤◌, ◌<◌}
use native.Mathlib.Nat.{add-zero, add-suc}
use native.Mathlib.Omega.{arith}
use lib.Bits.{bit_xor, xor_zero_r, xor_zero_l}
use Rattle.memory.specs.Lists.{table}
use Rattle.memory.proofs.Bits.{xor_assoc}
use Rattle.memory.proofs.Bytes.{take-table}
use Rattle.memory.proofs.Lists.{get_or-table}
use Rattle.field.specs.Field.{mul}
use Rattle.field.specs.Sums.{dot_of}
use Rattle.field.specs.Vectors.{◌!◌, dot}
use Rattle.field.proofs.Laws.{mul-zero_r}
use Rattle.field.proofs.Vectors.{dot-take-suc}

pub dot_of-suc : (n : ℕ) (f g : ℕ → ℕ) → dot_of (suc n) f g ≡ bit_xor (dot_of n f g) (mul (f n) (g n))
unfolding dot_of
dot_of-suc n f g = refl

pub dot_of-same : (n : ℕ) (f f' g g' : ℕ → ℕ) → ((i : ℕ) → i < n → f i ≡ f' i) → ((i : ℕ) → i < n → g i ≡ g' i) → dot_of n f g ≡ dot_of n f' g'
unfolding dot_of
dot_of-same zero f f' g g' hf hg = refl
dot_of-same (suc n) f f' g g' hf hg =
    ap₂ bit_xor (dot_of-same n f f' g g' (λ i h. hf i (omega arith)) (λ i h. hg i (omega arith)))
    (ap₂ mul (hf n (omega arith)) (hg n (omega arith)))

-- m products and n more
pub dot_of-add : (m n : ℕ) (f g : ℕ → ℕ) → dot_of (m + n) f g ≡ bit_xor (dot_of m f g) (dot_of n (λ i. f (m + i)) (λ i. g (m + i)))
unfolding dot_of
dot_of-add m zero f g = ap (λ (k : ℕ). dot_of k f g) (add-zero m) ∙ sym (xor_zero_r (dot_of m f g))
dot_of-add m (suc n) f g =
    ap (λ (k : ℕ). dot_of k f g) (add-suc m n)
    ∙ ap (λ (x : ℕ). bit_xor x (mul (f (m + n)) (g (m + n)))) (dot_of-add m n f g)
    ∙ xor_assoc (dot_of m f g) (dot_of n (λ i. f (m + i)) (λ i. g (m + i))) (mul (f (m + n)) (g (m + n)))

-- where every second factor is 0
pub dot_of-zero : (n : ℕ) (f g : ℕ → ℕ) → ((i : ℕ) → i < n → g i ≡ 0) → dot_of n f g ≡ 0
unfolding dot_of
dot_of-zero zero f g h = refl
dot_of-zero (suc n) f g h =
    ap₂ bit_xor (dot_of-zero n f g (λ i k. h i (omega arith))) (ap (mul (f n)) (h n (omega arith)) ∙ mul-zero_r (f n))

-- products from n on count for nothing where the second factors are 0 there
pub dot_of_stop : (n k : ℕ) (f g : ℕ → ℕ) → n ≤ k → ((i : ℕ) → n ≤ i → g i ≡ 0) → dot_of k f g ≡ dot_of n f g
dot_of_stop n k f g h z =
    let e : k ≡ n + (k - n) = omega arith in
    ap (λ (j : ℕ). dot_of j f g) e
    ∙ dot_of-add n (k - n) f g
    ∙ ap (bit_xor (dot_of n f g)) (dot_of-zero (k - n) (λ i. f (n + i)) (λ i. g (n + i)) (λ i l. z (n + i) (omega arith)))
    ∙ xor_zero_r (dot_of n f g)

-- the product of a row, given by its rule, and a vector
dot-table-suc : (n : ℕ) (f : ℕ → ℕ) (s : List ℕ) → dot (table (suc n) f) s ≡ bit_xor (dot (table n f) s) (mul (f n) (s ! n))
dot-table-suc n f s =
    let r : List ℕ = table (suc n) f in
    ap (λ (l : List ℕ). dot l s) (sym (take-table (suc n) (suc n) f (omega arith)))
    ∙ dot-take-suc r s n
    ∙ ap₂ (λ (l : List ℕ) (c : ℕ). bit_xor (dot l s) (mul c (s ! n))) (take-table n (suc n) f (omega arith)) (get_or-table (suc n) f n (omega arith))

pub dot-table : (n : ℕ) (f : ℕ → ℕ) (s : List ℕ) → dot (table n f) s ≡ dot_of n f (λ i. s ! i)
unfolding dot_of table dot
dot-table zero f s = refl
dot-table (suc n) f s = dot-table-suc n f s ∙ ap (λ (x : ℕ). bit_xor x (mul (f n) (s ! n))) (dot-table n f s)

pub dot_of_two : (f g : ℕ → ℕ) → dot_of 2 f g ≡ bit_xor (mul (f 0) (g 0)) (mul (f 1) (g 1))
unfolding dot_of
dot_of_two f g = ap (λ (x : ℕ). bit_xor x (mul (f 1) (g 1))) (xor_zero_l (mul (f 0) (g 0)))
