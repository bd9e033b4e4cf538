-- The laws of a list by its rule, `table`, the room of n parts, and what is left of a value repeated.
-- Assumes nothing.
use mathlib.Core.Path.{◌≡◌, refl, sym, ap, ap₂, ◌∙◌, subst}
use mathlib.Core.List.{List, [], ◌∷◌, ◌++◌}
use Prim.Native.Nat.{ℕ, zero, suc, ◌+◌, ◌-◌, ◌*◌, ◌≤◌, ◌<◌}
use native.Mathlib.Nat.{mul-le-mul_right, suc-mul}
use native.Mathlib.Decide.{dec_lt}
use native.Mathlib.Omega.{arith}
use lib.ListN.{length, get_or, length-append, get_or-append}
use lib.Seq.{ext_get_or, get_or-append-add, get_or_at}
pub use Rattle.std.proofs.lemmas.List.{drop-replicate}
use Rattle.memory.specs.Lists.{table}

-- n parts of w entries each: the i-th has room
pub room : (i n w : ℕ) → i < n → i * w + w ≤ n * w
room i n w h = subst (λ (k : ℕ). k ≤ n * w) (suc-mul i w) (mul-le-mul_right w h)

-- ---- a list by its rule

pub length-table : (n : ℕ) (f : ℕ → ℕ) → length (table n f) ≡ n
unfolding table
length-table zero f = refl
length-table (suc n) f = let e = length-table n f in simp length-append (omega arith)

pub table-suc : (n : ℕ) (f : ℕ → ℕ) → table (suc n) f ≡ table n f ++ (f n ∷ [])
unfolding table
table-suc n f = refl

pub get_or-table : (n : ℕ) (f : ℕ → ℕ) (i : ℕ) → i < n → get_or (table n f) i 0 ≡ f i
unfolding table
get_or-table zero f i h = absurd (omega arith)
get_or-table (suc n) f i h =
    elim (dec_lt i n) as (λ d. get_or (table n f ++ (f n ∷ [])) i 0 ≡ f i) [
      | yes y ↦ get_or-append (table n f) (f n ∷ []) 0 i (subst (λ (k : ℕ). i < k) (sym (length-table n f)) y) ∙ get_or-table n f i y
      | no y ↦ (let e : i ≡ n = omega arith in get_or_at (table n f) (f n) [] 0 i (length-table n f ∙ sym e) ∙ ap f (sym e))
    ]

-- a list is the table of its entries
pub table_of : (l : List ℕ) (n : ℕ) (f : ℕ → ℕ) → length l ≡ n → ((i : ℕ) → i < n → get_or l i 0 ≡ f i) → l ≡ table n f
table_of l n f e h =
    ext_get_or 0 l (table n f) (e ∙ sym (length-table n f))
    (λ i k. let g : i < n = omega arith in h i g ∙ sym (get_or-table n f i g))

-- two rules that agree below n give one list
pub table_same : (n : ℕ) (f g : ℕ → ℕ) → ((i : ℕ) → i < n → f i ≡ g i) → table n f ≡ table n g
table_same n f g h = table_of (table n f) n g (length-table n f) (λ i k. get_or-table n f i k ∙ h i k)

-- m entries and n more
pub table-add : (m n : ℕ) (f : ℕ → ℕ) → table (m + n) f ≡ table m f ++ table n (λ i. f (m + i))
table-add m n f =
    sym (table_of (table m f ++ table n (λ i. f (m + i))) (m + n) f
    (length-append (table m f) _ ∙ ap₂ (λ (x y : ℕ). x + y) (length-table m f) (length-table n _)) entry)
  where
    entry : (i : ℕ) → i < m + n → get_or (table m f ++ table n (λ i. f (m + i))) i 0 ≡ f i
    entry i h =
        elim (dec_lt i m) as (λ d. get_or (table m f ++ table n (λ i. f (m + i))) i 0 ≡ f i) [
          | yes y ↦ get_or-append (table m f) _ 0 i (subst (λ (k : ℕ). i < k) (sym (length-table m f)) y) ∙ get_or-table m f i y
          | no y ↦ (let e : i ≡ length (table m f) + (i - m) = (let t = length-table m f in omega arith) in
              ap (λ (k : ℕ). get_or (table m f ++ table n (λ i. f (m + i))) k 0) e
              ∙ get_or-append-add (table m f) (table n (λ i. f (m + i))) (i - m) 0
              ∙ get_or-table n (λ i. f (m + i)) (i - m) (omega arith)
              ∙ ap f (let t : m + (i - m) ≡ i = omega arith in t))
        ]
