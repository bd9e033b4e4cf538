-- The laws of the forms: linear at sums of vectors, what stands at each place, lengths, elements, and that algorithm 10's t is f at the secret.
-- Assumes nothing.
use mathlib.Core.Path.{◌≡◌, refl, ap, ap₂, ◌∙◌}
use mathlib.Core.List.{List, [], ◌∷◌, map}
use Prim.Native.Nat.{ℕ, zero, suc, ◌+◌, ◌*◌, ◌<◌, ◌≤◌}
use native.Mathlib.Nat.{suc-mul}
use native.Mathlib.Omega.{arith}
use borrow.Author.Tests.{ne_eqb}
use lib.Bits.{bit_xor}
use lib.ListN.{length, get_or, length-map, get_or-map}
use Rattle.field.specs.Field.{mul}
use Rattle.field.specs.Packing.{Elements, packed_length}
use Rattle.field.specs.Vectors.{◌!◌, ◌⊕◌, ◌⊙◌, dot}
use Rattle.field.proofs.Vectors.{⊕-at, ⊙-at, ⊕-comm, ⊕-elements, ⊙-elements, length_⊕, length_⊙, dot_⊕_r, dot-lt}
use Rattle.forms.specs.Sampling.{sample_elements}
use Rattle.forms.specs.Circuit.{Affine, Circuit, sample_rows, sample_affine, affine_length, expand_circuit, linear, affine, evaluate, forms_of, eval_circuit, Consistent}
use Rattle.forms.proofs.Sampling.{length-sample_elements, sample_elements-elements}

-- ---- at each place

map-dot_⊕ : (rows : List (List ℕ)) (u v : List ℕ)
    → map (λ row. dot row (u ⊕ v)) rows ≡ map (λ row. dot row u) rows ⊕ map (λ row. dot row v) rows
unfolding ◌⊕◌
map-dot_⊕ [] u v = refl
map-dot_⊕ (r ∷ rows) u v = ap₂ (λ (x : ℕ) (l : List ℕ). x ∷ l) (dot_⊕_r r u v) (map-dot_⊕ rows u v)

-- the forms without constants at a sum
pub linear_⊕ : (A : Affine) (u v : List ℕ) → linear A (u ⊕ v) ≡ linear A u ⊕ linear A v
unfolding linear
linear_⊕ A u v = map-dot_⊕ A.rows u v

pub linear_at : (A : Affine) (s : List ℕ) (k : ℕ) → linear A s ! k ≡ dot (get_or A.rows k []) s
unfolding linear dot
linear_at A s k = get_or-map (λ (row : List ℕ). dot row s) A.rows k []

pub affine_at : (A : Affine) (s : List ℕ) (k : ℕ) → affine A s ! k ≡ bit_xor (A.constants ! k) (dot (get_or A.rows k []) s)
unfolding affine
affine_at A s k = ⊕-at A.constants (linear A s) k ∙ ap (bit_xor (A.constants ! k)) (linear_at A s k)

pub evaluate_at : (f : Circuit) (s : List ℕ) (k : ℕ)
    → evaluate f s ! k ≡ bit_xor (affine f.A0 s ! k) (mul (affine f.A1 s ! k) (affine f.A2 s ! k))
unfolding evaluate
evaluate_at f s k =
    ⊕-at (affine f.A0 s) (affine f.A1 s ⊙ affine f.A2 s) k
    ∙ ap (bit_xor (affine f.A0 s ! k)) (⊙-at (affine f.A1 s) (affine f.A2 s) k)

-- algorithm 10's t is the value of f
pub eval_circuit-t : (s : List ℕ) (f : Circuit) → (eval_circuit s f).t ≡ evaluate f s
unfolding eval_circuit evaluate
eval_circuit-t s f = ⊕-comm (affine f.A1 s ⊙ affine f.A2 s) (affine f.A0 s)

pub eval_circuit-y : (s : List ℕ) (f : Circuit) → (eval_circuit s f).y ≡ affine f.A2 s
unfolding eval_circuit
eval_circuit-y s f = refl

-- algorithm 9: party 1 keeps the constants, and no other does
pub forms_of-first : (A : Affine) (s : List ℕ) → forms_of 1 A s ≡ affine A s
unfolding forms_of
forms_of-first A s = refl

pub forms_of_other : (i : ℕ) (A : Affine) (s : List ℕ) → 2 ≤ i → forms_of i A s ≡ linear A s
unfolding forms_of
forms_of_other i A s h = rw (ne_eqb i 1 (λ e. omega arith))

-- ---- lengths and elements

-- m forms
pub record Forms (m : ℕ) (A : Affine) : Type 0 where
  pub constants : length A.constants ≡ m
  pub rows : length A.rows ≡ m

-- m equations
pub record Equations (m : ℕ) (f : Circuit) : Type 0 where
  pub A0 : Forms m f.A0
  pub A1 : Forms m f.A1
  pub A2 : Forms m f.A2

pub length-linear : (A : Affine) (s : List ℕ) → length (linear A s) ≡ length A.rows
unfolding linear
length-linear A s = length-map A.rows (λ (row : List ℕ). dot row s)

pub length-affine : (m : ℕ) (A : Affine) (s : List ℕ) → Forms m A → length (affine A s) ≡ m
unfolding affine
length-affine m A s h =
    let c = h.constants in
    let r = h.rows in
    let l = length-linear A s in
    length_⊕ A.constants (linear A s) ∙ omega arith

pub length-evaluate : (m : ℕ) (f : Circuit) (s : List ℕ) → Equations m f → length (evaluate f s) ≡ m
unfolding evaluate
length-evaluate m f s h =
    let a0 = length-affine m f.A0 s h.A0 in
    let a1 = length-affine m f.A1 s h.A1 in
    let a2 = length-affine m f.A2 s h.A2 in
    let p = length_⊙ (affine f.A1 s) (affine f.A2 s) in
    length_⊕ (affine f.A0 s) (affine f.A1 s ⊙ affine f.A2 s) ∙ omega arith

-- t and y of a consistent key have m entries
pub length-target : (m : ℕ) (f : Circuit) (s t y : List ℕ) → Equations m f → Consistent f s t y → length t ≡ m
length-target m f s t y h key = ap length (key.target ∙ eval_circuit-t s f) ∙ length-evaluate m f s h

pub length-second_form : (m : ℕ) (f : Circuit) (s t y : List ℕ) → Equations m f → Consistent f s t y → length y ≡ m
length-second_form m f s t y h key = ap length (key.second_form ∙ eval_circuit-y s f) ∙ length-affine m f.A2 s h.A2

pub linear-elements : (A : Affine) (s : List ℕ) → Elements (linear A s)
linear-elements A s k = rw (linear_at A s k) (dot-lt (get_or A.rows k []) s)

pub affine-elements : (A : Affine) (s : List ℕ) → Elements A.constants → Elements (affine A s)
unfolding affine
affine-elements A s h = ⊕-elements A.constants (linear A s) h (linear-elements A s)

pub evaluate-elements : (f : Circuit) (s : List ℕ) → Elements f.A0.constants → Elements (evaluate f s)
unfolding evaluate
evaluate-elements f s h =
    ⊕-elements (affine f.A0 s) (affine f.A1 s ⊙ affine f.A2 s) (affine-elements f.A0 s h) (⊙-elements (affine f.A1 s) (affine f.A2 s))

-- ---- the expanded circuit

pub length-sample_rows : (x : List ℕ) (from n m : ℕ) → length (sample_rows x from n m) ≡ m
unfolding sample_rows
length-sample_rows x from n zero = refl
length-sample_rows x from n (suc m) = ap suc (length-sample_rows x (from + packed_length n) n m)

-- row k of the tape
pub row-sample_rows : (x : List ℕ) (from n m k : ℕ) → k < m → get_or (sample_rows x from n m) k [] ≡ sample_elements x (from + k * packed_length n) n
unfolding sample_rows
row-sample_rows x from n zero k h = absurd (omega arith)
row-sample_rows x from n (suc m) zero h = ap (λ (p : ℕ). sample_elements x p n) (let e : from ≡ from + 0 * packed_length n = omega arith in e)
row-sample_rows x from n (suc m) (suc k) h =
    row-sample_rows x (from + packed_length n) n m k (omega arith)
    ∙ ap (λ (p : ℕ). sample_elements x p n) (let e = suc-mul k (packed_length n) in let g : from + packed_length n + k * packed_length n ≡ from + suc k * packed_length n = omega arith in g)

sample_affine_forms : (x : List ℕ) (from n m : ℕ) → Forms m (sample_affine x from n m)
unfolding sample_affine
sample_affine_forms x from n m = record { constants = length-sample_elements x from m; rows = length-sample_rows x (from + packed_length m) n m }

pub expand_circuit-equations : (seed_f : List ℕ) (n m : ℕ) → Equations m (expand_circuit seed_f n m)
unfolding expand_circuit
expand_circuit-equations seed_f n m = record {
  A0 = sample_affine_forms seed_f (affine_length n m + affine_length n m) n m;
  A1 = sample_affine_forms seed_f 0 n m;
  A2 = sample_affine_forms seed_f (affine_length n m) n m;
}

-- all constants of an expanded circuit are elements
pub record ElementConstants (f : Circuit) : Type 0 where
  pub A0 : Elements f.A0.constants
  pub A1 : Elements f.A1.constants
  pub A2 : Elements f.A2.constants

sample_affine-elements : (x : List ℕ) (from n m : ℕ) → Elements (sample_affine x from n m).constants
unfolding sample_affine
sample_affine-elements x from n m = sample_elements-elements x from m

pub expand_circuit-elements : (seed_f : List ℕ) (n m : ℕ) → ElementConstants (expand_circuit seed_f n m)
unfolding expand_circuit
expand_circuit-elements seed_f n m = record {
  A0 = sample_affine-elements seed_f (affine_length n m + affine_length n m) n m;
  A1 = sample_affine-elements seed_f 0 n m;
  A2 = sample_affine-elements seed_f (affine_length n m) n m;
}
