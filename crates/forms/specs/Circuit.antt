-- The system of equations f = A0 + A1·A2 with affine forms: its expansion from a seed (algorithm 8 of the submission) and its values (algorithms 9 and 10).
-- There are m equations in n variables. Every definition is total: `linear`, `affine` and `evaluate` take any vector. Assumes nothing.
use Rattle.std.specs.Prelude.{cond, List, [], ◌∷◌, map, ◌≡◌, ℕ, zero, suc, ◌+◌, ◌*◌, eqb}
use Rattle.field.specs.Packing.{packed_length}
use Rattle.field.specs.Vectors.{◌⊕◌, ◌⊙◌, dot}
use Rattle.forms.specs.Sampling.{sample_elements}

-- m affine forms, equation (1): the k-th is its constant plus its row of n coefficients times the vector
pub record Affine : Type 0 where
  pub constants : List ℕ
  pub rows : List (List ℕ)

-- the three affine forms of each equation
pub record Circuit : Type 0 where
  pub A0 : Affine
  pub A1 : Affine
  pub A2 : Affine

-- ---- algorithm 8

-- lines 5 to 8: a row of n coefficients for each of m equations, one after another from a place of the tape on
unfoldable pub sample_rows : List ℕ → ℕ → ℕ → ℕ → List (List ℕ)
sample_rows x from n zero = []
sample_rows x from n (suc m) = sample_elements x from n ∷ sample_rows x (from + packed_length n) n m

-- lines 4 to 8, for one j: all m constants, then the m rows
unfoldable pub sample_affine : List ℕ → ℕ → ℕ → ℕ → Affine
sample_affine x from n m = record {
  constants = sample_elements x from m;
  rows = sample_rows x (from + packed_length m) n m;
}

-- the bytes of the tape that one j takes
unfoldable pub affine_length : ℕ → ℕ → ℕ
affine_length n m = packed_length m + m * packed_length n

-- ExpandCircuit(seed_f, F_16, n, m): j is 1, then 2, then 0
unfoldable pub expand_circuit : List ℕ → ℕ → ℕ → Circuit
expand_circuit seed_f n m = record {
  A1 = sample_affine seed_f 0 n m;
  A2 = sample_affine seed_f (affine_length n m) n m;
  A0 = sample_affine seed_f (affine_length n m + affine_length n m) n m;
}

-- ---- values

-- the forms without their constants, at a vector
unfoldable pub linear : Affine → List ℕ → List ℕ
linear A s = map (λ row. dot row s) A.rows

-- the forms at a vector
unfoldable pub affine : Affine → List ℕ → List ℕ
affine A s = A.constants ⊕ linear A s

-- algorithm 8, line 10: f(s), f = A0 + A1·A2
unfoldable pub evaluate : Circuit → List ℕ → List ℕ
evaluate f s = affine f.A0 s ⊕ affine f.A1 s ⊙ affine f.A2 s

-- algorithm 9, lines 2 to 6: A'(s) of party i; the constants are kept for party 1 only
unfoldable pub forms_of : ℕ → Affine → List ℕ → List ℕ
forms_of i A s = cond (eqb i 1) (affine A s) (linear A s)

-- algorithm 10, what EvalCircuit returns
pub record Evaluation : Type 0 where
  pub y : List ℕ
  pub t : List ℕ

-- algorithm 10, EvalCircuit(s, f): lines 2 to 5, with x and z written out
unfoldable pub eval_circuit : List ℕ → Circuit → Evaluation
eval_circuit s f = record {
  y = affine f.A2 s;
  t = affine f.A1 s ⊙ affine f.A2 s ⊕ affine f.A0 s;
}

-- document 01: "A key is consistent when t and y are the values that its own circuit seed and s give"
pub record Consistent (f : Circuit) (s t y : List ℕ) : Type 0 where
  pub second_form : y ≡ (eval_circuit s f).y
  pub target : t ≡ (eval_circuit s f).t
