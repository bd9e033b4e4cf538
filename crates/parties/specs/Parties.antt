-- The parties of one repetition and the multiplication check that they run together: algorithm 9 of the submission, and lines 16 to 32 of algorithm 12.
-- A list has an entry for each party; party 1 comes first. Addition and subtraction of vectors are both `⊕`.
-- Assumes nothing.
use Rattle.std.specs.Prelude.{cond, List, [], ◌∷◌, map, ℕ, suc, eqb}
use Rattle.field.specs.Vectors.{◌⊕◌, ◌⊙◌, total}
use Rattle.forms.specs.Circuit.{Circuit, forms_of}

-- a party's shares of secret, mask and helper
pub record Share : Type 0 where
  pub s : List ℕ
  pub a : List ℕ
  pub c : List ℕ

-- g at each entry with its number, counted from i
unfoldable pub numbered : {A B : Type 0} → ℕ → (ℕ → A → B) → List A → List B
numbered i g [] = []
numbered i g (x ∷ l) = g i x ∷ numbered (suc i) g l

-- g at each party with its number, counted from 1
unfoldable pub parties : {A B : Type 0} → (ℕ → A → B) → List A → List B
parties g l = numbered 1 g l

-- "secret, mask and helper mean the sums over the parties of s, a and c" (document 01)
unfoldable pub secret : List Share → List ℕ
secret ps = total (map (λ p. p.s) ps)

unfoldable pub mask : List Share → List ℕ
mask ps = total (map (λ p. p.a) ps)

unfoldable pub helper : List Share → List ℕ
helper ps = total (map (λ p. p.c) ps)

-- algorithm 12, lines 16 and 17: party 1 alone adds the corrections
unfoldable pub corrected : List ℕ → List ℕ → ℕ → Share → Share
corrected Δs Δc i p = cond (eqb i 1) (record { s = p.s ⊕ Δs; a = p.a; c = p.c ⊕ Δc }) p

-- algorithm 9, LinearCircuit: x, y and z of party i. Line 7
unfoldable pub x_of : Circuit → ℕ → Share → List ℕ
x_of f i p = forms_of i f.A1 p.s

-- line 8
unfoldable pub y_of : Circuit → ℕ → Share → List ℕ
y_of f i p = forms_of i f.A2 p.s

-- lines 9 to 13: -A0'(s) for party 1, t - A0'(s) for every other
unfoldable pub z_of : Circuit → List ℕ → ℕ → Share → List ℕ
z_of f t i p = cond (eqb i 1) (forms_of i f.A0 p.s) (t ⊕ forms_of i f.A0 p.s)

-- algorithm 12, line 27: α of party i under the challenge ε
unfoldable pub alpha_of : Circuit → List ℕ → ℕ → Share → List ℕ
alpha_of f ε i p = x_of f i p ⊙ ε ⊕ p.a

-- algorithm 12, line 31: v of party i, with α the sum of all parties' α
unfoldable pub v_of : Circuit → List ℕ → List ℕ → List ℕ → ℕ → Share → List ℕ
v_of f t ε α i p = y_of f i p ⊙ α ⊕ z_of f t i p ⊙ ε ⊕ p.c

-- every party's α
unfoldable pub alphas : Circuit → List ℕ → List Share → List (List ℕ)
alphas f ε ps = parties (alpha_of f ε) ps

-- every party's v; algorithm 12, line 29: α is the sum of all α
unfoldable pub vs : Circuit → List ℕ → List ℕ → List Share → List (List ℕ)
vs f t ε ps = parties (v_of f t ε (total (alphas f ε ps))) ps
