-- Sums over the parties: of sums and products with one vector, of the forms, and of the check values. Each is an equation of whole vectors, of any lengths;
-- only the target, which every party but the first adds, is summed place by place. Assumes nothing.
use mathlib.Core.Path.{◌≡◌, refl, sym, ap, ap₂, ◌∙◌}
use mathlib.Core.List.{List, [], ◌∷◌, map}
use Prim.Native.Nat.{ℕ, suc, ◌%◌, ◌≤◌}
use native.Mathlib.Omega.{arith}
use borrow.Author.Tests.{ne_eqb}
use lib.Bits.{bit_xor, xor_zero_r}
use lib.ListN.{length}
use Rattle.memory.proofs.Bits.{xor_cancel}
use Rattle.field.specs.Vectors.{◌!◌, ◌⊕◌, ◌⊙◌, total}
use Rattle.field.proofs.Vectors.{⊕-at, ⊕-nil-r, ⊕-comm, ⊕-assoc, ⊙-⊕-l}
use Rattle.forms.specs.Circuit.{Affine, Circuit, linear, affine, forms_of}
use Rattle.forms.proofs.Circuit.{linear_⊕, forms_of-first, forms_of_other}
use Rattle.parties.specs.Parties.{Share, numbered, parties, secret, mask, helper, x_of, y_of, z_of, alpha_of, v_of, alphas, vs}
use Rattle.parties.proofs.Numbered.{numbered-map, numbered-same}

-- ---- vectors

pub ⊕-middle : (a b c d : List ℕ) → (a ⊕ b) ⊕ (c ⊕ d) ≡ (a ⊕ c) ⊕ (b ⊕ d)
⊕-middle a b c d =
    ⊕-assoc a b (c ⊕ d)
    ∙ ap (λ (x : List ℕ). a ⊕ x) (sym (⊕-assoc b c d) ∙ ap (λ (x : List ℕ). x ⊕ d) (⊕-comm b c) ∙ ⊕-assoc c b d)
    ∙ sym (⊕-assoc a c (b ⊕ d))

module _ {A : Type 0} (g h : ℕ → A → List ℕ) where
  pub total_⊕ : (i : ℕ) (l : List A) → total (numbered i (λ j x. g j x ⊕ h j x) l) ≡ total (numbered i g l) ⊕ total (numbered i h l)
  unfolding numbered total ◌⊕◌
  total_⊕ i [] = refl
  total_⊕ i (x ∷ l) =
      ap (λ (r : List ℕ). (g i x ⊕ h i x) ⊕ r) (total_⊕ (suc i) l)
      ∙ ⊕-middle (g i x) (h i x) (total (numbered (suc i) g l)) (total (numbered (suc i) h l))

pub total_⊙ : {A : Type 0} (g : ℕ → A → List ℕ) (u : List ℕ) (i : ℕ) (l : List A)
    → total (numbered i (λ j x. g j x ⊙ u) l) ≡ total (numbered i g l) ⊙ u
unfolding numbered total ◌⊙◌
total_⊙ g u i [] = refl
total_⊙ g u i (x ∷ l) =
    ap (λ (r : List ℕ). (g i x ⊙ u) ⊕ r) (total_⊙ g u (suc i) l) ∙ sym (⊙-⊕-l (g i x) (total (numbered (suc i) g l)) u)

-- ---- the forms

linear-nil_r : (A : Affine) (s : List ℕ) → linear A s ⊕ [] ≡ linear A (s ⊕ [])
linear-nil_r A s = ⊕-nil-r (linear A s) ∙ ap (linear A) (sym (⊕-nil-r s))

-- of one party or more, the forms without constants sum to those of the secret
pub total-linear : (A : Affine) (p : Share) (ps : List Share) → total (map (λ q. linear A q.s) (p ∷ ps)) ≡ linear A (secret (p ∷ ps))
unfolding secret total
total-linear A p [] = linear-nil_r A p.s
total-linear A p (q ∷ ps) =
    ap (λ (r : List ℕ). linear A p.s ⊕ r) (total-linear A q ps) ∙ sym (linear_⊕ A p.s (total (map (λ r. r.s) (q ∷ ps))))

-- party 1 has the constants, so the forms of all parties sum to those of the secret
pub total_forms : (A : Affine) (p : Share) (ps : List Share) → total (parties (λ i q. forms_of i A q.s) (p ∷ ps)) ≡ affine A (secret (p ∷ ps))
unfolding parties numbered total affine
total_forms A p ps =
    ap₂ ◌⊕◌ (forms_of-first A p.s) (ap total others)
    ∙ ⊕-assoc A.constants (linear A p.s) (total (map (λ q. linear A q.s) ps))
    ∙ ap (λ (r : List ℕ). A.constants ⊕ r) (total-linear A p ps)
  where
    others : numbered 2 (λ i q. forms_of i A q.s) ps ≡ map (λ q. linear A q.s) ps
    others =
        numbered-same (λ i q. forms_of i A q.s) (λ i q. linear A q.s) 2 ps (λ i q h. forms_of_other i A q.s h)
        ∙ numbered-map (λ (q : Share). linear A q.s) 2 ps

pub total_x : (f : Circuit) (p : Share) (ps : List Share) → total (parties (x_of f) (p ∷ ps)) ≡ affine f.A1 (secret (p ∷ ps))
unfolding x_of
total_x f p ps = total_forms f.A1 p ps

pub total-y : (f : Circuit) (p : Share) (ps : List Share) → total (parties (y_of f) (p ∷ ps)) ≡ affine f.A2 (secret (p ∷ ps))
unfolding y_of
total-y f p ps = total_forms f.A2 p ps

-- ---- the target: an even number of parties add it an odd number of times

total-even : (t : List ℕ) (i : ℕ) (ps : List Share) (k : ℕ) → length ps % 2 ≡ 0 → total (numbered i (λ j q. t) ps) ! k ≡ 0
unfolding numbered total
total-even t i [] k h = refl
total-even t i (p ∷ []) k h = absurd (omega arith)
total-even t i (p ∷ q ∷ ps) k h =
    ⊕-at t (t ⊕ total (numbered (suc (suc i)) (λ j r. t) ps)) k
    ∙ ap (bit_xor (t ! k)) (⊕-at t (total (numbered (suc (suc i)) (λ j r. t) ps)) k)
    ∙ xor_cancel (t ! k) (total (numbered (suc (suc i)) (λ j r. t) ps) ! k)
    ∙ total-even t (suc (suc i)) ps k (omega arith)

total_odd : (t : List ℕ) (i : ℕ) (ps : List Share) (k : ℕ) → length ps % 2 ≡ 1 → total (numbered i (λ j q. t) ps) ! k ≡ t ! k
unfolding numbered total
total_odd t i [] k h = absurd (omega arith)
total_odd t i (p ∷ ps) k h =
    ⊕-at t (total (numbered (suc i) (λ j r. t) ps)) k
    ∙ ap (bit_xor (t ! k)) (total-even t (suc i) ps k (omega arith))
    ∙ xor_zero_r (t ! k)

z_of-first : (f : Circuit) (t : List ℕ) (p : Share) → z_of f t 1 p ≡ affine f.A0 p.s
unfolding z_of
z_of-first f t p = forms_of-first f.A0 p.s

z_of_other : (f : Circuit) (t : List ℕ) (i : ℕ) (p : Share) → 2 ≤ i → z_of f t i p ≡ t ⊕ linear f.A0 p.s
unfolding z_of
z_of_other f t i p h = rw (ne_eqb i 1 (λ e. omega arith)) (ap (λ (r : List ℕ). t ⊕ r) (forms_of_other i f.A0 p.s h))

-- "As N is even, the sum is t - A0(s)" (document 01)
pub total_z : (f : Circuit) (t : List ℕ) (p : Share) (ps : List Share) (k : ℕ) → length (p ∷ ps) % 2 ≡ 0
    → total (parties (z_of f t) (p ∷ ps)) ! k ≡ bit_xor (affine f.A0 (secret (p ∷ ps)) ! k) (t ! k)
unfolding parties numbered total affine
total_z f t p ps k h =
    ap (λ (r : List ℕ). r ! k)
    (ap₂ ◌⊕◌ (z_of-first f t p) (ap total others ∙ total_⊕ (λ i q. t) (λ i q. linear f.A0 q.s) 2 ps ∙ ⊕-comm targets (total (numbered 2 (λ i q. linear f.A0 q.s) ps)))
    ∙ sym (⊕-assoc (affine f.A0 p.s) (total (numbered 2 (λ i q. linear f.A0 q.s) ps)) targets)
    ∙ ap (λ (r : List ℕ). r ⊕ targets)
    (ap (λ (l : List (List ℕ)). affine f.A0 p.s ⊕ total l) (numbered-map (λ (q : Share). linear f.A0 q.s) 2 ps)
    ∙ ⊕-assoc f.A0.constants (linear f.A0 p.s) (total (map (λ q. linear f.A0 q.s) ps))
    ∙ ap (λ (r : List ℕ). f.A0.constants ⊕ r) (total-linear f.A0 p ps)))
    ∙ ⊕-at (affine f.A0 (secret (p ∷ ps))) targets k
    ∙ ap (bit_xor (affine f.A0 (secret (p ∷ ps)) ! k)) (total_odd t 2 ps k (omega arith))
  where
    targets : List ℕ
    targets = total (numbered 2 (λ i q. t) ps)

    others : numbered 2 (z_of f t) ps ≡ numbered 2 (λ i q. t ⊕ linear f.A0 q.s) ps
    others = numbered-same (z_of f t) (λ i q. t ⊕ linear f.A0 q.s) 2 ps (λ i q g. z_of_other f t i q g)

-- ---- α and v

total-mask : (ps : List Share) → total (numbered 1 (λ i p. p.a) ps) ≡ mask ps
unfolding mask
total-mask ps = ap total (numbered-map (λ (p : Share). p.a) 1 ps)

total-helper : (ps : List Share) → total (numbered 1 (λ i p. p.c) ps) ≡ helper ps
unfolding helper
total-helper ps = ap total (numbered-map (λ (p : Share). p.c) 1 ps)

-- the sum of all α: the sum of x times the challenge, plus the mask
pub total-alphas : (f : Circuit) (ε : List ℕ) (ps : List Share) → total (alphas f ε ps) ≡ total (parties (x_of f) ps) ⊙ ε ⊕ mask ps
unfolding alphas alpha_of parties
total-alphas f ε ps =
    total_⊕ (λ i p. x_of f i p ⊙ ε) (λ i p. p.a) 1 ps ∙ ap₂ ◌⊕◌ (total_⊙ (x_of f) ε 1 ps) (total-mask ps)

-- the sum of all v: the sum of y times the sum of α, plus the sum of z times the challenge, plus the helper
pub total-vs : (f : Circuit) (t ε : List ℕ) (ps : List Share)
    → total (vs f t ε ps) ≡ total (parties (y_of f) ps) ⊙ total (alphas f ε ps) ⊕ total (parties (z_of f t) ps) ⊙ ε ⊕ helper ps
unfolding vs v_of parties
total-vs f t ε ps =
    let α = total (alphas f ε ps) in
    total_⊕ (λ i p. y_of f i p ⊙ α ⊕ z_of f t i p ⊙ ε) (λ i p. p.c) 1 ps
    ∙ ap₂ ◌⊕◌
    (total_⊕ (λ i p. y_of f i p ⊙ α) (λ i p. z_of f t i p ⊙ ε) 1 ps ∙ ap₂ ◌⊕◌ (total_⊙ (y_of f) α 1 ps) (total_⊙ (z_of f t) ε 1 ps))
    (total-helper ps)
