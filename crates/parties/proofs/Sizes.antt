-- How many entries the shares, their sums, α and v have: n for the secret and m for the rest, whatever lengths challenge and sums have.
-- Assumes nothing.
use mathlib.Core.Path.{◌≡◌}
use mathlib.Core.Bool.{Bool, true, false, cond}
use mathlib.Core.List.{List, [], ◌∷◌, map}
use Prim.Native.Nat.{ℕ, zero, suc, ◌<◌, ◌≤◌}
use native.Mathlib.Omega.{arith}
use lib.Dec.{eqb}
use lib.ListN.{length, get_or}
use Rattle.memory.proofs.Sections.{Each, no_section, one_more}
use Rattle.field.specs.Vectors.{◌⊕◌, ◌⊙◌, total}
use Rattle.field.proofs.Vectors.{length_⊕, length_⊙}
use Rattle.forms.specs.Circuit.{Affine, Circuit, linear, affine, forms_of}
use Rattle.forms.proofs.Circuit.{Forms, Equations, length-linear, length-affine}
use Rattle.parties.specs.Parties.{Share, numbered, parties, secret, mask, helper, x_of, y_of, z_of, alpha_of, v_of, alphas, vs}
use Rattle.parties.proofs.Numbered.{length-parties}

-- a share of n variables and m equations
pub record Sized (n m : ℕ) (p : Share) : Type 0 where
  pub s : length p.s ≡ n
  pub a : length p.a ≡ m
  pub c : length p.c ≡ m

-- every party's share is of that size
abbrev pub AllSized : ℕ → ℕ → List Share → Type 0
AllSized n m [] = Unit {0}
AllSized n m (p ∷ ps) = Sized n m p × AllSized n m ps

-- ---- sums over the parties

-- the sum of vectors of m entries has at most m, and exactly m where there is a vector
pub length-total-le : {m : ℕ} {l : List (List ℕ)} → Each m l → length (total l) ≤ m
unfolding total
length-total-le no_section = omega arith
length-total-le (one_more {s} {l} e r) = let k = length_⊕ s (total l) in let g = length-total-le r in omega arith

pub length-total : {m : ℕ} {l : List (List ℕ)} → 0 < length l → Each m l → length (total l) ≡ m
unfolding total
length-total h no_section = absurd (omega arith)
length-total h (one_more {s} {l} e r) = let k = length_⊕ s (total l) in let g = length-total-le r in omega arith

each_s : (n m : ℕ) (ps : List Share) → AllSized n m ps → Each n (map (λ p. p.s) ps)
each_s n m [] z = no_section
each_s n m (p ∷ ps) z = one_more z.0.s (each_s n m ps z.1)

each_a : (n m : ℕ) (ps : List Share) → AllSized n m ps → Each m (map (λ p. p.a) ps)
each_a n m [] z = no_section
each_a n m (p ∷ ps) z = one_more z.0.a (each_a n m ps z.1)

each_c : (n m : ℕ) (ps : List Share) → AllSized n m ps → Each m (map (λ p. p.c) ps)
each_c n m [] z = no_section
each_c n m (p ∷ ps) z = one_more z.0.c (each_c n m ps z.1)

pub length-secret-le : (n m : ℕ) (ps : List Share) → AllSized n m ps → length (secret ps) ≤ n
unfolding secret
length-secret-le n m ps z = length-total-le (each_s n m ps z)

pub length-mask : (n m : ℕ) (p : Share) (ps : List Share) → AllSized n m (p ∷ ps) → length (mask (p ∷ ps)) ≡ m
unfolding mask
length-mask n m p ps z = length-total (omega arith) (each_a n m (p ∷ ps) z)

pub length-helper-le : (n m : ℕ) (ps : List Share) → AllSized n m ps → length (helper ps) ≤ m
unfolding helper
length-helper-le n m ps z = length-total-le (each_c n m ps z)

-- ---- α and v of a party

length-forms_of-le : (m i : ℕ) (A : Affine) (s : List ℕ) → Forms m A → length (forms_of i A s) ≤ m
unfolding forms_of
length-forms_of-le m i A s h = by (eqb i 1)
  where
    by : (b : Bool) → length (cond b (affine A s) (linear A s)) ≤ m
    by true = let e = length-affine m A s h in omega arith
    by false = let e = length-linear A s in let r = h.rows in omega arith

length-z_of-le : (m i : ℕ) (f : Circuit) (t : List ℕ) (p : Share) → Equations m f → length t ≡ m → length (z_of f t i p) ≤ m
unfolding z_of
length-z_of-le m i f t p h e = by (eqb i 1)
  where
    by : (b : Bool) → length (cond b (forms_of i f.A0 p.s) (t ⊕ forms_of i f.A0 p.s)) ≤ m
    by true = length-forms_of-le m i f.A0 p.s h.A0
    by false =
        let l = length-forms_of-le m i f.A0 p.s h.A0 in
        let s = length_⊕ t (forms_of i f.A0 p.s) in
        omega arith

pub length-alpha_of : (m : ℕ) (f : Circuit) (ε : List ℕ) (i : ℕ) (p : Share) → Equations m f → length p.a ≡ m → length (alpha_of f ε i p) ≡ m
unfolding alpha_of x_of
length-alpha_of m f ε i p h a =
    let x = length-forms_of-le m i f.A1 p.s h.A1 in
    let xε = length_⊙ (forms_of i f.A1 p.s) ε in
    let all = length_⊕ (forms_of i f.A1 p.s ⊙ ε) p.a in
    omega arith

pub length-v_of : (m : ℕ) (f : Circuit) (t ε α : List ℕ) (i : ℕ) (p : Share) → Equations m f → length t ≡ m → length p.c ≡ m
    → length (v_of f t ε α i p) ≡ m
unfolding v_of y_of
length-v_of m f t ε α i p h e c =
    let y = length-forms_of-le m i f.A2 p.s h.A2 in
    let z = length-z_of-le m i f t p h e in
    let yα = length_⊙ (forms_of i f.A2 p.s) α in
    let zε = length_⊙ (z_of f t i p) ε in
    let both = length_⊕ (forms_of i f.A2 p.s ⊙ α) (z_of f t i p ⊙ ε) in
    let all = length_⊕ (forms_of i f.A2 p.s ⊙ α ⊕ z_of f t i p ⊙ ε) p.c in
    omega arith

-- ---- all α and all v

each_numbered : {n m : ℕ} (g : ℕ → Share → List ℕ) → ((i : ℕ) (p : Share) → Sized n m p → length (g i p) ≡ m)
    → (i : ℕ) (ps : List Share) → AllSized n m ps → Each m (numbered i g ps)
unfolding numbered
each_numbered g h i [] z = no_section
each_numbered g h i (p ∷ ps) z = one_more (h i p z.0) (each_numbered g h (suc i) ps z.1)

pub each_alpha : (n m : ℕ) (f : Circuit) (ε : List ℕ) (ps : List Share) → Equations m f → AllSized n m ps → Each m (alphas f ε ps)
unfolding alphas parties
each_alpha n m f ε ps h z = each_numbered (alpha_of f ε) (λ i p s. length-alpha_of m f ε i p h s.a) 1 ps z

pub each_v : (n m : ℕ) (f : Circuit) (t ε : List ℕ) (ps : List Share) → Equations m f → length t ≡ m → AllSized n m ps → Each m (vs f t ε ps)
unfolding vs parties
each_v n m f t ε ps h e z = each_numbered (v_of f t ε (total (alphas f ε ps))) (λ i p s. length-v_of m f t ε (total (alphas f ε ps)) i p h e s.c) 1 ps z

pub length-alphas : (f : Circuit) (ε : List ℕ) (ps : List Share) → length (alphas f ε ps) ≡ length ps
unfolding alphas
length-alphas f ε ps = length-parties (alpha_of f ε) ps

pub length-vs : (f : Circuit) (t ε : List ℕ) (ps : List Share) → length (vs f t ε ps) ≡ length ps
unfolding vs
length-vs f t ε ps = length-parties (v_of f t ε (total (alphas f ε ps))) ps

pub length-entry : {m : ℕ} {l : List (List ℕ)} (p : ℕ) → p < length l → Each m l → length (get_or l p []) ≡ m
length-entry p h no_section = absurd (omega arith)
length-entry zero h (one_more e r) = e
length-entry (suc p) h (one_more e r) = length-entry p (omega arith) r
