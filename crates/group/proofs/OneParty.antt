-- One party at one place: the corrections, the forms with the constants of party 1, α, y and z·ε + c, as the lanes have them.
-- Assumes nothing.
use mathlib.Core.Bool.{Bool, true, false, cond}
use mathlib.Core.List.{List, []}
use mathlib.Core.Path.{◌≡◌, refl, sym, ap, ◌∙◌}
use Prim.Native.Nat.{ℕ, ◌*◌, ◌-◌}
use native.Mathlib.Nat.{mul-zero, mul-one}
use lib.Bits.{bit_xor, xor_comm, xor_zero_r}
use lib.Dec.{eqb}
use Rattle.field.specs.Field.{mul}
use Rattle.field.specs.Vectors.{◌!◌, ◌⊕◌, ◌⊙◌}
use Rattle.field.proofs.Vectors.{⊕-at, ⊙-at}
use Rattle.forms.specs.Circuit.{Affine, Circuit, linear, affine, forms_of}
use Rattle.parties.specs.Parties.{Share, corrected, x_of, y_of, z_of, alpha_of}
use Rattle.group.specs.Shares.{rest_of}

-- a vector added where b holds
added_if : (b : Bool) (u v : List ℕ) (k : ℕ) → bit_xor (u ! k) ((v ! k) * cond b 1 0) ≡ cond b (u ⊕ v) u ! k
added_if true u v k = ap (bit_xor (u ! k)) (mul-one (v ! k)) ∙ sym (⊕-at u v k)
added_if false u v k = ap (bit_xor (u ! k)) (mul-zero (v ! k)) ∙ xor_zero_r (u ! k)

pub corrected-s_at : (Δs Δc : List ℕ) (i : ℕ) (p : Share) (k : ℕ) → bit_xor (p.s ! k) ((Δs ! k) * cond (eqb i 1) 1 0) ≡ (corrected Δs Δc i p).s ! k
unfolding corrected
corrected-s_at Δs Δc i p k = added_if (eqb i 1) p.s Δs k ∙ by (eqb i 1)
  where
    by : (b : Bool) → cond b (p.s ⊕ Δs) p.s ! k ≡ (cond b (record { s = p.s ⊕ Δs; a = p.a; c = p.c ⊕ Δc }) p).s ! k
    by true = refl
    by false = refl

pub corrected-a_at : (Δs Δc : List ℕ) (i : ℕ) (p : Share) (k : ℕ) → p.a ! k ≡ (corrected Δs Δc i p).a ! k
unfolding corrected
corrected-a_at Δs Δc i p k = by (eqb i 1)
  where
    by : (b : Bool) → p.a ! k ≡ (cond b (record { s = p.s ⊕ Δs; a = p.a; c = p.c ⊕ Δc }) p).a ! k
    by true = refl
    by false = refl

pub corrected-c_at : (Δs Δc : List ℕ) (i : ℕ) (p : Share) (k : ℕ) → bit_xor (p.c ! k) ((Δc ! k) * cond (eqb i 1) 1 0) ≡ (corrected Δs Δc i p).c ! k
unfolding corrected
corrected-c_at Δs Δc i p k = added_if (eqb i 1) p.c Δc k ∙ by (eqb i 1)
  where
    by : (b : Bool) → cond b (p.c ⊕ Δc) p.c ! k ≡ (cond b (record { s = p.s ⊕ Δs; a = p.a; c = p.c ⊕ Δc }) p).c ! k
    by true = refl
    by false = refl

-- party 1 keeps the constants
pub forms_of_at : (i : ℕ) (A : Affine) (s : List ℕ) (k : ℕ) → bit_xor (linear A s ! k) ((A.constants ! k) * cond (eqb i 1) 1 0) ≡ forms_of i A s ! k
unfolding forms_of affine
forms_of_at i A s k = by (eqb i 1)
  where
    by : (b : Bool) → bit_xor (linear A s ! k) ((A.constants ! k) * cond b 1 0) ≡ cond b (A.constants ⊕ linear A s) (linear A s) ! k
    by true = ap (bit_xor (linear A s ! k)) (mul-one (A.constants ! k)) ∙ xor_comm (linear A s ! k) (A.constants ! k) ∙ sym (⊕-at A.constants (linear A s) k)
    by false = ap (bit_xor (linear A s ! k)) (mul-zero (A.constants ! k)) ∙ xor_zero_r (linear A s ! k)

module _ (f : Circuit) (i h : ℕ) (p : Share) (k : ℕ) where
  pub alpha_at_lem : (ε given : List ℕ)
      → cond (eqb i h) (given ! k) (bit_xor (mul (forms_of i f.A1 p.s ! k) (ε ! k)) (p.a ! k)) ≡ cond (eqb i h) given (alpha_of f ε i p) ! k
  unfolding alpha_of x_of
  alpha_at_lem ε given = by (eqb i h)
    where
      by : (b : Bool) → cond b (given ! k) (bit_xor (mul (forms_of i f.A1 p.s ! k) (ε ! k)) (p.a ! k)) ≡ cond b given (forms_of i f.A1 p.s ⊙ ε ⊕ p.a) ! k
      by true = refl
      by false = sym (⊕-at (forms_of i f.A1 p.s ⊙ ε) p.a k ∙ ap (λ (x : ℕ). bit_xor x (p.a ! k)) (⊙-at (forms_of i f.A1 p.s) ε k))

  pub second_form_at : (forms_of i f.A2 p.s ! k) * (1 - cond (eqb i h) 1 0) ≡ cond (eqb i h) [] (y_of f i p) ! k
  unfolding y_of
  second_form_at = by (eqb i h)
    where
      by : (b : Bool) → (forms_of i f.A2 p.s ! k) * (1 - cond b 1 0) ≡ cond b [] (forms_of i f.A2 p.s) ! k
      by true = mul-zero (forms_of i f.A2 p.s ! k)
      by false = mul-one (forms_of i f.A2 p.s ! k)

  -- every party but the first has the target
  z_of_at : (t : List ℕ) → bit_xor (forms_of i f.A0 p.s ! k) (cond (eqb i 1) 0 (t ! k)) ≡ z_of f t i p ! k
  unfolding z_of
  z_of_at t = by (eqb i 1)
    where
      by : (b : Bool) → bit_xor (forms_of i f.A0 p.s ! k) (cond b 0 (t ! k)) ≡ cond b (forms_of i f.A0 p.s) (t ⊕ forms_of i f.A0 p.s) ! k
      by true = xor_zero_r (forms_of i f.A0 p.s ! k)
      by false = xor_comm (forms_of i f.A0 p.s ! k) (t ! k) ∙ sym (⊕-at t (forms_of i f.A0 p.s) k)

  pub rest_at : (t ε : List ℕ)
      → cond (eqb i h) 0 (bit_xor (mul (bit_xor (forms_of i f.A0 p.s ! k) (cond (eqb i 1) 0 (t ! k))) (ε ! k)) (p.c ! k))
      ≡ cond (eqb i h) [] (rest_of f t ε i p) ! k
  unfolding rest_of
  rest_at t ε =
      ap (λ (z : ℕ). cond (eqb i h) 0 (bit_xor (mul z (ε ! k)) (p.c ! k))) (z_of_at t) ∙ by (eqb i h)
    where
      by : (b : Bool) → cond b 0 (bit_xor (mul (z_of f t i p ! k) (ε ! k)) (p.c ! k)) ≡ cond b [] (z_of f t i p ⊙ ε ⊕ p.c) ! k
      by true = refl
      by false = sym (⊕-at (z_of f t i p ⊙ ε) p.c k ∙ ap (λ (x : ℕ). bit_xor x (p.c ! k)) (⊙-at (z_of f t i p) ε k))
