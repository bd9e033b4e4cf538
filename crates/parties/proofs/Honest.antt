-- With a consistent key the check values sum to what the helper misses, y·a - c. So the sum is zero for the helper of honest signing (the second corollary of
-- demand 3, first half), and for the helper by the first form only where the two products agree. Assumes nothing.
use mathlib.Core.Path.{◌≡◌, sym, ap, ap₂, ◌∙◌}
use mathlib.Core.Logic.{◌↔◌}
use mathlib.Core.List.{List}
use Prim.Native.Nat.{ℕ, ◌%◌, ◌<◌}
use lib.Bits.{bit_xor, xor_self, xor_zero_l}
use lib.ListN.{length}
use Rattle.memory.proofs.Bits.{xor-zero-same}
use Rattle.field.specs.Field.{mul}
use Rattle.field.specs.Vectors.{◌!◌, ◌⊙◌, total}
use Rattle.field.proofs.Laws.{mul-zero_r}
use Rattle.field.proofs.Vectors.{⊙-at}
use Rattle.forms.specs.Circuit.{Circuit, Consistent, affine, evaluate}
use Rattle.forms.proofs.Circuit.{eval_circuit-t, eval_circuit-y}
use Rattle.parties.specs.Parties.{Share, secret, mask, helper, vs}
use Rattle.parties.proofs.SharesAddUp.{sum_at}

module _ (f : Circuit) (s t y ε : List ℕ) (ps : List Share) (some-party : 0 < length ps) (even : length ps % 2 ≡ 0)
    (key : Consistent f s t y) (sum : secret ps ≡ s) where
  -- every equation holds at the secret, so the challenge counts for nothing
  pub consistent-sum : (k : ℕ) → total (vs f t ε ps) ! k ≡ bit_xor ((y ⊙ mask ps) ! k) (helper ps ! k)
  consistent-sum k =
      sum_at f t ε ps k some-party even
      ∙ ap₂ bit_xor
      (ap (mul (ε ! k)) (ap (λ (x : ℕ). bit_xor x (t ! k)) holds ∙ xor_self (t ! k)) ∙ mul-zero_r (ε ! k))
      (ap (λ (x : ℕ). bit_xor x (helper ps ! k)) product)
      ∙ xor_zero_l (bit_xor ((y ⊙ mask ps) ! k) (helper ps ! k))
    where
      holds : evaluate f (secret ps) ! k ≡ t ! k
      holds = ap (λ (x : List ℕ). x ! k) (ap (evaluate f) sum ∙ sym (eval_circuit-t s f) ∙ sym key.target)

      product : mul (affine f.A2 (secret ps) ! k) (mask ps ! k) ≡ (y ⊙ mask ps) ! k
      product =
          ap (λ (x : List ℕ). mul (x ! k) (mask ps ! k)) (ap (affine f.A2) sum ∙ sym (eval_circuit-y s f) ∙ sym key.second_form)
          ∙ sym (⊙-at y (mask ps) k)

  -- With the helper of honest signing and a consistent key, the check values sum to 0 at every equation.
  pub honest_sum_is_zero : helper ps ≡ y ⊙ mask ps → (k : ℕ) → total (vs f t ε ps) ! k ≡ 0
  honest_sum_is_zero c k =
      consistent-sum k ∙ ap (λ (x : List ℕ). bit_xor ((y ⊙ mask ps) ! k) (x ! k)) c ∙ xor_self ((y ⊙ mask ps) ! k)

  -- "Taking the helper c as the first form times the mask": the sum is zero only where the two products agree.
  pub helper_by_first_form : helper ps ≡ affine f.A1 s ⊙ mask ps
      → (k : ℕ) → (total (vs f t ε ps) ! k ≡ 0) ↔ ((y ⊙ mask ps) ! k ≡ (affine f.A1 s ⊙ mask ps) ! k)
  helper_by_first_form c k =
      let q = affine f.A1 s ⊙ mask ps in
      let rest = consistent-sum k ∙ ap (λ (x : List ℕ). bit_xor ((y ⊙ mask ps) ! k) (x ! k)) c in
      (λ z. xor-zero-same ((y ⊙ mask ps) ! k) (q ! k) (sym rest ∙ z), λ i. rest ∙ ap (λ (x : ℕ). bit_xor x (q ! k)) i ∙ xor_self (q ! k))
