-- The first corollary of demand 3: a secret that misses an equation passes there for exactly one of the sixteen challenges, whatever mask and helper are.
-- The constants of A0, the target and the helper are elements, that is below 16; nothing else is asked. Assumes nothing.
use mathlib.Core.Path.{◌≡◌, sym, ap, ◌∙◌}
use mathlib.Core.Logic.{◌↔◌, ◌≢◌}
use mathlib.Core.List.{List}
use Prim.Native.Nat.{ℕ, ◌%◌, ◌<◌}
use native.Mathlib.Nat.{mod-eq_of_lt}
use lib.Bits.{bit_xor, xor_self, xor_lt}
use lib.ListN.{length}
use Rattle.memory.proofs.Bits.{xor-zero-same}
use Rattle.field.specs.Field.{mul}
use Rattle.field.specs.Packing.{Elements}
use Rattle.field.specs.Vectors.{◌!◌, total}
use Rattle.field.proofs.Laws.{mul-lt, quotient}
use Rattle.forms.specs.Circuit.{Circuit, affine, evaluate}
use Rattle.forms.proofs.Circuit.{evaluate-elements}
use Rattle.parties.specs.Parties.{Share, secret, mask, helper, vs}
use Rattle.parties.proofs.SharesAddUp.{sum_at}

-- e·d + r is 0 for one e alone, where d is an element other than 0 and r an element
record OnlyZero (d r : ℕ) : Type 0 where
  root : ℕ
  small : root < 16
  zero_iff : (e : ℕ) → e < 16 → (bit_xor (mul e d) r ≡ 0) ↔ (e ≡ root)

only_zero : (d r : ℕ) → d ≢ 0 → d < 16 → r < 16 → OnlyZero d r
only_zero d r nz hd hr =
    let q = quotient r d (λ z. nz (sym (mod-eq_of_lt hd) ∙ z)) hr in
    record {
      root = q.result;
      small = q.small;
      zero_iff = λ e he. (
        λ z. q.only e he (xor-zero-same (mul e d) r z),
        λ i. ap (λ (x : ℕ). bit_xor (mul x d) r) i ∙ ap (λ (x : ℕ). bit_xor x r) q.exact ∙ xor_self r,
      );
    }

-- A secret that misses equation k passes there for exactly one of the sixteen challenges, whatever mask and helper are.
pub one-challenge_of_sixteen : (f : Circuit) (t : List ℕ) (ps : List Share) (k : ℕ)
    → 0 < length ps → length ps % 2 ≡ 0
    → Elements f.A0.constants → Elements t → Elements (helper ps)
    → evaluate f (secret ps) ! k ≢ t ! k
    → (e₀ : ℕ) × (e₀ < 16) × ((ε : List ℕ) → ε ! k < 16 → (total (vs f t ε ps) ! k ≡ 0) ↔ (ε ! k ≡ e₀))
one-challenge_of_sixteen f t ps k h e he ht hc miss =
    let value = evaluate f (secret ps) ! k in
    let off = bit_xor value (t ! k) in
    let rest = bit_xor (mul (affine f.A2 (secret ps) ! k) (mask ps ! k)) (helper ps ! k) in
    let only = only_zero off rest
    (λ z. miss (xor-zero-same value (t ! k) z))
    (xor_lt 4 value (t ! k) (evaluate-elements f (secret ps) he k) (ht k))
    (xor_lt 4 (mul (affine f.A2 (secret ps) ! k) (mask ps ! k)) (helper ps ! k) (mul-lt _ _) (hc k)) in (
      only.root,
      only.small,
      λ ε small. (
        λ z. (only.zero_iff (ε ! k) small).0 (sym (sum_at f t ε ps k h e) ∙ z),
        λ i. sum_at f t ε ps k h e ∙ (only.zero_iff (ε ! k) small).1 i,
      ),
    )
