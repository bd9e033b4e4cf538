-- Demand 3, the theorem that the shares add up: at each equation the check values of all parties sum to the challenge times (the equation's value minus its target),
-- plus (the second form times the mask, minus the helper). For every circuit, of any n and m, and every even number of parties from two up. Assumes nothing.
use mathlib.Core.Path.{◌≡◌, sym, ap, ap₂, ◌∙◌}
use mathlib.Core.List.{List, [], ◌∷◌}
use Prim.Native.Nat.{ℕ, ◌%◌, ◌<◌}
use native.Mathlib.Omega.{arith}
use lib.Bits.{bit_xor, xor_comm}
use lib.ListN.{length}
use Rattle.memory.proofs.Bits.{xor_assoc, xor_middle}
use Rattle.field.specs.Field.{mul}
use Rattle.field.specs.Vectors.{◌!◌, ◌⊕◌, ◌⊙◌, total}
use Rattle.field.proofs.Laws.{mul_comm, mul_assoc, mul-xor_l, mul-xor_r}
use Rattle.field.proofs.Vectors.{⊕-at, ⊙-at}
use Rattle.forms.specs.Circuit.{Circuit, affine, evaluate}
use Rattle.forms.proofs.Circuit.{evaluate_at}
use Rattle.parties.specs.Parties.{Share, parties, secret, mask, helper, x_of, y_of, z_of, alphas, vs}
use Rattle.parties.proofs.Totals.{total_x, total-y, total_z, total-alphas, total-vs}

-- the sum of the check values from the totals of x, y, z, a and c at one equation, under the challenge e
abbrev pub check_sum : ℕ → ℕ → ℕ → ℕ → ℕ → ℕ → ℕ
check_sum x y z a c e = bit_xor (bit_xor (mul y (bit_xor (mul x e) a)) (mul z e)) c

-- at each equation the check values sum to what the totals give
pub total-vs_at : (f : Circuit) (t ε : List ℕ) (ps : List Share) (k : ℕ)
    → total (vs f t ε ps) ! k
    ≡ check_sum (total (parties (x_of f) ps) ! k) (total (parties (y_of f) ps) ! k) (total (parties (z_of f t) ps) ! k) (mask ps ! k) (helper ps ! k) (ε ! k)
total-vs_at f t ε ps k =
    let x = total (parties (x_of f) ps) in
    let y = total (parties (y_of f) ps) in
    let z = total (parties (z_of f t) ps) in
    let α = total (alphas f ε ps) in
    ap (λ (r : List ℕ). r ! k) (total-vs f t ε ps)
    ∙ ⊕-at (y ⊙ α ⊕ z ⊙ ε) (helper ps) k
    ∙ ap (λ (r : ℕ). bit_xor r (helper ps ! k))
    (⊕-at (y ⊙ α) (z ⊙ ε) k
    ∙ ap₂ bit_xor
    (⊙-at y α k ∙ ap (mul (y ! k)) (ap (λ (r : List ℕ). r ! k) (total-alphas f ε ps) ∙ ⊕-at (x ⊙ ε) (mask ps) k ∙ ap (λ (r : ℕ). bit_xor r (mask ps ! k)) (⊙-at x ε k)))
    (⊙-at z ε k))

-- sums sorted
regroup : (p a z t c : ℕ) → bit_xor (bit_xor (bit_xor p a) (bit_xor z t)) c ≡ bit_xor (bit_xor (bit_xor z p) t) (bit_xor a c)
regroup p a z t c =
    ap (λ (r : ℕ). bit_xor r c)
    (xor_middle p a z t ∙ ap₂ bit_xor (xor_comm p z) (xor_comm a t) ∙ sym (xor_assoc (bit_xor z p) t a))
    ∙ xor_assoc (bit_xor (bit_xor z p) t) a c

-- y·(x·e) is e·(x·y)
products : (x y e : ℕ) → mul y (mul x e) ≡ mul e (mul x y)
products x y e = sym (mul_assoc y x e) ∙ ap (λ (r : ℕ). mul r e) (mul_comm y x) ∙ mul_comm (mul x y) e

-- the same sum, by challenge, equation and mask
check_sum_sorted : (x y z t a c e : ℕ) → check_sum x y (bit_xor z t) a c e ≡ bit_xor (mul e (bit_xor (bit_xor z (mul x y)) t)) (bit_xor (mul y a) c)
check_sum_sorted x y z t a c e =
    ap (λ (r : ℕ). bit_xor r c)
    (ap₂ bit_xor
    (mul-xor_r y (mul x e) a ∙ ap (λ (r : ℕ). bit_xor r (mul y a)) (products x y e))
    (mul-xor_l z t e ∙ ap₂ bit_xor (mul_comm z e) (mul_comm t e)))
    ∙ regroup (mul e (mul x y)) (mul y a) (mul e z) (mul e t) c
    ∙ sym (ap (λ (r : ℕ). bit_xor r (bit_xor (mul y a) c))
    (mul-xor_r e (bit_xor z (mul x y)) t ∙ ap (λ (r : ℕ). bit_xor r (mul e t)) (mul-xor_r e z (mul x y))))

-- the same sum at an equation
pub sum_at : (f : Circuit) (t ε : List ℕ) (ps : List Share) (k : ℕ) → 0 < length ps → length ps % 2 ≡ 0
    → total (vs f t ε ps) ! k
    ≡ bit_xor (mul (ε ! k) (bit_xor (evaluate f (secret ps) ! k) (t ! k))) (bit_xor (mul (affine f.A2 (secret ps) ! k) (mask ps ! k)) (helper ps ! k))
sum_at f t ε [] k h e = absurd (omega arith)
sum_at f t ε (p ∷ ps) k h e =
    let s = secret (p ∷ ps) in
    total-vs_at f t ε (p ∷ ps) k
    ∙ rw (total_x f p ps, total-y f p ps, total_z f t p ps k e)
    (check_sum_sorted (affine f.A1 s ! k) (affine f.A2 s ! k) (affine f.A0 s ! k) (t ! k) (mask (p ∷ ps) ! k) (helper (p ∷ ps) ! k) (ε ! k)
    ∙ ap (λ (r : ℕ). bit_xor (mul (ε ! k) (bit_xor r (t ! k))) (bit_xor (mul (affine f.A2 s ! k) (mask (p ∷ ps) ! k)) (helper (p ∷ ps) ! k))) (sym (evaluate_at f s k)))

-- Demand 3. For any secret, any even number of parties from two up, any shares summing to it, any masks, helpers and challenge: at each equation k the check values
-- sum to the challenge times (the equation's value minus the target), plus (the second form times the mask, minus the helper).
-- Secret, mask and helper are the sums over the parties of s, a and c. Addition and subtraction are both exclusive or.
pub shares-add_up : (f : Circuit) (t ε : List ℕ) (ps : List Share) (k : ℕ) → 0 < length ps → length ps % 2 ≡ 0
    → total (vs f t ε ps) ! k ≡ (ε ⊙ (evaluate f (secret ps) ⊕ t) ⊕ (affine f.A2 (secret ps) ⊙ mask ps ⊕ helper ps)) ! k
shares-add_up f t ε ps k h e =
    let s = secret ps in
    sum_at f t ε ps k h e
    ∙ sym (⊕-at (ε ⊙ (evaluate f s ⊕ t)) (affine f.A2 s ⊙ mask ps ⊕ helper ps) k
    ∙ ap₂ bit_xor
    (⊙-at ε (evaluate f s ⊕ t) k ∙ ap (mul (ε ! k)) (⊕-at (evaluate f s) t k))
    (⊕-at (affine f.A2 s ⊙ mask ps) (helper ps) k ∙ ap (λ (r : ℕ). bit_xor r (helper ps ! k)) (⊙-at (affine f.A2 s) (mask ps) k)))
