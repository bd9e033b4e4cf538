-- The laws of vectors: what stands at each place of a sum and of a product, lengths, sums in any order and grouping, products over sums,
-- a row times a sum, and the sum of many vectors. They hold of all lists, of equal length or not.
-- Assumes nothing.
use mathlib.Core.Path.{◌≡◌, refl, sym, ap, ap₂, ◌∙◌}
use mathlib.Core.List.{List, [], ◌∷◌, ◌++◌}
use Prim.Native.Nat.{ℕ, zero, suc, ◌<◌, min, max}
use native.Mathlib.Omega.{arith}
use lib.Bits.{bit_xor, xor_zero_l, xor_zero_r, xor_comm, xor_self, xor_lt}
use lib.Dec.{lit<}
use lib.ListN.{length, take}
use lib.Seq.{take-nil}
use Rattle.memory.proofs.Bits.{xor_assoc, xor_middle}
use Rattle.field.specs.Field.{mul}
use Rattle.field.specs.Packing.{Elements}
use Rattle.field.specs.Vectors.{◌!◌, ◌⊕◌, ◌⊙◌, dot, total}
use Rattle.field.proofs.Laws.{mul-lt, mul_comm, mul_assoc, mul-zero_l, mul-zero_r, mul-xor_r}

-- ---- sums

pub ⊕-at : (u v : List ℕ) (k : ℕ) → (u ⊕ v) ! k ≡ bit_xor (u ! k) (v ! k)
unfolding ◌⊕◌
⊕-at [] v k = sym (xor_zero_l (v ! k))
⊕-at (a ∷ u) [] k = sym (xor_zero_r ((a ∷ u) ! k))
⊕-at (a ∷ u) (b ∷ v) zero = refl
⊕-at (a ∷ u) (b ∷ v) (suc k) = ⊕-at u v k

pub length_⊕ : (u v : List ℕ) → length (u ⊕ v) ≡ max (length u) (length v)
unfolding ◌⊕◌
length_⊕ [] v = omega arith
length_⊕ (a ∷ u) [] = omega arith
length_⊕ (a ∷ u) (b ∷ v) = let e = length_⊕ u v in omega arith

pub ⊕-nil-r : (u : List ℕ) → u ⊕ [] ≡ u
unfolding ◌⊕◌
⊕-nil-r [] = refl
⊕-nil-r (a ∷ u) = refl

pub ⊕-comm : (u v : List ℕ) → u ⊕ v ≡ v ⊕ u
unfolding ◌⊕◌
⊕-comm [] [] = refl
⊕-comm [] (b ∷ v) = refl
⊕-comm (a ∷ u) [] = refl
⊕-comm (a ∷ u) (b ∷ v) = ap₂ (λ (x : ℕ) (l : List ℕ). x ∷ l) (xor_comm a b) (⊕-comm u v)

pub ⊕-assoc : (u v w : List ℕ) → (u ⊕ v) ⊕ w ≡ u ⊕ (v ⊕ w)
unfolding ◌⊕◌
⊕-assoc [] v w = refl
⊕-assoc (a ∷ u) [] w = refl
⊕-assoc (a ∷ u) (b ∷ v) [] = refl
⊕-assoc (a ∷ u) (b ∷ v) (c ∷ w) = ap₂ (λ (x : ℕ) (l : List ℕ). x ∷ l) (xor_assoc a b c) (⊕-assoc u v w)

-- a vector added to itself is zero at every place
pub ⊕-self : (u : List ℕ) (k : ℕ) → (u ⊕ u) ! k ≡ 0
⊕-self u k = ⊕-at u u k ∙ xor_self (u ! k)

pub ⊕-elements : (u v : List ℕ) → Elements u → Elements v → Elements (u ⊕ v)
⊕-elements u v hu hv k = rw (⊕-at u v k) (xor_lt 4 (u ! k) (v ! k) (hu k) (hv k))

-- ---- products

pub ⊙-at : (u v : List ℕ) (k : ℕ) → (u ⊙ v) ! k ≡ mul (u ! k) (v ! k)
unfolding ◌⊙◌
⊙-at [] v k = sym (mul-zero_l (v ! k))
⊙-at (a ∷ u) [] k = sym (mul-zero_r ((a ∷ u) ! k))
⊙-at (a ∷ u) (b ∷ v) zero = refl
⊙-at (a ∷ u) (b ∷ v) (suc k) = ⊙-at u v k

pub length_⊙ : (u v : List ℕ) → length (u ⊙ v) ≡ min (length u) (length v)
unfolding ◌⊙◌
length_⊙ [] v = omega arith
length_⊙ (a ∷ u) [] = omega arith
length_⊙ (a ∷ u) (b ∷ v) = let e = length_⊙ u v in omega arith

pub ⊙-elements : (u v : List ℕ) → Elements (u ⊙ v)
⊙-elements u v k = rw (⊙-at u v k) (mul-lt (u ! k) (v ! k))

pub ⊙-comm : (u v : List ℕ) → u ⊙ v ≡ v ⊙ u
unfolding ◌⊙◌
⊙-comm [] [] = refl
⊙-comm [] (b ∷ v) = refl
⊙-comm (a ∷ u) [] = refl
⊙-comm (a ∷ u) (b ∷ v) = ap₂ (λ (x : ℕ) (l : List ℕ). x ∷ l) (mul_comm a b) (⊙-comm u v)

pub ⊙-assoc : (u v w : List ℕ) → (u ⊙ v) ⊙ w ≡ u ⊙ (v ⊙ w)
unfolding ◌⊙◌
⊙-assoc [] v w = refl
⊙-assoc (a ∷ u) [] w = refl
⊙-assoc (a ∷ u) (b ∷ v) [] = refl
⊙-assoc (a ∷ u) (b ∷ v) (c ∷ w) = ap₂ (λ (x : ℕ) (l : List ℕ). x ∷ l) (mul_assoc a b c) (⊙-assoc u v w)

pub ⊙-⊕-r : (u v w : List ℕ) → u ⊙ (v ⊕ w) ≡ (u ⊙ v) ⊕ (u ⊙ w)
unfolding ◌⊕◌ ◌⊙◌
⊙-⊕-r [] v w = refl
⊙-⊕-r (a ∷ u) [] w = refl
⊙-⊕-r (a ∷ u) (b ∷ v) [] = refl
⊙-⊕-r (a ∷ u) (b ∷ v) (c ∷ w) = ap₂ (λ (x : ℕ) (l : List ℕ). x ∷ l) (mul-xor_r a b c) (⊙-⊕-r u v w)

pub ⊙-⊕-l : (u v w : List ℕ) → (u ⊕ v) ⊙ w ≡ (u ⊙ w) ⊕ (v ⊙ w)
⊙-⊕-l u v w = ⊙-comm (u ⊕ v) w ∙ ⊙-⊕-r w u v ∙ ap₂ ◌⊕◌ (⊙-comm w u) (⊙-comm w v)

-- ---- a row times a vector

pub dot-lt : (r s : List ℕ) → dot r s < 16
unfolding dot
dot-lt [] s = lit< tt
dot-lt (a ∷ r) [] = lit< tt
dot-lt (a ∷ r) (b ∷ s) = xor_lt 4 (mul a b) (dot r s) (mul-lt a b) (dot-lt r s)

pub dot_comm : (r s : List ℕ) → dot r s ≡ dot s r
unfolding dot
dot_comm [] [] = refl
dot_comm [] (b ∷ s) = refl
dot_comm (a ∷ r) [] = refl
dot_comm (a ∷ r) (b ∷ s) = ap₂ bit_xor (mul_comm a b) (dot_comm r s)

pub dot_⊕_r : (r u v : List ℕ) → dot r (u ⊕ v) ≡ bit_xor (dot r u) (dot r v)
unfolding dot ◌⊕◌
dot_⊕_r [] u v = refl
dot_⊕_r (a ∷ r) [] v = sym (xor_zero_l (dot (a ∷ r) v))
dot_⊕_r (a ∷ r) (b ∷ u) [] = sym (xor_zero_r (dot (a ∷ r) (b ∷ u)))
dot_⊕_r (a ∷ r) (b ∷ u) (c ∷ v) =
    ap₂ bit_xor (mul-xor_r a b c) (dot_⊕_r r u v) ∙ xor_middle (mul a b) (mul a c) (dot r u) (dot r v)

pub dot_⊕_l : (r p u : List ℕ) → dot (r ⊕ p) u ≡ bit_xor (dot r u) (dot p u)
dot_⊕_l r p u = dot_comm (r ⊕ p) u ∙ dot_⊕_r u r p ∙ ap₂ bit_xor (dot_comm u r) (dot_comm u p)

-- a row laid behind a row, and a vector behind a vector as long
pub dot-append : (r r' s s' : List ℕ) → length r ≡ length s → dot (r ++ r') (s ++ s') ≡ bit_xor (dot r s) (dot r' s')
unfolding dot
dot-append [] r' [] s' e = sym (xor_zero_l (dot r' s'))
dot-append [] r' (b ∷ s) s' e = absurd (omega arith)
dot-append (a ∷ r) r' [] s' e = absurd (omega arith)
dot-append (a ∷ r) r' (b ∷ s) s' e =
    ap (bit_xor (mul a b)) (dot-append r r' s s' (omega arith)) ∙ sym (xor_assoc (mul a b) (dot r s) (dot r' s'))

pub dot-nil_r : (r : List ℕ) → dot r [] ≡ 0
unfolding dot
dot-nil_r [] = refl
dot-nil_r (a ∷ r) = refl

-- one coefficient more, as a loop adds it
pub dot-take-suc : (r s : List ℕ) (k : ℕ) → dot (take (suc k) r) s ≡ bit_xor (dot (take k r) s) (mul (r ! k) (s ! k))
unfolding dot
dot-take-suc [] s k = sym (ap₂ bit_xor (ap (λ (l : List ℕ). dot l s) (take-nil k)) (mul-zero_l (s ! k)))
dot-take-suc (a ∷ r) [] k = sym (ap₂ bit_xor (dot-nil_r (take k (a ∷ r))) (mul-zero_r ((a ∷ r) ! k)))
dot-take-suc (a ∷ r) (b ∷ s) zero = xor_comm (mul a b) 0
dot-take-suc (a ∷ r) (b ∷ s) (suc k) =
    ap (bit_xor (mul a b)) (dot-take-suc r s k) ∙ sym (xor_assoc (mul a b) (dot (take k r) s) (mul (r ! k) (s ! k)))

-- ---- the sum of many vectors

pub total-append : (l m : List (List ℕ)) → total (l ++ m) ≡ total l ⊕ total m
unfolding total ◌⊕◌
total-append [] m = refl
total-append (v ∷ l) m = ap (λ (x : List ℕ). v ⊕ x) (total-append l m) ∙ sym (⊕-assoc v (total l) (total m))

-- one vector more at the end, as a loop adds it
pub total-snoc : (l : List (List ℕ)) (v : List ℕ) → total (l ++ (v ∷ [])) ≡ total l ⊕ v
unfolding total
total-snoc l v = total-append l (v ∷ []) ∙ ap (λ (x : List ℕ). total l ⊕ x) (⊕-nil-r v)
