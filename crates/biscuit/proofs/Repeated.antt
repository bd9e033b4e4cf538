-- Repetitions laid one behind the other: how long they are together, where each of them stands, and that they go by their values from 1 to τ alone.
-- Assumes nothing.
use mathlib.Core.Path.{◌≡◌, refl, sym, ap, ap₂, ◌∙◌, subst}
use mathlib.Core.List.{List, ◌++◌}
use Prim.Native.Nat.{ℕ, zero, suc, ◌+◌, ◌-◌, ◌*◌, ◌≤◌, ◌<◌}
use native.Mathlib.Nat.{add-zero, suc-mul, zero-mul}
use native.Mathlib.Decide.{dec_lt}
use native.Mathlib.Numerals.{add-one}
use native.Mathlib.Omega.{arith}
use lib.ListN.{length, get_or, take, drop, length-append, length-take, get_or-append, get_or-eq_default}
use lib.Seq.{get_or-append-add, get_or-take, get_or-drop}
use Rattle.memory.proofs.Lists.{room}
use Rattle.memory.proofs.Stands.{StandsAt, stands_self, stands_before, stands_behind, stands_joined}
use Rattle.field.specs.Packing.{Elements}
use Rattle.biscuit.specs.Signature.{repeated}

-- the w of repetition e among those of τ repetitions
pub among : (e τ w : ℕ) → 1 ≤ e → e ≤ τ → (e - 1) * w + w ≤ τ * w
among e τ w h k = room (e - 1) τ w (omega arith)

-- where it ends, if the first begins at `from`
pub among_end : (e τ w from end v at : ℕ) → 1 ≤ e → e ≤ τ → from + τ * w ≤ end → v ≡ w → at ≡ from → at + (e - 1) * v + v ≤ end
among_end e τ w from end v at h k fits ev ea =
    let r = among e τ w h k in
    let g = ap (λ (x : ℕ). (e - 1) * x) ev in
    omega arith

repeated-suc : (τ : ℕ) (f : ℕ → List ℕ) → repeated (suc τ) f ≡ repeated τ f ++ f (suc τ)
unfolding repeated
repeated-suc τ f = refl

-- one repetition more
pub repeated_more : (i : ℕ) (f : ℕ → List ℕ) → repeated i f ++ f (i + 1) ≡ repeated (i + 1) f
repeated_more i f = ap (λ (j : ℕ). repeated i f ++ f j) (add-one i) ∙ sym (repeated-suc i f) ∙ ap (λ (j : ℕ). repeated j f) (sym (add-one i))

-- the values from 1 to τ decide
pub repeated-same : (τ : ℕ) (f g : ℕ → List ℕ) → ((e : ℕ) → 1 ≤ e → e ≤ τ → f e ≡ g e) → repeated τ f ≡ repeated τ g
unfolding repeated
repeated-same zero f g h = refl
repeated-same (suc τ) f g h =
    ap₂ (λ (x y : List ℕ). x ++ y) (repeated-same τ f g (λ e a b. h e a (omega arith))) (h (suc τ) (omega arith) (omega arith))

pub length-repeated : (τ : ℕ) (f : ℕ → List ℕ) (w : ℕ) → ((e : ℕ) → 1 ≤ e → e ≤ τ → length (f e) ≡ w) → length (repeated τ f) ≡ τ * w
unfolding repeated
length-repeated zero f w h = sym (zero-mul w)
length-repeated (suc τ) f w h =
    let a = length-repeated τ f w (λ e p q. h e p (omega arith)) in
    let b = h (suc τ) (omega arith) (omega arith) in
    let c = suc-mul τ w in
    let d = length-append (repeated τ f) (f (suc τ)) in
    omega arith

-- repetition e stands behind the e - 1 before it
pub repeated_stands : (τ : ℕ) (f : ℕ → List ℕ) (w : ℕ) → ((e : ℕ) → 1 ≤ e → e ≤ τ → length (f e) ≡ w)
    → (e : ℕ) → 1 ≤ e → e ≤ τ → StandsAt (repeated τ f) ((e - 1) * w) (f e)
unfolding repeated
repeated_stands zero f w h e p q = absurd (omega arith)
repeated_stands (suc τ) f w h e p q =
    elim (dec_lt e (suc τ)) as (λ d. StandsAt (repeated τ f ++ f (suc τ)) ((e - 1) * w) (f e)) [
      | yes y ↦ stands_before (repeated τ f) (f (suc τ)) ((e - 1) * w) (f e) (repeated_stands τ f w (λ i a b. h i a (omega arith)) e p (omega arith))
      | no y ↦ (let last : suc τ ≡ e = omega arith in
          subst (λ (i : ℕ). StandsAt (repeated τ f ++ f (suc τ)) ((i - 1) * w) (f i)) last
          (subst (λ (k : ℕ). StandsAt (repeated τ f ++ f (suc τ)) k (f (suc τ)))
          (add-zero (length (repeated τ f)) ∙ length-repeated τ f w (λ i a b. h i a (omega arith)) ∙ ap (λ (i : ℕ). i * w) (before τ))
          (stands_behind (repeated τ f) (f (suc τ)) 0 (f (suc τ)) (stands_self (f (suc τ))))))
    ]
  where
    before : (n : ℕ) → n ≡ suc n - 1
    before n = omega arith

-- repetitions that stand each at its place stand together
pub stands_repeated : (x : List ℕ) (k τ : ℕ) (f : ℕ → List ℕ) (w : ℕ) → k ≤ length x → ((e : ℕ) → 1 ≤ e → e ≤ τ → length (f e) ≡ w)
    → ((e : ℕ) → 1 ≤ e → e ≤ τ → StandsAt x (k + (e - 1) * w) (f e)) → StandsAt x k (repeated τ f)
unfolding repeated
stands_repeated x k zero f w h l s = record { fits = omega arith; entry = λ i g. absurd (omega arith) }
stands_repeated x k (suc τ) f w h l s =
    stands_joined x k (repeated τ f) (f (suc τ))
    (stands_repeated x k τ f w h (λ e a b. l e a (omega arith)) (λ e a b. s e a (omega arith)))
    (subst (λ (j : ℕ). StandsAt x (k + j) (f (suc τ)))
    (ap (λ (i : ℕ). i * w) (before τ) ∙ sym (length-repeated τ f w (λ e a b. l e a (omega arith)))) (s (suc τ) (omega arith) (omega arith)))
  where
    before : (n : ℕ) → suc n - 1 ≡ n
    before n = omega arith

-- ---- elements

pub append-elements : (u v : List ℕ) → Elements u → Elements v → Elements (u ++ v)
append-elements u v hu hv i =
    elim (dec_lt i (length u)) as (λ d. get_or (u ++ v) i 0 < 16) [
      | yes y ↦ (let e = get_or-append u v 0 i y in let g = hu i in omega arith)
      | no y ↦ (let k : i ≡ length u + (i - length u) = omega arith in
          let e = ap (λ (j : ℕ). get_or (u ++ v) j 0) k ∙ get_or-append-add u v (i - length u) 0 in
          let g = hv (i - length u) in
          omega arith)
    ]

pub take-elements : (n : ℕ) (v : List ℕ) → Elements v → Elements (take n v)
take-elements n v h i =
    elim (dec_lt i n) as (λ d. get_or (take n v) i 0 < 16) [
      | yes y ↦ (let e = get_or-take n v i 0 y in let g = h i in omega arith)
      | no y ↦ (let l = length-take n v in let e = get_or-eq_default (take n v) 0 {n = i} (omega arith) in omega arith)
    ]

pub drop-elements : (n : ℕ) (v : List ℕ) → Elements v → Elements (drop n v)
drop-elements n v h i = let e = get_or-drop n v i 0 in let g = h (n + i) in omega arith

pub repeated-elements : (τ : ℕ) (f : ℕ → List ℕ) → ((e : ℕ) → 1 ≤ e → e ≤ τ → Elements (f e)) → Elements (repeated τ f)
unfolding repeated
repeated-elements zero f h = λ i. omega arith
repeated-elements (suc τ) f h =
    append-elements (repeated τ f) (f (suc τ)) (repeated-elements τ f (λ e a b. h e a (omega arith))) (h (suc τ) (omega arith) (omega arith))
