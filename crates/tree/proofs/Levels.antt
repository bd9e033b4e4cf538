-- One level of the tree: what `new_seeds` gives at each place.
-- Assumes nothing.
use mathlib.Core.Path.{◌≡◌, refl, sym, ap, ◌∙◌}
use mathlib.Core.Bool.{Bool, cond}
use mathlib.Core.List.{List, [], ◌∷◌, ◌++◌}
use Prim.Native.Nat.{ℕ, zero, suc, ◌+◌, ◌*◌, ◌/◌, ◌<◌}
use native.Mathlib.Nat.{zero-add, add-zero}
use native.Mathlib.Omega.{arith}
use lib.ListN.{length, get_or}
use Rattle.tree.specs.Tree.{Pair, new_seeds, sibling, towards, beside}
use Rattle.tree.proofs.Positions.{Bit, even, odd, bit, sibling_odd, sibling-even}

abbrev pub Kids : Type 0
Kids = ℕ → List ℕ → Pair

-- ---- the children of a level

count : (j n : ℕ) → suc j + n ≡ j + suc n
count j n = omega arith

pub length-new_seeds : (kids : Kids) (j : ℕ) (l : List (List ℕ)) → length (new_seeds kids j l) ≡ 2 * length l
unfolding new_seeds
length-new_seeds kids j [] = refl
length-new_seeds kids j (s ∷ l) = let e = length-new_seeds kids (suc j) l in omega arith

pub new_seeds-append : (kids : Kids) (j : ℕ) (x y : List (List ℕ)) → new_seeds kids j (x ++ y) ≡ new_seeds kids j x ++ new_seeds kids (j + length x) y
unfolding new_seeds
new_seeds-append kids j [] y = ap (λ (n : ℕ). new_seeds kids n y) (sym (add-zero j))
new_seeds-append kids j (s ∷ x) y =
    ap (λ (l : List (List ℕ)). (kids j s).seed₁ ∷ (kids j s).seed₂ ∷ l)
    (new_seeds-append kids (suc j) x y
    ∙ ap (λ (n : ℕ). new_seeds kids (suc j) x ++ new_seeds kids n y) (count j (length x)))

-- the first child of the parent at q stands at 2q, the second behind it
pub get_or-new_seeds-even : (kids : Kids) (j : ℕ) (l : List (List ℕ)) (q : ℕ) → q < length l → get_or (new_seeds kids j l) (2 * q) [] ≡ (kids (j + q) (get_or l q [])).seed₁
unfolding new_seeds
get_or-new_seeds-even kids j [] q h = absurd (omega arith)
get_or-new_seeds-even kids j (s ∷ l) zero h = ap (λ (n : ℕ). (kids n s).seed₁) (sym (add-zero j))
get_or-new_seeds-even kids j (s ∷ l) (suc q) h =
    ap (λ (n : ℕ). get_or ((kids j s).seed₁ ∷ (kids j s).seed₂ ∷ new_seeds kids (suc j) l) n []) (twice q)
    ∙ get_or-new_seeds-even kids (suc j) l q (omega arith)
    ∙ ap (λ (n : ℕ). (kids n (get_or l q [])).seed₁) (count j q)
  where
    twice : (n : ℕ) → 2 * suc n ≡ suc (suc (2 * n))
    twice n = omega arith

pub get_or-new_seeds_odd : (kids : Kids) (j : ℕ) (l : List (List ℕ)) (q : ℕ) → q < length l → get_or (new_seeds kids j l) (2 * q + 1) [] ≡ (kids (j + q) (get_or l q [])).seed₂
unfolding new_seeds
get_or-new_seeds_odd kids j [] q h = absurd (omega arith)
get_or-new_seeds_odd kids j (s ∷ l) zero h = ap (λ (n : ℕ). (kids n s).seed₂) (sym (add-zero j))
get_or-new_seeds_odd kids j (s ∷ l) (suc q) h =
    ap (λ (n : ℕ). get_or ((kids j s).seed₁ ∷ (kids j s).seed₂ ∷ new_seeds kids (suc j) l) n []) (twice q)
    ∙ get_or-new_seeds_odd kids (suc j) l q (omega arith)
    ∙ ap (λ (n : ℕ). (kids n (get_or l q [])).seed₂) (count j q)
  where
    twice : (n : ℕ) → 2 * suc n + 1 ≡ suc (suc (2 * n + 1))
    twice n = omega arith

-- at p stands the child that is on the way to p, and at its sibling's place the other
module _ (kids : Kids) (l : List (List ℕ)) (p : ℕ) (inside : p / 2 < length l) where
  pub get_or-new_seeds : get_or (new_seeds kids 0 l) p [] ≡ towards p (kids (p / 2) (get_or l (p / 2) []))
  unfolding towards
  get_or-new_seeds = by_bit (bit p)
    where
      by_bit : Bit p → get_or (new_seeds kids 0 l) p [] ≡ towards p (kids (p / 2) (get_or l (p / 2) []))
      by_bit (even t e g) =
          ap (λ (n : ℕ). get_or (new_seeds kids 0 l) n []) g ∙ get_or-new_seeds-even kids 0 l (p / 2) inside
          ∙ ap (λ (n : ℕ). (kids n (get_or l (p / 2) [])).seed₁) (zero-add (p / 2))
          ∙ ap (λ (b : Bool). cond b (kids (p / 2) (get_or l (p / 2) [])).seed₂ (kids (p / 2) (get_or l (p / 2) [])).seed₁) (sym t)
      by_bit (odd t e g) =
          ap (λ (n : ℕ). get_or (new_seeds kids 0 l) n []) g ∙ get_or-new_seeds_odd kids 0 l (p / 2) inside
          ∙ ap (λ (n : ℕ). (kids n (get_or l (p / 2) [])).seed₂) (zero-add (p / 2))
          ∙ ap (λ (b : Bool). cond b (kids (p / 2) (get_or l (p / 2) [])).seed₂ (kids (p / 2) (get_or l (p / 2) [])).seed₁) (sym t)

  pub get_or-new_seeds-sibling : get_or (new_seeds kids 0 l) (sibling p) [] ≡ beside p (kids (p / 2) (get_or l (p / 2) []))
  unfolding beside
  get_or-new_seeds-sibling = by_bit (bit p)
    where
      by_bit : Bit p → get_or (new_seeds kids 0 l) (sibling p) [] ≡ beside p (kids (p / 2) (get_or l (p / 2) []))
      by_bit (even t e g) =
          ap (λ (n : ℕ). get_or (new_seeds kids 0 l) n []) (let s = sibling-even p e in let r : sibling p ≡ 2 * (p / 2) + 1 = omega arith in r)
          ∙ get_or-new_seeds_odd kids 0 l (p / 2) inside
          ∙ ap (λ (n : ℕ). (kids n (get_or l (p / 2) [])).seed₂) (zero-add (p / 2))
          ∙ ap (λ (b : Bool). cond b (kids (p / 2) (get_or l (p / 2) [])).seed₁ (kids (p / 2) (get_or l (p / 2) [])).seed₂) (sym t)
      by_bit (odd t e g) =
          ap (λ (n : ℕ). get_or (new_seeds kids 0 l) n []) (let s = sibling_odd p e in let r : sibling p ≡ 2 * (p / 2) = omega arith in r)
          ∙ get_or-new_seeds-even kids 0 l (p / 2) inside
          ∙ ap (λ (n : ℕ). (kids n (get_or l (p / 2) [])).seed₁) (zero-add (p / 2))
          ∙ ap (λ (b : Bool). cond b (kids (p / 2) (get_or l (p / 2) [])).seed₁ (kids (p / 2) (get_or l (p / 2) [])).seed₂) (sym t)
