-- Lists with an entry for each party: lengths, entries, a function after a function, and forms that grow at the end, as a loop over the parties builds them.
-- Assumes nothing.
use mathlib.Core.Path.{◌≡◌, refl, sym, ap, ap₂, ◌∙◌}
use mathlib.Core.List.{List, [], ◌∷◌, ◌++◌, map}
use Prim.Native.Nat.{ℕ, zero, suc, ◌+◌, ◌<◌, ◌≤◌}
use native.Mathlib.Nat.{add-zero, suc-add, add-suc}
use native.Mathlib.Omega.{arith}
use lib.ListN.{length, get_or}
use Rattle.parties.specs.Parties.{numbered, parties}

module _ {A B : Type 0} (g : ℕ → A → B) where
  pub length-numbered : (i : ℕ) (l : List A) → length (numbered i g l) ≡ length l
  unfolding numbered
  length-numbered i [] = refl
  length-numbered i (x ∷ l) = ap suc (length-numbered (suc i) l)

  pub length-parties : (l : List A) → length (parties g l) ≡ length l
  unfolding parties
  length-parties l = length-numbered _ l

  pub get_d_numbered : (i : ℕ) (l : List A) (k : ℕ) (d : A) (d' : B) → k < length l → get_or (numbered i g l) k d' ≡ g (i + k) (get_or l k d)
  unfolding numbered
  get_d_numbered i [] k d d' h = absurd (omega arith)
  get_d_numbered i (x ∷ l) zero d d' h = ap (λ (j : ℕ). g j x) (sym (add-zero i))
  get_d_numbered i (x ∷ l) (suc k) d d' h =
      get_d_numbered (suc i) l k d d' (omega arith)
      ∙ ap (λ (j : ℕ). g j (get_or l k d)) (suc-add i k ∙ sym (add-suc i k))

  -- the entry of party k + 1
  pub get_or-parties : (l : List A) (k : ℕ) (d : A) (d' : B) → k < length l → get_or (parties g l) k d' ≡ g (suc k) (get_or l k d)
  unfolding parties
  get_or-parties l k d d' h = get_d_numbered _ l k d d' h ∙ ap (λ (j : ℕ). g j (get_or l k d)) (let e : 1 + k ≡ suc k = omega arith in e)

  pub numbered-append : (i : ℕ) (l k : List A) → numbered i g (l ++ k) ≡ numbered i g l ++ numbered (i + length l) g k
  unfolding numbered
  numbered-append i [] k = ap (λ (j : ℕ). numbered j g k) (sym (add-zero i))
  numbered-append i (x ∷ l) k =
      ap (λ (r : List B). g i x ∷ r)
      (numbered-append (suc i) l k ∙ ap (λ (j : ℕ). numbered (suc i) g l ++ numbered j g k) (suc-add i (length l) ∙ sym (add-suc i (length l))))

  -- one party more, at the end
  pub parties-snoc : (l : List A) (x : A) → parties g (l ++ (x ∷ [])) ≡ parties g l ++ (g (suc (length l)) x ∷ [])
  unfolding parties numbered
  parties-snoc l x =
      numbered-append 1 l (x ∷ [])
      ∙ ap (λ (j : ℕ). numbered 1 g l ++ (g j x ∷ [])) (let e : 1 + length l ≡ suc (length l) = omega arith in e)

  -- party 1 and the others
  pub parties-cons : (x : A) (l : List A) → parties g (x ∷ l) ≡ g 1 x ∷ numbered 2 g l
  unfolding parties numbered
  parties-cons x l = refl

-- a function that looks at no number
pub numbered-map : {A B : Type 0} (g : A → B) (i : ℕ) (l : List A) → numbered i (λ j x. g x) l ≡ map g l
unfolding numbered
numbered-map g i [] = refl
numbered-map {A} {B} g i (x ∷ l) = ap (λ (r : List B). g x ∷ r) (numbered-map g (suc i) l)

-- a function after a function
pub numbered-numbered : {A B C : Type 0} (g : ℕ → B → C) (h : ℕ → A → B) (i : ℕ) (l : List A)
    → numbered i g (numbered i h l) ≡ numbered i (λ j x. g j (h j x)) l
unfolding numbered
numbered-numbered g h i [] = refl
numbered-numbered {A} {B} {C} g h i (x ∷ l) = ap (λ (r : List C). g i (h i x) ∷ r) (numbered-numbered g h (suc i) l)

-- two functions that agree from number i on
pub numbered-same : {A B : Type 0} (g h : ℕ → A → B) (i : ℕ) (l : List A) → ((j : ℕ) (x : A) → i ≤ j → g j x ≡ h j x) → numbered i g l ≡ numbered i h l
unfolding numbered
numbered-same g h i [] e = refl
numbered-same {A} {B} g h i (x ∷ l) e =
    ap₂ (λ (y : B) (r : List B). y ∷ r) (e i x (omega arith)) (numbered-same g h (suc i) l (λ j y k. e j y (omega arith)))
