-- A list with one party left out: it is the tree's `hide`, a function at each party leaves the same party out, and a given entry takes the party's place.
-- With nobody left out, the list is whole. Assumes nothing.
use mathlib.Core.Path.{◌≡◌, refl, sym, ap, ap₂, ◌∙◌}
use mathlib.Core.Bool.{Bool, true, false, cond}
use mathlib.Core.List.{List, [], ◌∷◌, map}
use mathlib.Core.Option
use mathlib.Core.Option.{Option, none, some}
use Prim.Native.Nat.{ℕ, zero, suc, ◌+◌, ◌-◌, ◌≤◌}
use native.Mathlib.Omega.{arith}
use borrow.Author.Tests.{eq-eqb, ne_eqb}
use lib.Dec.{eqb}
use lib.ListN.{get_or, set}
use lib.Seq.{set-get_or}
use Rattle.tree.specs.Tree.{hide, filled}
use Rattle.tree.proofs.Hiding.{filled-some}
use Rattle.parties.specs.Parties.{numbered, parties}
use Rattle.parties.specs.Repetition.{left_out}
use Rattle.parties.proofs.Numbered.{numbered-map, numbered-same, numbered-numbered}

-- ---- the same by places

-- the list with none at the place p
unfoldable pub blanked : {A : Type 0} → ℕ → List A → List (Option A)
blanked p [] = []
blanked zero (x ∷ l) = none ∷ map some l
blanked (suc p) (x ∷ l) = some x ∷ blanked p l

-- the entry of party i, where party h is left out
unfoldable pub entry_but : {A : Type 0} → ℕ → ℕ → A → Option A
entry_but h i x = cond (eqb i h) none (some x)

others-kept : {A : Type 0} (h i : ℕ) (l : List A) → ((j : ℕ) → i ≤ j → j ≡ h → ⊥) → numbered i (entry_but h) l ≡ map some l
unfolding entry_but
others-kept {A} h i l ne =
    numbered-same (entry_but h) (λ j x. some x) i l (λ j x g. rw (ne_eqb j h (ne j g)))
    ∙ numbered-map (λ (x : A). some x) i l

numbered_but : {A : Type 0} (i p : ℕ) (l : List A) → numbered i (entry_but (i + p)) l ≡ blanked p l
unfolding numbered entry_but blanked
numbered_but i zero [] = refl
numbered_but i (suc p) [] = refl
numbered_but {A} i zero (x ∷ l) =
    ap₂ (λ (y : Option A) (r : List (Option A)). y ∷ r) (rw (eq-eqb i (i + 0) (omega arith))) (others-kept (i + 0) (suc i) l (λ j g q. omega arith))
numbered_but {A} i (suc p) (x ∷ l) =
    let e : i + suc p ≡ suc i + p = omega arith in
    ap₂ (λ (y : Option A) (r : List (Option A)). y ∷ r) (rw (ne_eqb i (i + suc p) (λ q. omega arith)))
    (ap (λ (h : ℕ). numbered (suc i) (entry_but h) l) e ∙ numbered_but (suc i) p l)

-- party h stands at the place h - 1
pub left_out_blanked : {A : Type 0} (h : ℕ) (l : List A) → 1 ≤ h → left_out h l ≡ blanked (h - 1) l
unfolding left_out parties entry_but
left_out_blanked h l g = ap (λ (k : ℕ). numbered 1 (entry_but k) l) (let e : h ≡ 1 + (h - 1) = omega arith in e) ∙ numbered_but 1 (h - 1) l

pub left_out_nobody : {A : Type 0} (l : List A) → left_out 0 l ≡ map some l
unfolding left_out parties entry_but
left_out_nobody l = others-kept 0 1 l (λ j g q. omega arith)

-- the tree's `hide`, which is of seeds and by places
pub hide_blanked : (p : ℕ) (seeds : List (List ℕ)) → hide p seeds ≡ blanked p seeds
unfolding hide blanked
hide_blanked zero [] = refl
hide_blanked (suc p) [] = refl
hide_blanked zero (s ∷ seeds) = refl
hide_blanked (suc p) (s ∷ seeds) = ap (λ (l : List (Option (List ℕ))). some s ∷ l) (hide_blanked p seeds)

pub hide-left_out : (h : ℕ) (seeds : List (List ℕ)) → 1 ≤ h → hide (h - 1) seeds ≡ left_out h seeds
hide-left_out h seeds g = hide_blanked (h - 1) seeds ∙ sym (left_out_blanked h seeds g)

-- ---- a function at each party leaves the same party out

module _ {A B : Type 0} (g : ℕ → A → B) where
  entry_mapped : (h i : ℕ) (x : A) → Option.map (g i) (entry_but h i x) ≡ entry_but h i (g i x)
  unfolding entry_but
  entry_mapped h i x = by (eqb i h)
    where
      by : (b : Bool) → Option.map (g i) (cond b none (some x)) ≡ cond b none (some (g i x))
      by true = refl
      by false = refl

  pub parties-left_out : (h : ℕ) (l : List A) → parties (λ i. Option.map (g i)) (left_out h l) ≡ left_out h (parties g l)
  unfolding parties left_out entry_but
  parties-left_out h l =
      numbered-numbered (λ i. Option.map (g i)) (entry_but h) 1 l
      ∙ numbered-same (λ i x. Option.map (g i) (entry_but h i x)) (λ i x. entry_but h i (g i x)) 1 l (λ i x k. entry_mapped h i x)
      ∙ sym (numbered-numbered (entry_but h) g 1 l)

-- ---- an entry in the place of what is missing

filled_blanked : (d : List ℕ) (p : ℕ) (l : List (List ℕ)) → filled d (blanked p l) ≡ set l p d
unfolding filled blanked
filled_blanked d zero [] = refl
filled_blanked d (suc p) [] = refl
filled_blanked d zero (x ∷ l) = ap (λ (r : List (List ℕ)). d ∷ r) (filled-some d l)
filled_blanked d (suc p) (x ∷ l) = ap (λ (r : List (List ℕ)). x ∷ r) (filled_blanked d p l)

-- any entry: it stands at party h
pub filled-left_out : (d : List ℕ) (h : ℕ) (l : List (List ℕ)) → 1 ≤ h → filled d (left_out h l) ≡ set l (h - 1) d
filled-left_out d h l g = ap (filled d) (left_out_blanked h l g) ∙ filled_blanked d (h - 1) l

-- nobody left out: the entry is not used
pub filled_nobody : (d : List ℕ) (l : List (List ℕ)) → filled d (left_out 0 l) ≡ l
filled_nobody d l = ap (filled d) (left_out_nobody l) ∙ filled-some d l

-- the party's own entry: the list is whole again
pub filled-own : (h : ℕ) (l : List (List ℕ)) → filled (get_or l (h - 1) []) (left_out h l) ≡ l
filled-own zero l = filled_nobody (get_or l (0 - 1) []) l
filled-own (suc p) l = filled-left_out (get_or l (suc p - 1) []) (suc p) l (omega arith) ∙ set-get_or l (suc p - 1) []
