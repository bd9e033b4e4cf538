-- The lists and sums over the parties as loops build them, one party at a time from the first: prefixes, and one entry more at the end.
-- Assumes nothing.
use mathlib.Core.Path.{◌≡◌, refl, sym, ap, ◌∙◌}
use mathlib.Core.Bool.{cond}
use mathlib.Core.List.{List, [], ◌∷◌, ◌++◌, map, flatten, append-nil}
use mathlib.Core.Option.{none, some}
use Prim.Native.Nat.{ℕ, zero, suc, ◌<◌}
use native.Mathlib.Omega.{arith}
use lib.Bits.{bit_xor}
use lib.Dec.{eqb}
use lib.ListN.{length, get_or, take}
use lib.Seq.{take-nil, take-suc, take-length}
use Rattle.memory.proofs.Sections.{flatten-append}
use Rattle.field.specs.Vectors.{◌!◌, ◌⊕◌, total}
use Rattle.field.proofs.Vectors.{⊕-at, ⊕-nil-r, ⊕-assoc, total-snoc}
use Rattle.parties.specs.Parties.{Share, numbered, parties, secret, mask, helper}
use Rattle.parties.specs.Repetition.{left_out}
use Rattle.parties.proofs.Numbered.{length-parties, get_or-parties}

-- ---- prefixes

take-numbered : {A B : Type 0} (g : ℕ → A → B) (i k : ℕ) (l : List A) → take k (numbered i g l) ≡ numbered i g (take k l)
unfolding numbered
take-numbered g i zero l = refl
take-numbered g i (suc k) [] = refl
take-numbered {A} {B} g i (suc k) (x ∷ l) = ap (λ (r : List B). g i x ∷ r) (take-numbered g (suc i) k l)

-- the first k parties
pub take-parties : {A B : Type 0} (g : ℕ → A → B) (k : ℕ) (l : List A) → take k (parties g l) ≡ parties g (take k l)
unfolding parties
take-parties g k l = take-numbered g 1 k l

-- one party more
pub take-suc-parties : {A B : Type 0} (g : ℕ → A → B) (k : ℕ) (l : List A) (d : A) → k < length l
    → take (suc k) (parties g l) ≡ take k (parties g l) ++ (g (suc k) (get_or l k d) ∷ [])
take-suc-parties {A} {B} g k l d h =
    let e = length-parties g l in
    take-suc (parties g l) k (g (suc k) d) (omega arith)
    ∙ ap (λ (y : B). take k (parties g l) ++ (y ∷ [])) (get_or-parties g l k d (g (suc k) d) h)

-- ---- sums

-- the sum of one vector more; past the end nothing is added
pub total-take-suc : (l : List (List ℕ)) (k : ℕ) → total (take (suc k) l) ≡ total (take k l) ⊕ get_or l k []
unfolding total ◌⊕◌
total-take-suc [] k = sym (⊕-nil-r (total (take k [])) ∙ ap total (take-nil k))
total-take-suc (v ∷ l) zero = ⊕-nil-r v
total-take-suc (v ∷ l) (suc k) = ap (λ (r : List ℕ). v ⊕ r) (total-take-suc l k) ∙ sym (⊕-assoc v (total (take k l)) (get_or l k []))

-- the same at a place
pub total-take-suc_at : (l : List (List ℕ)) (k j : ℕ) → total (take (suc k) l) ! j ≡ bit_xor (total (take k l) ! j) (get_or l k [] ! j)
total-take-suc_at l k j = ap (λ (r : List ℕ). r ! j) (total-take-suc l k) ∙ ⊕-at (total (take k l)) (get_or l k []) j

-- all of them
pub total-take-length : (l : List (List ℕ)) → total (take (length l) l) ≡ total l
total-take-length l = ap total (take-length l)

map_snoc : {A B : Type 0} (g : A → B) (l : List A) (x : A) → map g (l ++ (x ∷ [])) ≡ map g l ++ (g x ∷ [])
map_snoc g [] x = refl
map_snoc {A} {B} g (y ∷ l) x = ap (λ (r : List B). g y ∷ r) (map_snoc g l x)

pub secret-snoc : (ps : List Share) (p : Share) → secret (ps ++ (p ∷ [])) ≡ secret ps ⊕ p.s
unfolding secret
secret-snoc ps p = ap total (map_snoc (λ (q : Share). q.s) ps p) ∙ total-snoc (map (λ q. q.s) ps) p.s

pub mask-snoc : (ps : List Share) (p : Share) → mask (ps ++ (p ∷ [])) ≡ mask ps ⊕ p.a
unfolding mask
mask-snoc ps p = ap total (map_snoc (λ (q : Share). q.a) ps p) ∙ total-snoc (map (λ q. q.a) ps) p.a

pub helper-snoc : (ps : List Share) (p : Share) → helper (ps ++ (p ∷ [])) ≡ helper ps ⊕ p.c
unfolding helper
helper-snoc ps p = ap total (map_snoc (λ (q : Share). q.c) ps p) ∙ total-snoc (map (λ q. q.c) ps) p.c

-- ---- what is laid one after another

pub flatten-snoc : {A : Type 0} (l : List (List A)) (x : List A) → flatten (l ++ (x ∷ [])) ≡ flatten l ++ x
unfolding flatten
flatten-snoc {A} l x = flatten-append l (x ∷ []) ∙ ap (λ (r : List A). flatten l ++ r) (append-nil x)

-- ---- the party that is left out

-- party k + 1 is missing where it is party h
pub get_or-left_out : {A : Type 0} (h : ℕ) (l : List A) (k : ℕ) (d : A) → k < length l
    → get_or (left_out h l) k none ≡ cond (eqb (suc k) h) none (some (get_or l k d))
unfolding left_out
get_or-left_out h l k d g = get_or-parties (λ i x. cond (eqb i h) none (some x)) l k d none g
