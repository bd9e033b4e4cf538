-- The sum of all parties but one: it is the sum of all with nothing in that party's place, and where all sum to zero it is that party's own vector.
-- Assumes nothing.
use mathlib.Core.Path.{◌≡◌, refl, sym, ap, ◌∙◌, subst}
use mathlib.Core.List.{List, [], ◌∷◌, map}
use mathlib.Core.Option.{Option, none, some}
use Prim.Native.Nat.{ℕ, zero, suc, ◌-◌, ◌<◌, ◌≤◌}
use native.Mathlib.Omega.{arith}
use lib.ListN.{length, get_or, set}
use lib.Seq.{ext_get_or}
use Rattle.memory.proofs.Bits.{xor-zero-same}
use Rattle.memory.proofs.Sections.{Each, no_section, one_more}
use Rattle.field.specs.Vectors.{◌!◌, ◌⊕◌, total}
use Rattle.field.proofs.Vectors.{⊕-at, ⊕-comm, ⊕-assoc}
use Rattle.tree.specs.Tree.{filled}
use Rattle.parties.specs.Repetition.{left_out, present}
use Rattle.parties.proofs.Sizes.{length-total, length-entry}
use Rattle.parties.proofs.LeftOut.{blanked, left_out_blanked, filled-left_out}

-- what is missing adds nothing
pub total-present-filled : (l : List (Option (List ℕ))) → total (present l) ≡ total (filled [] l)
unfolding present filled total ◌⊕◌
total-present-filled [] = refl
total-present-filled (none ∷ l) = total-present-filled l
total-present-filled (some x ∷ l) = ap (λ (r : List ℕ). x ⊕ r) (total-present-filled l)

-- the sum of the others, with nothing in the place of party h
pub total-present-left_out : (h : ℕ) (l : List (List ℕ)) → 1 ≤ h → total (present (left_out h l)) ≡ total (set l (h - 1) [])
total-present-left_out h l g = total-present-filled (left_out h l) ∙ ap total (filled-left_out [] h l g)

present-some : (l : List (List ℕ)) → present (map some l) ≡ l
unfolding present
present-some [] = refl
present-some (x ∷ l) = ap (λ (r : List (List ℕ)). x ∷ r) (present-some l)

-- the vector at p plus the sum of the others is the sum of all
total-present : (p : ℕ) (l : List (List ℕ)) → p < length l → get_or l p [] ⊕ total (present (blanked p l)) ≡ total l
unfolding present blanked total
total-present p [] h = absurd (omega arith)
total-present zero (x ∷ l) h = ap (λ (r : List (List ℕ)). x ⊕ total r) (present-some l)
total-present (suc p) (x ∷ l) h =
    sym (⊕-assoc (get_or l p []) x (total (present (blanked p l))))
    ∙ ap (λ (r : List ℕ). r ⊕ total (present (blanked p l))) (⊕-comm (get_or l p []) x)
    ∙ ⊕-assoc x (get_or l p []) (total (present (blanked p l)))
    ∙ ap (λ (r : List ℕ). x ⊕ r) (total-present p l (omega arith))

length-present : (p : ℕ) (l : List (List ℕ)) → p < length l → suc (length (present (blanked p l))) ≡ length l
unfolding present blanked
length-present p [] h = absurd (omega arith)
length-present zero (x ∷ l) h = ap (λ (r : List (List ℕ)). suc (length r)) (present-some l)
length-present (suc p) (x ∷ l) h = ap suc (length-present p l (omega arith))

present_each : {m : ℕ} (p : ℕ) {l : List (List ℕ)} → Each m l → Each m (present (blanked p l))
unfolding present blanked
present_each zero no_section = no_section
present_each (suc p) no_section = no_section
present_each {m} zero (one_more {s} {l} e r) = subst (Each m) (sym (present-some l)) r
present_each (suc p) (one_more e r) = one_more e (present_each p r)

by_place : (m p : ℕ) (l : List (List ℕ)) → p < length l → 2 ≤ length l → Each m l
    → ((k : ℕ) → total l ! k ≡ 0) → total (present (blanked p l)) ≡ get_or l p []
by_place m p l h two a zeros =
    let own = length-entry p h a in
    let others = length-total (let c = length-present p l h in omega arith) (present_each p a) in
    ext_get_or 0 (total (present (blanked p l))) (get_or l p []) (others ∙ sym own)
    (λ k g. sym (xor-zero-same (get_or l p [] ! k) (total (present (blanked p l)) ! k)
    (sym (⊕-at (get_or l p []) (total (present (blanked p l))) k) ∙ ap (λ (r : List ℕ). r ! k) (total-present p l h) ∙ zeros k)))

-- Of two vectors or more, of m entries each, that sum to zero at every place, each is the sum of the others.
pub hidden_is_sum_of_others : (m h : ℕ) (l : List (List ℕ)) → 1 ≤ h → h ≤ length l → 2 ≤ length l → Each m l
    → ((k : ℕ) → total l ! k ≡ 0) → total (present (left_out h l)) ≡ get_or l (h - 1) []
hidden_is_sum_of_others m h l g n two a zeros =
    ap (λ (o : List (Option (List ℕ))). total (present o)) (left_out_blanked h l g) ∙ by_place m (h - 1) l (omega arith) two a zeros
