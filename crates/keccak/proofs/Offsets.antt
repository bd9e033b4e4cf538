-- Table 2 of FIPS 202 follows the walk of section 3.2.2: at each of its 24 steps the table has the step's offset, the walk comes to every lane but (0, 0), and there the offset is 0.
-- Each law is one test over all steps, which antt computes. Assumes nothing.
use mathlib.Core.Path.{◌≡◌, refl, sym, ap, ◌∙◌}
use mathlib.Core.List.{List, [], ◌∷◌}
use Prim.Native.Nat.{ℕ, suc, ◌+◌, ◌*◌, ◌/◌, ◌<◌}
use native.Mathlib.Omega.{arith}
use lib.ListN.{get_or}
use Rattle.memory.specs.Lists.{table}
use Rattle.memory.proofs.Lists.{get_or-table}
use Rattle.keccak.specs.Keccak.{lane, offsets}
use Rattle.keccak.specs.Walk.{onward, walk, shift}

-- the table's offset at the walk's place
abbrev listed : ℕ → ℕ
listed t = lane offsets (walk t).0 (walk t).1

all_listed : table 24 listed ≡ table 24 shift
unfolding table lane offsets onward walk shift
all_listed = refl

pub offsets_follow_the_walk : (t : ℕ) → t < 24 → lane offsets (walk t).0 (walk t).1 ≡ shift t
offsets_follow_the_walk t h =
    sym (get_or-table 24 listed t h) ∙ ap (λ (l : List ℕ). get_or l t 0) all_listed ∙ get_or-table 24 shift t h

-- the step at which the walk comes to each place 5y + x from 1 to 24
arrivals : List ℕ
arrivals =
    0 ∷ 18 ∷ 6 ∷ 12 ∷ 7 ∷ 23 ∷
    2 ∷ 9 ∷ 22 ∷ 1 ∷ 3 ∷ 17 ∷
    16 ∷ 20 ∷ 13 ∷ 8 ∷ 4 ∷ 5 ∷
    15 ∷ 19 ∷ 10 ∷ 21 ∷ 14 ∷ 11 ∷ []

-- where the walk is at the step listed for a place
reached : ℕ → ℕ
reached p = 5 * (walk (get_or arrivals p 0)).1 + (walk (get_or arrivals p 0)).0

-- 0 where that step is one of the 24
past : ℕ → ℕ
past p = get_or arrivals p 0 / 24

all_reached : table 24 reached ≡ table 24 suc
unfolding table onward walk arrivals reached
all_reached = refl

none_past : table 24 past ≡ table 24 (λ p. 0)
unfolding table arrivals past
none_past = refl

-- the walk comes to every lane but (0, 0)
pub walk_visits : (p : ℕ) → p < 24 → (t : ℕ) × ((t < 24) × (5 * (walk t).1 + (walk t).0 ≡ suc p))
unfolding reached past
walk_visits p h =
    let e : get_or arrivals p 0 / 24 ≡ 0 = sym (get_or-table 24 past p h) ∙ ap (λ (l : List ℕ). get_or l p 0) none_past ∙ get_or-table 24 (λ p. 0) p h in
    (get_or arrivals p 0, (omega arith, sym (get_or-table 24 reached p h) ∙ ap (λ (l : List ℕ). get_or l p 0) all_reached ∙ get_or-table 24 suc p h))

-- and there the offset is 0
pub offset_origin : lane offsets 0 0 ≡ 0
unfolding lane offsets
offset_origin = refl
