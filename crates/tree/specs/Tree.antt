-- The seed tree of the submission's section 4.4.1: algorithms 3, 4 and 5 level by level, over any function of child seeds. L is log₂ N; `h` is the hidden
-- party, from 1; levels and positions count from 0. What the paper assigns in turn k of its outer loop is here the value at suc of k - 1.
-- Assumes nothing.
use Rattle.std.specs.Prelude.{cond, List, [], ◌∷◌, ◌++◌, map, ℕ, zero, suc, ◌+◌, ◌-◌, ◌/◌, ◌%◌, ◌^◌, eqb, get_or, take, drop}
use Rattle.std.proofs.Math.Option
use Rattle.std.proofs.Math.Option.{Option, none, some}
use Rattle.hashes.specs.Hashes.{child_seeds}

-- seed₁, seed₂
pub record Pair : Type 0 where
  pub seed₁ : List ℕ
  pub seed₂ : List ℕ

-- the two child seeds, by the parent's level, position and seed
abbrev pub Children : Type 0
Children = ℕ → ℕ → List ℕ → Pair

-- 4.4, ChildSeeds: "A parent seed at level k, position j gives 2S bytes: the left child, then the right"
unfoldable pub children : ℕ → List ℕ → ℕ → Children
children S salt e k j s = record { seed₁ = take S (child_seeds S salt e k j s); seed₂ = drop S (child_seeds S salt e k j s) }

-- algorithm 3, lines 6 to 10: newseeds, from position j on
unfoldable pub new_seeds : (ℕ → List ℕ → Pair) → ℕ → List (List ℕ) → List (List ℕ)
new_seeds kids j [] = []
new_seeds kids j (s ∷ seeds) = (kids j s).seed₁ ∷ (kids j s).seed₂ ∷ new_seeds kids (suc j) seeds

-- algorithm 3: seeds after k turns
unfoldable pub seeds_at : Children → List ℕ → ℕ → List (List ℕ)
seeds_at kids root zero = root ∷ []
seeds_at kids root (suc k) = new_seeds (kids k) 0 (seeds_at kids root k)

-- algorithm 3
unfoldable pub get_seeds : Children → ℕ → List ℕ → List (List ℕ)
get_seeds kids L root = seeds_at kids root L

-- algorithms 4 and 5: the k most significant bits of h - 1, the hidden leaf's position at level k
unfoldable pub position : ℕ → ℕ → ℕ → ℕ
position L h k = (h - 1) / 2 ^ (L - k)

-- document 01: "position p-1 if p is odd, p+1 if even"
unfoldable pub sibling : ℕ → ℕ
sibling p = cond (eqb (p % 2) 1) (p - 1) (p + 1)

-- algorithm 4, lines 7 to 13: the child that becomes s, and the other, which goes to the path
unfoldable pub towards : ℕ → Pair → List ℕ
towards p c = cond (eqb (p % 2) 1) c.seed₂ c.seed₁

unfoldable pub beside : ℕ → Pair → List ℕ
beside p c = cond (eqb (p % 2) 1) c.seed₁ c.seed₂

-- algorithm 4: s after k turns
unfoldable pub on_way : Children → ℕ → List ℕ → ℕ → ℕ → List ℕ
on_way kids L root h zero = root
on_way kids L root h (suc k) = towards (position L h (suc k)) (kids k (position L h (suc k) / 2) (on_way kids L root h k))

-- algorithm 4: path after k turns
unfoldable pub path_at : Children → ℕ → List ℕ → ℕ → ℕ → List (List ℕ)
path_at kids L root h zero = []
path_at kids L root h (suc k) =
    path_at kids L root h k ++ (beside (position L h (suc k)) (kids k (position L h (suc k) / 2) (on_way kids L root h k)) ∷ [])

-- algorithm 4
unfoldable pub get_path : Children → ℕ → List ℕ → ℕ → List (List ℕ)
get_path kids L root h = path_at kids L root h L

-- algorithm 5, lines 13 to 17: what stands in the place of the children of ?
unfoldable pub beside_none : ℕ → List ℕ → List (Option (List ℕ))
beside_none p own = cond (eqb (p % 2) 1) (some own ∷ none ∷ []) (none ∷ some own ∷ [])

-- algorithm 5, lines 8 to 20: newseeds, from position j on. `none` is ?
unfoldable pub new_known : (ℕ → List ℕ → Pair) → ℕ → List ℕ → ℕ → List (Option (List ℕ)) → List (Option (List ℕ))
new_known kids p own j [] = []
new_known kids p own j (some s ∷ seeds) = some (kids j s).seed₁ ∷ some (kids j s).seed₂ ∷ new_known kids p own (suc j) seeds
new_known kids p own j (none ∷ seeds) = beside_none p own ++ new_known kids p own (suc j) seeds

-- algorithm 5: seeds after k turns
unfoldable pub known_at : Children → ℕ → List (List ℕ) → ℕ → ℕ → List (Option (List ℕ))
known_at kids L path h zero = none ∷ []
known_at kids L path h (suc k) = new_known (kids k) (position L h (suc k)) (get_or path k []) 0 (known_at kids L path h k)

-- algorithm 5
unfoldable pub get_path_seeds : Children → ℕ → List (List ℕ) → ℕ → List (Option (List ℕ))
get_path_seeds kids L path h = known_at kids L path h L

-- the seeds with none at the place p and the others as they are
unfoldable pub hide : ℕ → List (List ℕ) → List (Option (List ℕ))
hide p [] = []
hide zero (s ∷ seeds) = none ∷ map some seeds
hide (suc p) (s ∷ seeds) = some s ∷ hide p seeds

-- the seeds with `blank` where there is none
unfoldable pub filled : List ℕ → List (Option (List ℕ)) → List (List ℕ)
filled blank seeds = map (λ s. Option.get_or s blank) seeds
