-- A level of the tree spread out to the level below it, where it lies, and the same around the hidden party: what private routines promise. No public promise speaks of it.
-- Assumes nothing.
use Rattle.std.specs.Prelude.{cond, ℕ, suc, ◌-◌, ◌*◌, ◌/◌, ◌%◌, eqb, take, drop}
use mathlib.Core.List.{List, [], ◌∷◌, ◌++◌, flatten}
use Rattle.memory.specs.Sections.{pieces}
use Rattle.tree.specs.Tree.{Pair, new_seeds}

-- the children of the parents from `from` to `to` of a level that lies at the start of x, S bytes to a seed
unfoldable pub spread : ℕ → (ℕ → List ℕ → Pair) → ℕ → ℕ → List ℕ → List ℕ
spread S kids from to x = flatten (new_seeds kids from (pieces S (to - from) (drop (from * S) x)))

-- in the place of the children of the hidden parent: the seed given for one, and a blank
unfoldable pub beside_blank : ℕ → List ℕ → List ℕ → List (List ℕ)
beside_blank p own blank = cond (eqb (p % 2) 1) (own ∷ blank ∷ []) (blank ∷ own ∷ [])

-- the level below, with the children of the parent of p so replaced
unfoldable pub around : (ℕ → List ℕ → Pair) → ℕ → List ℕ → List ℕ → List (List ℕ) → List (List ℕ)
around kids p own blank l =
    new_seeds kids 0 (take (p / 2) l) ++ (beside_blank p own blank ++ new_seeds kids (suc (p / 2)) (drop (suc (p / 2)) l))
