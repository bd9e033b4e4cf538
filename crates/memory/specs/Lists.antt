-- Lists of bytes as the contracts speak of them: a list by its rule, a list written over the start of another, a part put into a list, and whether two lists are the same.
-- Assumes nothing.
use Rattle.std.specs.Prelude.{Bool, true, false, ◌&&◌, List, [], ◌∷◌, ◌++◌, ℕ, zero, suc, ◌+◌, eqb, length, take, drop}

-- the list f 0, f 1, .. of n entries
unfoldable pub table : ℕ → (ℕ → ℕ) → List ℕ
table zero f = []
table (suc n) f = table n f ++ (f n ∷ [])

-- `new` written over the start of `old`: as much of it as has room, and what lies after it is kept
unfoldable pub over : {X : Type 0} → List X → List X → List X
over new old = take (length old) new ++ drop (length new) old

-- `old` with `new` in the place of as many entries from the place `at` on
unfoldable pub put : List ℕ → ℕ → List ℕ → List ℕ
put old at new = take at old ++ (new ++ drop (at + length new) old)

-- whether two lists have the same entries
unfoldable pub same : List ℕ → List ℕ → Bool
same [] [] = true
same [] (b ∷ y) = false
same (a ∷ x) [] = false
same (a ∷ x) (b ∷ y) = eqb a b && same x y
