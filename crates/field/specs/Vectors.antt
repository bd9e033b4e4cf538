-- Vectors of elements as lists: sum, product element by element, the product of a row and a vector, and the sum of many vectors (section 4.3 and algorithms 9 to 13 of the submission).
-- Every definition is total. A sum goes on with the longer list, a product stops at the shorter, and past its end a vector counts as 0.
-- Assumes nothing.
use Rattle.std.specs.Prelude.{List, [], ◌∷◌, ℕ, get_or}
use Rattle.std.specs.Int.Bits.{bit_xor}
use Rattle.field.specs.Field.{mul}

infixl 68 ◌⊕◌
infixl 70 ◌⊙◌
infixl 72 ◌!◌
-- the entry at the place k, 0 past the end
abbrev pub ◌!◌ : List ℕ → ℕ → ℕ
v ! k = get_or v k 0

-- the sum of two vectors, which is also their difference
unfoldable pub ◌⊕◌ : List ℕ → List ℕ → List ℕ
[] ⊕ v = v
(a ∷ u) ⊕ [] = a ∷ u
(a ∷ u) ⊕ (b ∷ v) = bit_xor a b ∷ (u ⊕ v)

-- the product element by element
unfoldable pub ◌⊙◌ : List ℕ → List ℕ → List ℕ
[] ⊙ v = []
(a ∷ u) ⊙ [] = []
(a ∷ u) ⊙ (b ∷ v) = mul a b ∷ (u ⊙ v)

-- the product of a row of coefficients and a vector
unfoldable pub dot : List ℕ → List ℕ → ℕ
dot [] s = 0
dot (r ∷ row) [] = 0
dot (r ∷ row) (b ∷ s) = bit_xor (mul r b) (dot row s)

-- the sum of a list of vectors
unfoldable pub total : List (List ℕ) → List ℕ
total [] = []
total (v ∷ l) = v ⊕ total l
