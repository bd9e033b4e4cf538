-- A list of bytes as sections of one length: cut into them, and laid one after another by `flatten`.
-- Assumes nothing.
use Rattle.std.specs.Prelude.{List, [], ◌∷◌, ℕ, zero, suc, take, drop}

-- the first n sections of w entries each
unfoldable pub pieces : ℕ → ℕ → List ℕ → List (List ℕ)
pieces w zero x = []
pieces w (suc n) x = take w x ∷ pieces w n (drop w x)
