-- A number in decimal, as ASCII bytes: as few digits as it needs, the most significant first.
-- Assumes nothing.
use Rattle.std.specs.Prelude.{cond, List, [], ◌∷◌, ◌++◌, ℕ, zero, suc, ◌+◌, ◌/◌, ◌%◌, ltb}

-- the byte of a digit: `0` is 48
abbrev pub digit : ℕ → ℕ
digit d = 48 + d

-- at most so many digits of n, the last ones
unfoldable pub last_digits : ℕ → ℕ → List ℕ
last_digits zero n = []
last_digits (suc many) n = cond (ltb n 10) (digit n ∷ []) (last_digits many (n / 10) ++ (digit (n % 10) ∷ []))

-- all of them: n + 1 digits are enough for n
unfoldable pub decimal : ℕ → List ℕ
decimal n = last_digits (suc n) n
