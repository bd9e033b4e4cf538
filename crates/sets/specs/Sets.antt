-- The six sets of document 01 (tables 3 and 4 of the submission), and the sizes that follow from a set's parameters.
-- A set's number picks the parameters here and nowhere else; q is 16 throughout. Assumes nothing.
use Rattle.std.specs.Prelude.{List, [], ◌∷◌, ◌≡◌, ℕ, ◌+◌, ◌*◌, ◌/◌, ◌^◌, get_or}
use Rattle.sets.specs.declared.Params.{Params}
use Rattle.sets.specs.declared.Row.{Row}
use Rattle.field.specs.Packing.{packed_length}

-- one row: security bits, n, m, τ, and L, whose power of 2 is N
abbrev pub row : ℕ → ℕ → ℕ → ℕ → ℕ → Params
row bits n m tau l = record { bits = bits; n = n; m = m; tau = tau; l = l }

-- document 01, "Six sets"; no set has the number 0
unfoldable pub rows : List Params
rows =
    row 0 0 0 0 0
    ∷ row 128 64 67 18 8
    ∷ row 128 64 67 34 4
    ∷ row 192 87 90 30 8
    ∷ row 192 87 90 54 4
    ∷ row 256 118 121 40 8
    ∷ row 256 118 121 73 4
    ∷ []

-- the parameters of a set; zeros where the number names none
unfoldable pub params_of : ℕ → Params
params_of set = get_or rows set (row 0 0 0 0 0)

-- S, the bytes of a seed, is the security bits over 8
unfoldable pub S : Params → ℕ
S P = P.bits / 8

-- N, the number of parties
unfoldable pub N : Params → ℕ
N P = 2 ^ P.l

-- "A secret key is the circuit seed, then s, t, y packed together"
unfoldable pub secret_key_length : Params → ℕ
secret_key_length P = S P + packed_length (P.n + P.m + P.m)

-- "A public key is the circuit seed, then t packed"
unfoldable pub public_key_length : Params → ℕ
public_key_length P = S P + packed_length P.m

-- "A signature is salt (2S), first hash (2S), second hash (2S); for each repetition the path (L·S) and hidden commitment (2S);
-- then one packing of all Δs and Δc pairs followed by all hidden α"
unfoldable pub signature_length : Params → ℕ
signature_length P =
    2 * S P + 2 * S P + 2 * S P + P.tau * (P.l * S P + 2 * S P)
    + packed_length (P.tau * (P.n + P.m) + P.tau * P.m)

-- the row that the table has for a number
pub record RowOf (set : ℕ) (row : Row) : Type 0 where
  pub params : row.params ≡ params_of set
  pub secret_key : row.secret_key ≡ secret_key_length (params_of set)
  pub public_key : row.public_key ≡ public_key_length (params_of set)
  pub signature : row.signature ≡ signature_length (params_of set)
