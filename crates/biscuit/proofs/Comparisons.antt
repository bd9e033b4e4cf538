-- A close comparison of the layout, worked out: two repetitions, seeds of one byte, two variables and one equation. All Δs and Δc pairs and then all hidden α are
-- packed together, so that elements of two repetitions share a byte. Assumes nothing.
use mathlib.Core.Path.{◌≡◌, refl}
use mathlib.Core.List.{[], ◌∷◌, flatten}
use Prim.Native.Nat.{ℕ}
use lib.ListN.{get_or}
use Rattle.field.specs.Packing.{pack, packed_length}
use Rattle.sets.specs.Sets.{S, row, signature_length}
use Rattle.sets.specs.declared.Params.{Params}
use Rattle.biscuit.specs.Signature.{Opening, Signature, repeated, shown, vectors, written}

-- 8 security bits, n = 2, m = 1, τ = 2, L = 1
abbrev pub small : Params
small = row 8 2 1 2 1

-- path e, commitment e e; Δs 1 2 and 4 5, Δc 3 and 6, α 7 and 8
abbrev pub openings : ℕ → Opening
openings e = record {
  path = (e ∷ []) ∷ [];
  commitment = e ∷ e ∷ [];
  Δs = get_or (0 ∷ 1 ∷ 4 ∷ []) e 0 ∷ get_or (0 ∷ 2 ∷ 5 ∷ []) e 0 ∷ [];
  Δc = get_or (0 ∷ 3 ∷ 6 ∷ []) e 0 ∷ [];
  α = get_or (0 ∷ 7 ∷ 8 ∷ []) e 0 ∷ [];
}

abbrev pub example : Signature
example = record { salt = 0xa0 ∷ 0xa1 ∷ []; h₁ = 0xb0 ∷ 0xb1 ∷ []; h₂ = 0xc0 ∷ 0xc1 ∷ []; opening = openings }

pub layout_of_two_repetitions :
    (written small example
    ≡ 0xa0 ∷ 0xa1 ∷ 0xb0 ∷ 0xb1 ∷ 0xc0 ∷ 0xc1 ∷ 1 ∷ 1 ∷ 1 ∷ 2 ∷ 2 ∷ 2 ∷ 0x21 ∷ 0x43 ∷ 0x65 ∷ 0x87 ∷ [])
    × (signature_length small ≡ 16)
unfolding written vectors shown repeated flatten pack signature_length S packed_length
layout_of_two_repetitions = (refl, refl)
