-- The layout of a signature: its fields, the bytes that hold them (line 40 of algorithm 12, as document 01 gives it), and what a reader extracts from bytes
-- (lines 4, 8, 9 and 22 of algorithm 13). Repetitions e count from 1. Every definition is total.
-- Assumes nothing.
use mathlib.Core.List.{List, [], ◌++◌, flatten}
use Rattle.std.specs.Prelude.{ℕ, zero, suc, ◌+◌, ◌-◌, ◌*◌, take, drop}
use Rattle.memory.specs.Sections.{pieces}
use Rattle.field.specs.Packing.{pack, unpack}
use Rattle.sets.specs.Sets.{S}
use Rattle.sets.specs.declared.Params.{Params}

-- what a signature shows of one repetition: the path, the hidden party's commitment, Δs, Δc and the hidden party's α
pub record Opening : Type 0 where
  pub path : List (List ℕ)
  pub commitment : List ℕ
  pub Δs : List ℕ
  pub Δc : List ℕ
  pub α : List ℕ

-- a signature, with an opening for each repetition
pub record Signature : Type 0 where
  pub salt : List ℕ
  pub h₁ : List ℕ
  pub h₂ : List ℕ
  pub opening : ℕ → Opening

-- (f e) for e = 1, .., τ, one behind the other
unfoldable pub repeated : ℕ → (ℕ → List ℕ) → List ℕ
repeated zero f = []
repeated (suc τ) f = repeated τ f ++ f (suc τ)

-- "path (L·S) and hidden commitment (2S)" of one repetition
unfoldable pub shown : Opening → List ℕ
shown o = flatten o.path ++ o.commitment

-- "all Δs and Δc pairs followed by all hidden α", as elements
unfoldable pub vectors : Params → Signature → List ℕ
vectors P σ = repeated P.tau (λ e. (σ.opening e).Δs ++ (σ.opening e).Δc) ++ repeated P.tau (λ e. (σ.opening e).α)

-- algorithm 12, line 40: salt ‖ h₁ ‖ h₂ ‖ (path ‖ com)_e ‖ pack((Δs ‖ Δc)_e ‖ (α)_e)
unfoldable pub written : Params → Signature → List ℕ
written P σ = σ.salt ++ (σ.h₁ ++ (σ.h₂ ++ (repeated P.tau (λ e. shown (σ.opening e)) ++ pack (vectors P σ))))

-- ---- where the parts lie

-- the bytes of salt and hashes together
unfoldable pub head_length : Params → ℕ
head_length P = 2 * S P + 2 * S P + 2 * S P

-- the bytes of path and commitment of one repetition
unfoldable pub shown_length : Params → ℕ
shown_length P = P.l * S P + 2 * S P

-- where path and commitment of repetition e begin
unfoldable pub shown_at : Params → ℕ → ℕ
shown_at P e = head_length P + (e - 1) * shown_length P

-- where the packing begins
unfoldable pub packing_at : Params → ℕ
packing_at P = head_length P + P.tau * shown_length P

-- how many elements it holds
unfoldable pub vector_count : Params → ℕ
vector_count P = P.tau * (P.n + P.m) + P.tau * P.m

-- ---- reading

-- the elements that are packed together; the four bits behind an odd last element are not read
unfoldable pub packed_vectors : Params → List ℕ → List ℕ
packed_vectors P x = unpack (vector_count P) (drop (packing_at P) x)

-- algorithm 13, lines 8, 9 and 22: what is extracted for repetition e
unfoldable pub opening_of : Params → List ℕ → ℕ → Opening
opening_of P x e = record {
  path = pieces (S P) P.l (drop (shown_at P e) x);
  commitment = take (2 * S P) (drop (shown_at P e + P.l * S P) x);
  Δs = take P.n (drop ((e - 1) * (P.n + P.m)) (packed_vectors P x));
  Δc = take P.m (drop ((e - 1) * (P.n + P.m) + P.n) (packed_vectors P x));
  α = take P.m (drop (P.tau * (P.n + P.m) + (e - 1) * P.m) (packed_vectors P x));
}

-- algorithm 13, lines 4, 8, 9 and 22: what is extracted from a signature's bytes
unfoldable pub extracted : Params → List ℕ → Signature
extracted P x = record {
  salt = take (2 * S P) x;
  h₁ = take (2 * S P) (drop (2 * S P) x);
  h₂ = take (2 * S P) (drop (2 * S P + 2 * S P) x);
  opening = opening_of P x;
}
