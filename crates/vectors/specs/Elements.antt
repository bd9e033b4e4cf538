-- Elements that lie packed in bytes from any half byte on: what a reader gets, and what bytes hold after elements are written there.
-- Every definition is total: past the end of the bytes a reader gets 0, and what has no room is not written. Assumes nothing.
use Rattle.std.specs.Prelude.{◌≡◌, ◌&&◌, cond, List, ℕ, ◌+◌, ◌-◌, ◌*◌, ◌%◌, ◌<◌, leb, ltb, length, get_or}
use Rattle.memory.specs.Lists.{table}
use Rattle.field.specs.Packing.{Bytes, nib}

-- the n elements from the half byte `at` on
unfoldable pub elements_at : List ℕ → ℕ → ℕ → List ℕ
elements_at bytes at n = table n (λ k. nib bytes (at + k))

-- the first i entries of `out` are the elements from the half byte `at` on
abbrev pub ReadTo : List ℕ → ℕ → ℕ → List ℕ → Type 0
ReadTo bytes at i out = (j : ℕ) → j < i → get_or out j 0 ≡ nib bytes (at + j)

-- the j-th half byte after the elements are written from the half byte `at` on
unfoldable pub half_after : List ℕ → ℕ → List ℕ → ℕ → ℕ
half_after elements at bytes j =
    cond (leb at j && ltb j (at + length elements)) (get_or elements (j - at) 0 % 16) (nib bytes j)

-- the bytes after the elements are written from the half byte `at` on: every other half byte stays
unfoldable pub elements_put : List ℕ → ℕ → List ℕ → List ℕ
elements_put elements at bytes =
    table (length bytes) (λ i. half_after elements at bytes (i * 2) + 16 * half_after elements at bytes (i * 2 + 1))

-- the j-th half byte is now x modulo 16, and every other is as it was
pub record HalfPut (x j : ℕ) (old new : List ℕ) : Type 0 where
  pub kept : length new ≡ length old
  pub here : nib new j ≡ x % 16
  pub others : (k : ℕ) → (k ≡ j → ⊥) → nib new k ≡ nib old k
  pub bytes : Bytes old → Bytes new
