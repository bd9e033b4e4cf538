-- Who hashes what: the uses of SHAKE256 of the submission's section 4.4, one definition for each. A use begins with a byte of its own, which document 01
-- gives; the general pseudo-random call has none. S is λ over 8, so that 2λ bits are 2 S bytes.
-- Assumes nothing.
use Rattle.std.specs.Prelude.{List, [], ◌∷◌, ◌++◌, ℕ, ◌*◌, ◌/◌, ◌%◌}
use Rattle.sponge.specs.Sponge.{shake256}

-- enc16(): an integer on 2 bytes, the least significant first. A larger integer counts modulo 65536
unfoldable pub enc16 : ℕ → List ℕ
enc16 x = x % 256 ∷ x / 256 % 256 ∷ []

-- document 01, "Each use begins with a fixed byte of its own"
abbrev pub commitment : ℕ
commitment = 0x00

abbrev pub first_hash : ℕ
first_hash = 0x01

abbrev pub second_hash : ℕ
second_hash = 0x02

abbrev pub child_seed : ℕ
child_seed = 0x03

abbrev pub expanded_tape : ℕ
expanded_tape = 0x04

-- 4.4: 0x00 || salt || enc16(e) || enc16(i) || seed
unfoldable pub commit_fields : List ℕ → ℕ → ℕ → List ℕ → List ℕ
commit_fields salt e i seed = commitment ∷ (salt ++ (enc16 e ++ (enc16 i ++ seed)))

-- 4.4: 0x01 || salt || msg || σ₁
unfoldable pub first_fields : List ℕ → List ℕ → List ℕ → List ℕ
first_fields salt msg σ₁ = first_hash ∷ (salt ++ (msg ++ σ₁))

-- 4.4: 0x02 || salt || h₁ || σ₂
unfoldable pub second_fields : List ℕ → List ℕ → List ℕ → List ℕ
second_fields salt h₁ σ₂ = second_hash ∷ (salt ++ (h₁ ++ σ₂))

-- 4.4: 0x03 || salt || enc16(e) || enc16(k) || enc16(j) || seed
unfoldable pub child_fields : List ℕ → ℕ → ℕ → ℕ → List ℕ → List ℕ
child_fields salt e k j seed = child_seed ∷ (salt ++ (enc16 e ++ (enc16 k ++ (enc16 j ++ seed))))

-- 4.4: 0x04 || salt || enc16(e) || enc16(i) || seed
unfoldable pub tape_fields : List ℕ → ℕ → ℕ → List ℕ → List ℕ
tape_fields salt e i seed = expanded_tape ∷ (salt ++ (enc16 e ++ (enc16 i ++ seed)))

-- 4.4: Commit
unfoldable pub commit : ℕ → List ℕ → ℕ → ℕ → List ℕ → List ℕ
commit S salt e i seed = shake256 (commit_fields salt e i seed) (2 * S)

-- 4.4: H1
unfoldable pub hash1 : ℕ → List ℕ → List ℕ → List ℕ → List ℕ
hash1 S salt msg σ₁ = shake256 (first_fields salt msg σ₁) (2 * S)

-- 4.4: H2
unfoldable pub hash2 : ℕ → List ℕ → List ℕ → List ℕ → List ℕ
hash2 S salt h₁ σ₂ = shake256 (second_fields salt h₁ σ₂) (2 * S)

-- 4.4: ChildSeeds
unfoldable pub child_seeds : ℕ → List ℕ → ℕ → ℕ → ℕ → List ℕ → List ℕ
child_seeds S salt e k j seed = shake256 (child_fields salt e k j seed) (2 * S)

-- 4.4: ExpandTape, whose first n bytes these are
unfoldable pub expand_tape : List ℕ → ℕ → ℕ → List ℕ → ℕ → List ℕ
expand_tape salt e i seed n = shake256 (tape_fields salt e i seed) n

-- 4.4: PRF, of k bytes
unfoldable pub prf : List ℕ → ℕ → List ℕ
prf input k = shake256 input k
