-- The fields of a use laid one after another in a block, and the laws that callers cite.
-- Assumes nothing.
use mathlib.Core.Path.{◌≡◌, refl, ap, ap₂, ◌∙◌}
use mathlib.Core.List.{List, [], ◌∷◌, ◌++◌, append_assoc}
use Prim.Native.Nat.{ℕ, ◌+◌, ◌-◌, ◌*◌, ◌<◌}
use native.Mathlib.Omega.{arith}
use lib.ListN.{length, get_or, take, drop, set, replicate, length-append}
use lib.Seq.{take_at, drop_at}
use Rattle.memory.specs.Lists.{put}
use Rattle.memory.proofs.Lists.{drop-replicate}
use Rattle.memory.proofs.Parts.{set-put, put_section}
use Rattle.sponge.specs.declared.Sponge.{Sponge}
use Rattle.sponge.specs.Steps.{fresh, absorbed, finished, given}
use Rattle.sponge.proofs.Laws.{absorbed-append, given-shake256, length-shake256}
use Rattle.hashes.specs.Hashes.{enc16, commit, child_seeds, first_hash, second_hash, first_fields, second_fields, hash1, hash2}

pub length-commit : (S : ℕ) (salt : List ℕ) (e i : ℕ) (seed : List ℕ) → length (commit S salt e i seed) ≡ 2 * S
unfolding commit
length-commit S salt e i seed = length-shake256 _ (2 * S)

pub length-child_seeds : (S : ℕ) (salt : List ℕ) (e k j : ℕ) (seed : List ℕ) → length (child_seeds S salt e k j seed) ≡ 2 * S
unfolding child_seeds
length-child_seeds S salt e k j seed = length-shake256 _ (2 * S)

-- the two long hashes, once the rest is absorbed
pub first-absorbed : (salt msg σ₁ : List ℕ) → absorbed (absorbed (absorbed fresh (first_hash ∷ salt)) msg) σ₁ ≡ absorbed fresh (first_fields salt msg σ₁)
unfolding first_fields
first-absorbed salt msg σ₁ =
    ap (λ s. absorbed s σ₁) (absorbed-append fresh (first_hash ∷ salt) msg)
    ∙ absorbed-append fresh (first_hash ∷ (salt ++ msg)) σ₁
    ∙ ap (λ (m : List ℕ). absorbed fresh (first_hash ∷ m)) (append_assoc salt msg σ₁)

pub second-absorbed : (salt h₁ σ₂ : List ℕ) → absorbed (absorbed fresh (second_hash ∷ (salt ++ h₁))) σ₂ ≡ absorbed fresh (second_fields salt h₁ σ₂)
unfolding second_fields
second-absorbed salt h₁ σ₂ =
    absorbed-append fresh (second_hash ∷ (salt ++ h₁)) σ₂
    ∙ ap (λ (m : List ℕ). absorbed fresh (second_hash ∷ m)) (append_assoc salt h₁ σ₂)

-- what their tapes give
pub given-first : (S : ℕ) (salt msg σ₁ : List ℕ) → given (finished (absorbed fresh (first_fields salt msg σ₁))) (2 * S) ≡ hash1 S salt msg σ₁
unfolding hash1
given-first S salt msg σ₁ = given-shake256 (first_fields salt msg σ₁) (2 * S)

pub given-second : (S : ℕ) (salt h₁ σ₂ : List ℕ) → given (finished (absorbed fresh (second_fields salt h₁ σ₂))) (2 * S) ≡ hash2 S salt h₁ σ₂
unfolding hash2
given-second S salt h₁ σ₂ = given-shake256 (second_fields salt h₁ σ₂) (2 * S)

-- a byte and three fields laid one after another in a block
set_first : (block : List ℕ) (byte : ℕ) → 0 < length block → set block 0 byte ≡ (byte ∷ []) ++ drop 1 block
unfolding put
set_first block byte h = set-put block 0 byte h

laid : (block : List ℕ) (byte : ℕ) (salt numbers seed : List ℕ) → 0 < length block →
    put (put (put (set block 0 byte) 1 salt) (1 + length salt) numbers) (1 + length salt + length numbers) seed
    ≡ (byte ∷ (salt ++ (numbers ++ seed))) ++ drop (1 + length salt + length numbers + length seed) block
laid block byte salt numbers seed h =
    ap (λ (x : List ℕ). put (put (put x 1 salt) (1 + length salt) numbers) (1 + length salt + length numbers) seed) (set_first block byte h)
    ∙ ap (λ (x : List ℕ). put (put x (1 + length salt) numbers) (1 + length salt + length numbers) seed) (put_section (byte ∷ []) block 1 salt refl)
    ∙ ap (λ (x : List ℕ). put x (1 + length salt + length numbers) seed) (put_section (byte ∷ salt) block (1 + length salt) numbers (omega arith))
    ∙ put_section (byte ∷ (salt ++ numbers)) block (1 + length salt + length numbers) seed (simp length-append (omega arith))
    ∙ ap (λ (x : List ℕ). (byte ∷ x) ++ drop (1 + length salt + length numbers + length seed) block) (append_assoc salt numbers seed)

-- the same in turns, as the code has it
pub assembled : (block : List ℕ) (byte : ℕ) (salt numbers seed x y z : List ℕ) (a b n : ℕ) → 0 < length block →
    a ≡ 1 + length salt → x ≡ put (set block 0 byte) 1 salt → b ≡ a + length numbers → y ≡ put x a numbers → n ≡ b + length seed → z ≡ put y b seed →
    z ≡ (byte ∷ (salt ++ (numbers ++ seed))) ++ drop n block
assembled block byte salt numbers seed x y z a b n h ea ex eb ey en ez =
    let together : z ≡ put (put (put (set block 0 byte) 1 salt) (1 + length salt) numbers) (1 + length salt + length numbers) seed = cc in
    together ∙ laid block byte salt numbers seed h ∙ ap (λ (k : ℕ). (byte ∷ (salt ++ (numbers ++ seed))) ++ drop k block) (let g : 1 + length salt + length numbers + length seed ≡ n = omega arith in g)

-- fields over the start of zeros: behind them the zeros are left, and before that the fields stand
module _ (byte : ℕ) (salt numbers seed block : List ℕ) (k n : ℕ) (long : n ≡ 1 + length salt + length numbers + length seed) (e : block ≡ (byte ∷ (salt ++ (numbers ++ seed))) ++ drop n (replicate k 0)) where
  length_fields : length (byte ∷ (salt ++ (numbers ++ seed))) ≡ n
  length_fields = simp length-append (omega arith)

  pub behind_fields : drop n block ≡ replicate (k - n) 0
  behind_fields = ap (drop n) e ∙ drop_at (byte ∷ (salt ++ (numbers ++ seed))) (drop n (replicate k 0)) n length_fields ∙ drop-replicate n k 0

  pub only_fields : take n block ≡ byte ∷ (salt ++ (numbers ++ seed))
  only_fields = ap (take n) e ∙ take_at (byte ∷ (salt ++ (numbers ++ seed))) (drop n (replicate k 0)) n length_fields

-- a byte and then a list are absorbed as one
pub absorbed_after_byte : (byte : ℕ) (salt : List ℕ) (s t u : Sponge) → s ≡ fresh → t ≡ absorbed s (byte ∷ []) → u ≡ absorbed t salt → u ≡ absorbed fresh (byte ∷ salt)
absorbed_after_byte byte salt s t u e f g =
    g ∙ ap (λ (x : Sponge). absorbed x salt) (f ∙ ap (λ (x : Sponge). absorbed x (byte ∷ [])) e) ∙ absorbed-append fresh (byte ∷ []) salt

-- the bytes of two numbers, and of three
pub two_numbers : (e i : ℕ) (x y seed : List ℕ) → x ≡ enc16 e → y ≡ enc16 i →
    (get_or x 0 0 ∷ get_or x 1 0 ∷ get_or y 0 0 ∷ get_or y 1 0 ∷ []) ++ seed ≡ enc16 e ++ (enc16 i ++ seed)
unfolding enc16
two_numbers e i x y seed f g = ap₂ (λ (a b : List ℕ). (get_or a 0 0 ∷ get_or a 1 0 ∷ get_or b 0 0 ∷ get_or b 1 0 ∷ []) ++ seed) f g

pub three_numbers : (e k j : ℕ) (x y z seed : List ℕ) → x ≡ enc16 e → y ≡ enc16 k → z ≡ enc16 j →
    (get_or x 0 0 ∷ get_or x 1 0 ∷ get_or y 0 0 ∷ get_or y 1 0 ∷ get_or z 0 0 ∷ get_or z 1 0 ∷ []) ++ seed ≡ enc16 e ++ (enc16 k ++ (enc16 j ++ seed))
unfolding enc16
three_numbers e k j x y z seed f g h =
    ap (λ (a : List ℕ). get_or a 0 0 ∷ get_or a 1 0 ∷ ((get_or y 0 0 ∷ get_or y 1 0 ∷ get_or z 0 0 ∷ get_or z 1 0 ∷ []) ++ seed)) f
    ∙ ap (λ (a : List ℕ). enc16 e ++ a) (two_numbers k j y z seed g h)
