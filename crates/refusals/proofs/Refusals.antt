-- Sizes and numbers: the tests of a call answer 0 exactly where all its sizes are right, and 7 at most; what they refuse is the number of the call.
-- Assumes nothing.
use mathlib.Core.Path.{◌≡◌, refl}
use mathlib.Core.Logic.{◌⊎◌}
use Prim.Native.Nat.{ℕ, ◌*◌, ◌≤◌}
use native.Mathlib.Omega.{arith}
use Rattle.std.proofs.lemmas.Bool.Decides.{nat_tests}
use Rattle.sets.specs.Sets.{S, params_of, secret_key_length, public_key_length, signature_length}
use Rattle.refusals.specs.Refusals.{last_set, message_limit, work_length, bad_set, bad_random, differs, make_keys_sizes, public_half_sizes, sign_sizes, verify_sizes, or_else}

-- "under 65,536 bytes": the number stands in the specs once, and is shut there
pub work_length_is : work_length ≡ 65536
unfolding work_length
work_length_is = refl

-- ---- what is known where sizes are right

pub record KnownSet (set : ℕ) : Type 0 where
  pub from : 1 ≤ set
  pub to : set ≤ last_set

pub record MakeKeysRight (set cs ss sk pk w : ℕ) : Type 0 where
  pub known : KnownSet set
  pub circuit_seed : cs ≡ S (params_of set)
  pub secret_seed : ss ≡ S (params_of set)
  pub secret_key : secret_key_length (params_of set) ≤ sk
  pub public_key : public_key_length (params_of set) ≤ pk
  pub work : work_length ≤ w

pub record PublicHalfRight (set sk pk w : ℕ) : Type 0 where
  pub known : KnownSet set
  pub secret_key : sk ≡ secret_key_length (params_of set)
  pub public_key : public_key_length (params_of set) ≤ pk
  pub work : work_length ≤ w

pub record SignRight (set sk msg rnd sig w : ℕ) : Type 0 where
  pub known : KnownSet set
  pub random : (rnd ≡ 0) ⊎ (rnd ≡ 2 * S (params_of set))
  pub message : msg ≤ message_limit
  pub secret_key : sk ≡ secret_key_length (params_of set)
  pub signature : signature_length (params_of set) ≤ sig
  pub work : work_length ≤ w

pub record VerifyRight (set pk msg sig w : ℕ) : Type 0 where
  pub known : KnownSet set
  pub message : msg ≤ message_limit
  pub public_key : pk ≡ public_key_length (params_of set)
  pub signature : sig ≡ signature_length (params_of set)
  pub work : work_length ≤ w

-- ---- the four calls: the tests answer 0, so all sizes are right; and the other way round

module _ (set : ℕ) where
  pub make_keys_right : (circuit_seed secret_seed secret_key public_key work : ℕ)
      → make_keys_sizes set circuit_seed secret_seed secret_key public_key work ≡ 0 → MakeKeysRight set circuit_seed secret_seed secret_key public_key work
  unfolding make_keys_sizes differs bad_set
  make_keys_right circuit_seed secret_seed secret_key public_key work e = grind (arith, nat_tests)

  pub public_half_right : (secret_key public_key work : ℕ) → public_half_sizes set secret_key public_key work ≡ 0 → PublicHalfRight set secret_key public_key work
  unfolding public_half_sizes differs bad_set
  public_half_right secret_key public_key work e = grind (arith, nat_tests)

  pub sign_right : (secret_key message random signature work : ℕ) → sign_sizes set secret_key message random signature work ≡ 0 → SignRight set secret_key message random signature work
  unfolding sign_sizes differs bad_set bad_random
  sign_right secret_key message random signature work e = grind (arith, nat_tests)

  pub verify_right : (public_key message signature work : ℕ) → verify_sizes set public_key message signature work ≡ 0 → VerifyRight set public_key message signature work
  unfolding verify_sizes differs bad_set
  verify_right public_key message signature work e = grind (arith, nat_tests)

  pub right_make_keys : (circuit_seed secret_seed secret_key public_key work : ℕ)
      → MakeKeysRight set circuit_seed secret_seed secret_key public_key work → make_keys_sizes set circuit_seed secret_seed secret_key public_key work ≡ 0
  unfolding make_keys_sizes differs bad_set
  right_make_keys circuit_seed secret_seed secret_key public_key work r = grind (arith, nat_tests)

  pub right_public_half : (secret_key public_key work : ℕ) → PublicHalfRight set secret_key public_key work → public_half_sizes set secret_key public_key work ≡ 0
  unfolding public_half_sizes differs bad_set
  right_public_half secret_key public_key work r = grind (arith, nat_tests)

  pub right_sign : (secret_key message random signature work : ℕ) → SignRight set secret_key message random signature work → sign_sizes set secret_key message random signature work ≡ 0
  unfolding sign_sizes differs bad_set bad_random
  right_sign secret_key message random signature work r = grind (arith, nat_tests)

  pub right_verify : (public_key message signature work : ℕ) → VerifyRight set public_key message signature work → verify_sizes set public_key message signature work ≡ 0
  unfolding verify_sizes differs bad_set
  right_verify public_key message signature work r = grind (arith, nat_tests)

  -- sizes refuse with 7 at most
  pub make_keys_at_most : (circuit_seed secret_seed secret_key public_key work : ℕ) → make_keys_sizes set circuit_seed secret_seed secret_key public_key work ≤ 7
  unfolding make_keys_sizes differs bad_set
  make_keys_at_most circuit_seed secret_seed secret_key public_key work = grind (arith, nat_tests)

  pub public_half_at_most : (secret_key public_key work : ℕ) → public_half_sizes set secret_key public_key work ≤ 7
  unfolding public_half_sizes differs bad_set
  public_half_at_most secret_key public_key work = grind (arith, nat_tests)

  pub sign_at_most : (secret_key message random signature work : ℕ) → sign_sizes set secret_key message random signature work ≤ 7
  unfolding sign_sizes differs bad_set bad_random
  sign_at_most secret_key message random signature work = grind (arith, nat_tests)

  pub verify_at_most : (public_key message signature work : ℕ) → verify_sizes set public_key message signature work ≤ 7
  unfolding verify_sizes differs bad_set
  verify_at_most public_key message signature work = grind (arith, nat_tests)

-- ---- numbers

pub or_else_right : (sizes rest : ℕ) → sizes ≡ 0 → or_else sizes rest ≡ rest
unfolding or_else
or_else_right sizes rest e = grind (arith, nat_tests)

pub or_else_refused : (sizes rest : ℕ) → (sizes ≡ 0 → ⊥) → or_else sizes rest ≡ sizes
unfolding or_else
or_else_refused sizes rest n = grind (arith, nat_tests)

-- 0 says that both were right
pub or_else-done : (sizes rest : ℕ) → or_else sizes rest ≡ 0 → (sizes ≡ 0) × (rest ≡ 0)
unfolding or_else
or_else-done sizes rest e = grind (arith, nat_tests)
