-- What each of the four calls promises: its number and every byte that it was lent (document 01, "What the desk says").
-- `..Before` of an output or of work is what stood there when the call began. The table's numbers and the tests of sizes are those of crate `refusals`.
-- Assumes nothing.
use Rattle.std.specs.Prelude.{cond, List, ℕ, length}
use Rattle.sets.specs.Sets.{params_of}
use Rattle.refusals.specs.Refusals.{done, key_not_consistent, not_accepted, make_keys_sizes, public_half_sizes, sign_sizes, verify_sizes, or_else, work_after, output_after}
use Rattle.biscuit.specs.Keys.{secret_key, public_key, consistent_key, public_half}
use Rattle.biscuit.specs.Sign as sign
use Rattle.biscuit.specs.Verify.{accepts}

-- ---- the number of a call, where sizes are right

-- 8 where the secret key is not consistent
unfoldable pub key_number : ℕ → List ℕ → ℕ
key_number set secret_key = cond (consistent_key (params_of set) secret_key) done key_not_consistent

-- 9 where verification doesn't accept
unfoldable pub accept_number : ℕ → List ℕ → List ℕ → List ℕ → ℕ
accept_number set public_key message signature = cond (accepts (params_of set) public_key message signature) done not_accepted

-- ---- the four calls

-- make keys: the number, and what the two outputs and work hold afterwards
pub record MakeKeysOutcome : Type 0 where
  pub number : ℕ
  pub secret_key : List ℕ
  pub public_key : List ℕ
  pub work : List ℕ

-- how the call ended
abbrev pub make_keys_ended : ℕ → List ℕ → List ℕ → List ℕ → MakeKeysOutcome
make_keys_ended number secret_key public_key work = record { number = number; secret_key = secret_key; public_key = public_key; work = work }

-- its number: 1, 2, 6, 7 or 0
unfoldable pub make_keys_number : ℕ → List ℕ → List ℕ → List ℕ → List ℕ → List ℕ → ℕ
make_keys_number set circuit_seed secret_seed skBefore pkBefore workBefore =
    make_keys_sizes set (length circuit_seed) (length secret_seed) (length skBefore) (length pkBefore) (length workBefore)

-- what it promises
unfoldable pub make_keys_outcome : ℕ → List ℕ → List ℕ → List ℕ → List ℕ → List ℕ → MakeKeysOutcome
make_keys_outcome set circuit_seed secret_seed skBefore pkBefore workBefore =
    let number = make_keys_number set circuit_seed secret_seed skBefore pkBefore workBefore in
    make_keys_ended number
    (output_after number (secret_key (params_of set) circuit_seed secret_seed) skBefore)
    (output_after number (public_key (params_of set) circuit_seed secret_seed) pkBefore)
    (work_after number workBefore)

-- public half: the number, and what the output and work hold afterwards
pub record PublicHalfOutcome : Type 0 where
  pub number : ℕ
  pub public_key : List ℕ
  pub work : List ℕ

-- how the call ended
abbrev pub public_half_ended : ℕ → List ℕ → List ℕ → PublicHalfOutcome
public_half_ended number public_key work = record { number = number; public_key = public_key; work = work }

-- its number: 1, 4, 6, 7, 8 or 0
unfoldable pub public_half_number : ℕ → List ℕ → List ℕ → List ℕ → ℕ
public_half_number set sk pkBefore workBefore = or_else (public_half_sizes set (length sk) (length pkBefore) (length workBefore)) (key_number set sk)

-- what it promises
unfoldable pub public_half_outcome : ℕ → List ℕ → List ℕ → List ℕ → PublicHalfOutcome
public_half_outcome set sk pkBefore workBefore =
    let number = public_half_number set sk pkBefore workBefore in
    public_half_ended number (output_after number (public_half (params_of set) sk) pkBefore) (work_after number workBefore)

-- sign: the number, and what the output and work hold afterwards
pub record SignOutcome : Type 0 where
  pub number : ℕ
  pub signature : List ℕ
  pub work : List ℕ

-- how the call ended
abbrev pub sign_ended : ℕ → List ℕ → List ℕ → SignOutcome
sign_ended number signature work = record { number = number; signature = signature; work = work }

-- its number: 1, 2, 3, 4, 6, 7, 8 or 0
unfoldable pub sign_number : ℕ → List ℕ → List ℕ → List ℕ → List ℕ → List ℕ → ℕ
sign_number set sk msg rnd sigBefore workBefore =
    or_else (sign_sizes set (length sk) (length msg) (length rnd) (length sigBefore) (length workBefore)) (key_number set sk)

-- what it promises
unfoldable pub sign_outcome : ℕ → List ℕ → List ℕ → List ℕ → List ℕ → List ℕ → SignOutcome
sign_outcome set sk msg rnd sigBefore workBefore =
    let number = sign_number set sk msg rnd sigBefore workBefore in
    sign_ended number (output_after number (sign.signature (params_of set) sk rnd msg) sigBefore) (work_after number workBefore)

-- verify: the number, and what work holds afterwards
pub record VerifyOutcome : Type 0 where
  pub number : ℕ
  pub work : List ℕ

-- how the call ended
abbrev pub verify_ended : ℕ → List ℕ → VerifyOutcome
verify_ended number work = record { number = number; work = work }

-- its number: 1, 3, 4, 5, 7, 9 or 0
unfoldable pub verify_number : ℕ → List ℕ → List ℕ → List ℕ → List ℕ → ℕ
verify_number set pk msg sig workBefore =
    or_else (verify_sizes set (length pk) (length msg) (length sig) (length workBefore)) (accept_number set pk msg sig)

-- what it promises
unfoldable pub verify_outcome : ℕ → List ℕ → List ℕ → List ℕ → List ℕ → VerifyOutcome
verify_outcome set pk msg sig workBefore =
    let number = verify_number set pk msg sig workBefore in
    verify_ended number (work_after number workBefore)
