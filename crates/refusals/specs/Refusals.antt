-- The numbers that the desk says (document 01, "What the desk says"), the tests of sizes in their order, and what lent bytes hold afterwards by the number.
-- A size test is over lengths; the names are those of the lent parts. Assumes nothing.
use Rattle.std.specs.Prelude.{Bool, not, ◌||◌, cond, List, ◌++◌, ℕ, ◌*◌, eqb, ltb, drop, replicate, Result, Ok, Err}
use Rattle.memory.specs.Lists.{over}
use Rattle.refusals.specs.declared.Refusal.{Refusal}
use Rattle.refusals.specs.declared.Refusal.TheVariants.{NoSuchSet, SeedLengthWrong, MessageTooLong, KeyLengthWrong, SignatureLengthWrong, OutputTooShort, WorkTooShort, KeyNotConsistent, NotAccepted, EnvelopeLengthWrong, EnvelopeVersionWrong}
use Rattle.sets.specs.Sets.{S, params_of, secret_key_length, public_key_length, signature_length}

-- ---- numbers

-- 0: done or genuine
abbrev pub done : ℕ
done = 0

-- 1: set outside 1 to 6
abbrev pub no_such_set : ℕ
no_such_set = 1

-- 2: a key seed isn't S bytes, or random bytes are neither 0 nor 2S
abbrev pub seed_length_wrong : ℕ
seed_length_wrong = 2

-- 3: message over 32,768 bytes
abbrev pub message_too_long : ℕ
message_too_long = 3

-- 4: key length wrong
abbrev pub key_length_wrong : ℕ
key_length_wrong = 4

-- 5: signature length wrong
abbrev pub signature_length_wrong : ℕ
signature_length_wrong = 5

-- 6: an output is shorter than the result
abbrev pub output_too_short : ℕ
output_too_short = 6

-- 7: work buffer under 65,536 bytes
abbrev pub work_too_short : ℕ
work_too_short = 7

-- 8: secret key not consistent
abbrev pub key_not_consistent : ℕ
key_not_consistent = 8

-- 9: verification doesn't accept
abbrev pub not_accepted : ℕ
not_accepted = 9

-- 10: envelope under 3 bytes, or total length wrong
abbrev pub envelope_length_wrong : ℕ
envelope_length_wrong = 10

-- 11: envelope version isn't 1
abbrev pub envelope_version_wrong : ℕ
envelope_version_wrong = 11

-- the sets are numbered from 1 to 6
abbrev pub last_set : ℕ
last_set = 6

-- the longest message, in bytes
abbrev pub message_limit : ℕ
message_limit = 32768

-- the bytes of work that a call needs, and leaves zero
unfoldable pub work_length : ℕ
work_length = 65536

-- the number of a refusal
abbrev pub refusal_number : Refusal → ℕ
refusal_number NoSuchSet = no_such_set
refusal_number SeedLengthWrong = seed_length_wrong
refusal_number MessageTooLong = message_too_long
refusal_number KeyLengthWrong = key_length_wrong
refusal_number SignatureLengthWrong = signature_length_wrong
refusal_number OutputTooShort = output_too_short
refusal_number WorkTooShort = work_too_short
refusal_number KeyNotConsistent = key_not_consistent
refusal_number NotAccepted = not_accepted
refusal_number EnvelopeLengthWrong = envelope_length_wrong
refusal_number EnvelopeVersionWrong = envelope_version_wrong

-- the number of an answer
abbrev pub number_of : {A : Type 0} → Result A Refusal → ℕ
number_of (Ok value) = done
number_of (Err refusal) = refusal_number refusal

-- ---- tests; each is true where it refuses

unfoldable pub bad_set : ℕ → Bool
bad_set set = ltb set 1 || ltb last_set set

-- neither 0 nor 2S bytes
unfoldable pub bad_random : ℕ → ℕ → Bool
bad_random S random = not (eqb random 0 || eqb random (2 * S))

unfoldable pub differs : ℕ → ℕ → Bool
differs length wanted = not (eqb length wanted)

-- the tests of sizes, in order: 1, 2, 6 (either output), 7
unfoldable pub make_keys_sizes : ℕ → ℕ → ℕ → ℕ → ℕ → ℕ → ℕ
make_keys_sizes set circuit_seed secret_seed secret_key public_key work =
    cond (bad_set set) no_such_set
    (cond (differs circuit_seed (S (params_of set)) || differs secret_seed (S (params_of set))) seed_length_wrong
    (cond (ltb secret_key (secret_key_length (params_of set)) || ltb public_key (public_key_length (params_of set))) output_too_short
    (cond (ltb work work_length) work_too_short done)))

-- 1, 4, 6, 7
unfoldable pub public_half_sizes : ℕ → ℕ → ℕ → ℕ → ℕ
public_half_sizes set secret_key public_key work =
    cond (bad_set set) no_such_set
    (cond (differs secret_key (secret_key_length (params_of set))) key_length_wrong
    (cond (ltb public_key (public_key_length (params_of set))) output_too_short
    (cond (ltb work work_length) work_too_short done)))

-- 1, 2, 3, 4, 6, 7
unfoldable pub sign_sizes : ℕ → ℕ → ℕ → ℕ → ℕ → ℕ → ℕ
sign_sizes set secret_key message random signature work =
    cond (bad_set set) no_such_set
    (cond (bad_random (S (params_of set)) random) seed_length_wrong
    (cond (ltb message_limit message) message_too_long
    (cond (differs secret_key (secret_key_length (params_of set))) key_length_wrong
    (cond (ltb signature (signature_length (params_of set))) output_too_short
    (cond (ltb work work_length) work_too_short done)))))

-- 1, 3, 4, 5, 7
unfoldable pub verify_sizes : ℕ → ℕ → ℕ → ℕ → ℕ → ℕ
verify_sizes set public_key message signature work =
    cond (bad_set set) no_such_set
    (cond (ltb message_limit message) message_too_long
    (cond (differs public_key (public_key_length (params_of set))) key_length_wrong
    (cond (differs signature (signature_length (params_of set))) signature_length_wrong
    (cond (ltb work work_length) work_too_short done))))

-- ---- the number of a call

-- what the sizes refuse; where they are right, what comes after them
unfoldable pub or_else : ℕ → ℕ → ℕ
or_else sizes rest = cond (eqb sizes done) rest sizes

-- ---- what lent bytes hold afterwards, by the call's number

-- the first 65,536 bytes zero, and the rest unchanged
unfoldable pub cleared : List ℕ → List ℕ
cleared work = replicate work_length 0 ++ drop work_length work

-- "Refusals 1 to 7, 10 and 11 change nothing. After 8, 9 or 0 a lent work buffer has its first 65,536 bytes zero and the rest unchanged"
unfoldable pub work_after : ℕ → List ℕ → List ℕ
work_after number work = cond (eqb number done || (eqb number key_not_consistent || eqb number not_accepted)) (cleared work) work

-- "8 and 9 leave outputs untouched. After 0 an output holds the result first, and its later bytes are unchanged"
unfoldable pub output_after : ℕ → List ℕ → List ℕ → List ℕ
output_after number result output = cond (eqb number done) (over result output) output
