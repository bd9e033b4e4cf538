-- Over the promises of the calls: whatever signing wrote with the number 0 is accepted by verifying under the public half of the key, and whatever keys were made
-- with the number 0 sign and verify together. Assumes nothing.
use mathlib.Core.Path.{◌≡◌, refl, sym, ap, ◌∙◌}
use mathlib.Core.Bool.{Bool, true, false, cond}
use mathlib.Core.List.{List}
use Prim.Native.Nat.{ℕ, ◌≤◌}
use native.Mathlib.Omega.{arith}
use lib.ListN.{length, take}
use Rattle.memory.proofs.Xors.{take-over}
use Rattle.sets.specs.Sets.{params_of, secret_key_length, public_key_length, signature_length}
use Rattle.biscuit.specs.Keys.{secret_key, public_key, consistent_key, public_half}
use Rattle.biscuit.specs.Sign.{signature}
use Rattle.refusals.specs.Refusals.{work_length, public_half_sizes, sign_sizes}
use Rattle.biscuit.specs.Desk.{key_number, MakeKeysOutcome, make_keys_number, make_keys_outcome, PublicHalfOutcome, public_half_number, public_half_outcome, SignOutcome, sign_number, sign_outcome, VerifyOutcome, verify_outcome}
use Rattle.biscuit.proofs.Keys.{length-secret_key, length-public_key, length-public_half, made_key-consistent, public_half_of_made}
use Rattle.biscuit.proofs.Genuine.{length-signature, genuine_in_every_set}
use Rattle.refusals.proofs.Refusals.{SignRight, make_keys_right, public_half_right, sign_right, right_verify, or_else-done}
use Rattle.biscuit.proofs.Outcomes.{make_keys_done, public_half_done, sign-done, verify_genuine}

-- ---- a call whose number is 0

key-done : (set : ℕ) (sk : List ℕ) → key_number set sk ≡ 0 → consistent_key (params_of set) sk ≡ true
unfolding key_number
key-done set sk e = of (consistent_key (params_of set) sk) e
  where
    of : (b : Bool) → ◌≡◌ {A = ℕ} (cond b 0 8) 0 → b ≡ true
    of true e = refl
    of false e = absurd (omega arith)

-- what a signing call found and wrote
pub record Signed (set : ℕ) (sk msg rnd sigBefore workBefore : List ℕ) (ended : SignOutcome) : Type 0 where
  pub sizes : SignRight set (length sk) (length msg) (length rnd) (length sigBefore) (length workBefore)
  pub consistent : consistent_key (params_of set) sk ≡ true
  pub bytes : take (signature_length (params_of set)) ended.signature ≡ signature (params_of set) sk rnd msg

pub signed_with_0 : (set : ℕ) (sk msg rnd sigBefore workBefore : List ℕ) (ended : SignOutcome)
    → ended ≡ sign_outcome set sk msg rnd sigBefore workBefore → ended.number ≡ 0 → Signed set sk msg rnd sigBefore workBefore ended
unfolding sign_outcome sign_number
signed_with_0 set sk msg rnd sigBefore workBefore ended p z =
    let d = or_else-done (sign_sizes set (length sk) (length msg) (length rnd) (length sigBefore) (length workBefore)) (key_number set sk) (sym (ap (λ (o : SignOutcome). o.number) p) ∙ z) in
    let right = sign_right set (length sk) (length msg) (length rnd) (length sigBefore) (length workBefore) d.0 in
    let key = key-done set sk d.1 in
    record {
      sizes = right;
      consistent = key;
      bytes =
          ap (λ (o : SignOutcome). take (signature_length (params_of set)) o.signature) (p ∙ sym (sign-done set sk msg rnd sigBefore workBefore d.0 key))
          ∙ take-over (signature (params_of set) sk rnd msg) sigBefore (signature_length (params_of set)) (length-signature (params_of set) sk rnd msg right.secret_key) right.signature;
    }

-- what a call for the public half wrote
pub half_with_0 : (set : ℕ) (sk pkBefore workBefore : List ℕ) (ended : PublicHalfOutcome)
    → ended ≡ public_half_outcome set sk pkBefore workBefore → ended.number ≡ 0
    → take (public_key_length (params_of set)) ended.public_key ≡ public_half (params_of set) sk
unfolding public_half_outcome public_half_number
half_with_0 set sk pkBefore workBefore ended p z =
    let d = or_else-done (public_half_sizes set (length sk) (length pkBefore) (length workBefore)) (key_number set sk) (sym (ap (λ (o : PublicHalfOutcome). o.number) p) ∙ z) in
    let right = public_half_right set (length sk) (length pkBefore) (length workBefore) d.0 in
    ap (λ (o : PublicHalfOutcome). take (public_key_length (params_of set)) o.public_key) (p ∙ sym (public_half_done set sk pkBefore workBefore d.0 (key-done set sk d.1)))
    ∙ take-over (public_half (params_of set) sk) pkBefore (public_key_length (params_of set)) (length-public_half (params_of set) sk right.secret_key) right.public_key

-- ---- the theorems

-- Whatever a signing call wrote with the number 0 is accepted: a verifying call with work enough, on those bytes and the same message and set, under the public half
-- of the key, has the number 0.
pub signed_is_accepted : (set : ℕ) (sk msg rnd sigBefore workBefore verifyWork : List ℕ) (signing : SignOutcome) (verifying : VerifyOutcome)
    → signing ≡ sign_outcome set sk msg rnd sigBefore workBefore → signing.number ≡ 0 → work_length ≤ length verifyWork
    → verifying ≡ verify_outcome set (public_half (params_of set) sk) msg (take (signature_length (params_of set)) signing.signature) verifyWork
    → verifying.number ≡ 0
signed_is_accepted set sk msg rnd sigBefore workBefore verifyWork signing verifying p z room q =
    let s = signed_with_0 set sk msg rnd sigBefore workBefore signing p z in
    let pk = public_half (params_of set) sk in
    let sig = signature (params_of set) sk rnd msg in
    let size = right_verify set (length pk) (length msg) (length sig) (length verifyWork) (
    record {
      known = s.sizes.known;
      message = s.sizes.message;
      public_key = length-public_half (params_of set) sk s.sizes.secret_key;
      signature = length-signature (params_of set) sk rnd msg s.sizes.secret_key;
      work = room;
    }
    ) in
    let genuine = genuine_in_every_set set sk rnd msg s.sizes.known.from s.sizes.known.to s.sizes.secret_key s.consistent in
    ap (λ (o : VerifyOutcome). o.number)
    (q ∙ ap (λ (x : List ℕ). verify_outcome set pk msg x verifyWork) s.bytes ∙ sym (verify_genuine set pk msg sig verifyWork size genuine))

-- The same under the key that a call for the public half wrote with the number 0.
pub signed_is_accepted_under_half : (set : ℕ) (sk msg rnd sigBefore workBefore pkBefore halfWork verifyWork : List ℕ)
    (signing : SignOutcome) (half : PublicHalfOutcome) (verifying : VerifyOutcome)
    → signing ≡ sign_outcome set sk msg rnd sigBefore workBefore → signing.number ≡ 0
    → half ≡ public_half_outcome set sk pkBefore halfWork → half.number ≡ 0 → work_length ≤ length verifyWork
    → verifying ≡ verify_outcome set (take (public_key_length (params_of set)) half.public_key) msg (take (signature_length (params_of set)) signing.signature) verifyWork
    → verifying.number ≡ 0
signed_is_accepted_under_half set sk msg rnd sigBefore workBefore pkBefore halfWork verifyWork signing half verifying p z h y room q =
    signed_is_accepted set sk msg rnd sigBefore workBefore verifyWork signing verifying p z room
    (q ∙ ap (λ (pk : List ℕ). verify_outcome set pk msg (take (signature_length (params_of set)) signing.signature) verifyWork) (half_with_0 set sk pkBefore halfWork half h y))

-- what a call that makes keys wrote with the number 0: a consistent secret key of the right length, and its public half
pub record Made (set : ℕ) (ended : MakeKeysOutcome) : Type 0 where
  pub size : length (take (secret_key_length (params_of set)) ended.secret_key) ≡ secret_key_length (params_of set)
  pub consistent : consistent_key (params_of set) (take (secret_key_length (params_of set)) ended.secret_key) ≡ true
  pub half : public_half (params_of set) (take (secret_key_length (params_of set)) ended.secret_key) ≡ take (public_key_length (params_of set)) ended.public_key

-- Keys that were made with the number 0 belong together, and signing never refuses the secret one with 8.
pub made_with_0 : (set : ℕ) (circuit_seed secret_seed skBefore pkBefore workBefore : List ℕ) (ended : MakeKeysOutcome)
    → ended ≡ make_keys_outcome set circuit_seed secret_seed skBefore pkBefore workBefore → ended.number ≡ 0 → Made set ended
unfolding make_keys_outcome make_keys_number
made_with_0 set circuit_seed secret_seed skBefore pkBefore workBefore ended p z =
    let P = params_of set in
    let zero = sym (ap (λ (o : MakeKeysOutcome). o.number) p) ∙ z in
    let right = make_keys_right set (length circuit_seed) (length secret_seed) (length skBefore) (length pkBefore) (length workBefore) zero in
    let done = p ∙ sym (make_keys_done set circuit_seed secret_seed skBefore pkBefore workBefore zero) in
    let f = right.circuit_seed in
    let sk = ap (λ (o : MakeKeysOutcome). take (secret_key_length P) o.secret_key) done
    ∙ take-over (secret_key P circuit_seed secret_seed) skBefore (secret_key_length P) (length-secret_key P circuit_seed secret_seed f) right.secret_key in
    let pk = ap (λ (o : MakeKeysOutcome). take (public_key_length P) o.public_key) done
    ∙ take-over (public_key P circuit_seed secret_seed) pkBefore (public_key_length P) (length-public_key P circuit_seed secret_seed f) right.public_key in
    record {
      size = ap length sk ∙ length-secret_key P circuit_seed secret_seed f;
      consistent = ap (consistent_key P) sk ∙ made_key-consistent P circuit_seed secret_seed f;
      half = ap (public_half P) sk ∙ public_half_of_made P circuit_seed secret_seed f ∙ sym pk;
    }

-- Make keys, sign, verify: with keys that were made with the number 0, whatever signing wrote with the number 0 is accepted under the public key made with them.
pub made_signed_accepted : (set : ℕ) (circuit_seed secret_seed skBefore pkBefore makeWork msg rnd sigBefore signWork verifyWork : List ℕ)
    (made : MakeKeysOutcome) (signing : SignOutcome) (verifying : VerifyOutcome)
    → made ≡ make_keys_outcome set circuit_seed secret_seed skBefore pkBefore makeWork → made.number ≡ 0
    → signing ≡ sign_outcome set (take (secret_key_length (params_of set)) made.secret_key) msg rnd sigBefore signWork → signing.number ≡ 0 → work_length ≤ length verifyWork
    → verifying ≡ verify_outcome set (take (public_key_length (params_of set)) made.public_key) msg (take (signature_length (params_of set)) signing.signature) verifyWork
    → verifying.number ≡ 0
made_signed_accepted set circuit_seed secret_seed skBefore pkBefore makeWork msg rnd sigBefore signWork verifyWork made signing verifying g y p z room q =
    let keys = made_with_0 set circuit_seed secret_seed skBefore pkBefore makeWork made g y in
    signed_is_accepted set (take (secret_key_length (params_of set)) made.secret_key) msg rnd sigBefore signWork verifyWork signing verifying p z room
    (q ∙ ap (λ (pk : List ℕ). verify_outcome set pk msg (take (signature_length (params_of set)) signing.signature) verifyWork) (sym keys.half))
