-- Every signature that the signing call returns is accepted by the verifying call, for the same set and message, under the public half of its key. It is said of the contracts of the calls
-- themselves: an outcome of a call is any that its own `ensures` allows, so a call whose promise were weaker would have no such theorem. Assumes nothing.
use mathlib.Core.Path.{◌≡◌, ap, ap₂, ◌∙◌}
use mathlib.Core.List.{List}
use Prim.Native.Nat.{ℕ, ◌≤◌}
use lib.ListN.{length, take}
use contract.Lifetimes.{Lfts}
use borrow.Fn.Kinds.{Dens}
use Rattle.std.proofs.Common.{Ok}
use Rattle.memory.specs.Outcome.{Outcome, Allowed}
use Rattle.sets.specs.Sets.{params_of, secret_key_length, public_key_length, signature_length}
use Rattle.refusals.specs.Refusals.{work_length, number_of}
use Rattle.refusals.proofs.Numbers.{done_is_ok}
use Rattle.biscuit.specs.Desk.{make_keys_ended, public_half_ended, public_half_outcome, sign_ended, sign_outcome, verify_ended, verify_outcome}
use Rattle.biscuit.proofs.SignedIsAccepted.{signed_is_accepted_under_half, made_signed_accepted}
use Rattle.calls.proofs.make_keys as make-keys
use Rattle.calls.proofs.public_half as public-half
use Rattle.calls.proofs.«sign» as sign
use Rattle.calls.proofs.«verify» as verify

-- The arguments a, b and c of a signing, a public half and a verifying call, by their places: set, then the slices as they are declared; an outcome's first part is the answer.
-- Where signing and the public half answer `Ok` for one set and one secret key, and verifying is called with that set, the public key and the signature that were written, the same message and
-- work enough, it answers `Ok`.
pub every_signature_is_accepted :
    (κs : Lfts 5) (a : Dens κs sign.Kinds.ps) (signing : Outcome sign.Kinds.ps sign.Kinds.r κs a)
    (κs' : Lfts 3) (b : Dens κs' public-half.Kinds.ps) (half : Outcome public-half.Kinds.ps public-half.Kinds.r κs' b)
    (κs'' : Lfts 4) (c : Dens κs'' verify.Kinds.ps) (verifying : Outcome verify.Kinds.ps verify.Kinds.r κs'' c)
    → Allowed sign.Kinds.ps sign.Kinds.r sign.Reads.Asked sign.Reads.Learnt κs a signing
    → Allowed public-half.Kinds.ps public-half.Kinds.r public-half.Reads.Asked public-half.Reads.Learnt κs' b half
    → Allowed verify.Kinds.ps verify.Kinds.r verify.Reads.Asked verify.Reads.Learnt κs'' c verifying
    → signing.0 ≡ Ok tt → half.0 ≡ Ok tt
    → b.0 ≡ a.0 → b.1.0.now ≡ a.1.0.now
    → c.0 ≡ a.0
    → c.1.0.now ≡ take (public_key_length (params_of a.0)) half.1.1.1.0
    → c.1.1.0.now ≡ a.1.1.0.now
    → c.1.1.1.0.now ≡ take (signature_length (params_of a.0)) signing.1.1.1.1.1.0
    → work_length ≤ length c.1.1.1.1.0.now
    → verifying.0 ≡ Ok tt
every_signature_is_accepted κs a signing κs' b half κs'' c verifying s h v z y same_set same_key verify-set key message signature room =
    let set = a.0 in
    let sk = a.1.0.now in
    let msg = a.1.1.0.now in
    let pkBefore = b.1.1.0.now in
    let halfWork = b.1.1.1.0.now in
    let work = c.1.1.1.1.0.now in
    let p : public_half_ended (number_of half.0) half.1.1.1.0 half.1.1.1.1.0 ≡ public_half_outcome set sk pkBefore halfWork =
    h.promised ∙ ap₂ (λ (n : ℕ) (x : List ℕ). public_half_outcome n x pkBefore halfWork) same_set same_key in
    let q : verify_ended (number_of verifying.0) verifying.1.1.1.1.1.0
    ≡ verify_outcome set (take (public_key_length (params_of set)) half.1.1.1.0) msg (take (signature_length (params_of set)) signing.1.1.1.1.1.0) work =
    v.promised
    ∙ ap₂ (λ (n : ℕ) (x : List ℕ). verify_outcome n x c.1.1.0.now c.1.1.1.0.now work) verify-set key
    ∙ ap₂ (λ (x w : List ℕ). verify_outcome set (take (public_key_length (params_of set)) half.1.1.1.0) x w work) message signature in
    done_is_ok verifying.0
    (signed_is_accepted_under_half set sk msg a.1.1.1.0.now a.1.1.1.1.0.now a.1.1.1.1.1.0.now pkBefore halfWork work
    (sign_ended (number_of signing.0) signing.1.1.1.1.1.0 signing.1.1.1.1.1.1.0)
    (public_half_ended (number_of half.0) half.1.1.1.0 half.1.1.1.1.0)
    (verify_ended (number_of verifying.0) verifying.1.1.1.1.1.0)
    s.promised (ap number_of z) p (ap number_of y) room q)

-- The same with keys that were made together: where making keys and signing answer `Ok`, signing with that set and the secret key that was written, and verifying is called with that set,
-- the public key and the signature that were written, the same message and work enough, it answers `Ok`.
pub every_signature_of_made_keys_is_accepted :
    (κs : Lfts 5) (b : Dens κs make-keys.Kinds.ps) (made : Outcome make-keys.Kinds.ps make-keys.Kinds.r κs b)
    (κs' : Lfts 5) (a : Dens κs' sign.Kinds.ps) (signing : Outcome sign.Kinds.ps sign.Kinds.r κs' a)
    (κs'' : Lfts 4) (c : Dens κs'' verify.Kinds.ps) (verifying : Outcome verify.Kinds.ps verify.Kinds.r κs'' c)
    → Allowed make-keys.Kinds.ps make-keys.Kinds.r make-keys.Reads.Asked make-keys.Reads.Learnt κs b made
    → Allowed sign.Kinds.ps sign.Kinds.r sign.Reads.Asked sign.Reads.Learnt κs' a signing
    → Allowed verify.Kinds.ps verify.Kinds.r verify.Reads.Asked verify.Reads.Learnt κs'' c verifying
    → made.0 ≡ Ok tt → signing.0 ≡ Ok tt
    → a.0 ≡ b.0 → a.1.0.now ≡ take (secret_key_length (params_of b.0)) made.1.1.1.1.0
    → c.0 ≡ b.0
    → c.1.0.now ≡ take (public_key_length (params_of b.0)) made.1.1.1.1.1.0
    → c.1.1.0.now ≡ a.1.1.0.now
    → c.1.1.1.0.now ≡ take (signature_length (params_of b.0)) signing.1.1.1.1.1.0
    → work_length ≤ length c.1.1.1.1.0.now
    → verifying.0 ≡ Ok tt
every_signature_of_made_keys_is_accepted κs b made κs' a signing κs'' c verifying m s v y z sign_set sign-key verify-set key message signature room =
    let set = b.0 in
    let msg = a.1.1.0.now in
    let rnd = a.1.1.1.0.now in
    let sigBefore = a.1.1.1.1.0.now in
    let signWork = a.1.1.1.1.1.0.now in
    let work = c.1.1.1.1.0.now in
    let sk = take (secret_key_length (params_of set)) made.1.1.1.1.0 in
    let pk = take (public_key_length (params_of set)) made.1.1.1.1.1.0 in
    let p : sign_ended (number_of signing.0) signing.1.1.1.1.1.0 signing.1.1.1.1.1.1.0 ≡ sign_outcome set sk msg rnd sigBefore signWork =
    s.promised ∙ ap₂ (λ (n : ℕ) (x : List ℕ). sign_outcome n x msg rnd sigBefore signWork) sign_set sign-key in
    let q : verify_ended (number_of verifying.0) verifying.1.1.1.1.1.0 ≡ verify_outcome set pk msg (take (signature_length (params_of set)) signing.1.1.1.1.1.0) work =
    v.promised
    ∙ ap₂ (λ (n : ℕ) (x : List ℕ). verify_outcome n x c.1.1.0.now c.1.1.1.0.now work) verify-set key
    ∙ ap₂ (λ (x w : List ℕ). verify_outcome set pk x w work) message signature in
    done_is_ok verifying.0
    (made_signed_accepted set b.1.0.now b.1.1.0.now b.1.1.1.0.now b.1.1.1.1.0.now b.1.1.1.1.1.0.now msg rnd sigBefore signWork work
    (make_keys_ended (number_of made.0) made.1.1.1.1.0 made.1.1.1.1.1.0 made.1.1.1.1.1.1.0)
    (sign_ended (number_of signing.0) signing.1.1.1.1.1.0 signing.1.1.1.1.1.1.0)
    (verify_ended (number_of verifying.0) verifying.1.1.1.1.1.0)
    m.promised (ap number_of y) p (ap number_of z) room q)
