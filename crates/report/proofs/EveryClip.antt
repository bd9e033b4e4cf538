-- Whatever signing wrote, put into an envelope, is genuine where both calls answer `Ok`, and every file has its line: said of the contracts of the calls themselves. An outcome of a call is any that its own `ensures` allows, so a
-- call whose promise were weaker would have no such theorem. An outcome's first part is the result; the arguments are meant by their places, as they are declared. Assumes nothing.
use mathlib.Core.Path.{◌≡◌, ap, ap₂, ◌∙◌}
use mathlib.Core.List.{List}
use Prim.Native.Nat.{ℕ}
use native.Mathlib.Omega.{arith}
use lib.ListN.{length, take}
use contract.Lifetimes.{Lfts}
use borrow.Fn.Kinds.{Dens}
use Rattle.std.proofs.Common.{Ok}
use Rattle.memory.specs.Lists.{over}
use Rattle.memory.specs.Outcome.{Outcome, Allowed}
use Rattle.sets.specs.Sets.{params_of, public_key_length, signature_length}
use Rattle.refusals.specs.Refusals.{number_of}
use Rattle.envelope.specs.Envelope.{the_version, header, placed, write_ended, write_outcome}
use Rattle.envelope.proofs.write as write
use Rattle.biscuit.specs.Keys.{public_half}
use Rattle.biscuit.specs.Desk.{public_half_ended, public_half_outcome, sign_ended}
use Rattle.biscuit.proofs.SignedIsAccepted.{half_with_0}
use Rattle.calls.proofs.public_half as public-half
use Rattle.calls.proofs.sign as sign
use Rattle.report.specs.Report.{genuine_line, input_limit, clip_line}
use Rattle.report.proofs.Clips.{cut_line}
use Rattle.report.proofs.SignedClips.{signed_clip_is_genuine}
use Rattle.report.proofs.clip_line as clip-line

-- The arguments a, b, c and d of a signing, a public half, a writing and a reporting call. Where signing and the public half answer `Ok` for one set and one secret key, writing answers `Ok` for that set, the public key and
-- the signature that were written and the same message, and the line is asked for the envelope that was written: then it is `genuine S L`, with the set and the message's length.
pub every_signed_clip_is_genuine :
    (κs : Lfts 5) (a : Dens κs sign.Kinds.ps) (signing : Outcome sign.Kinds.ps sign.Kinds.r κs a)
    (κs' : Lfts 3) (b : Dens κs' public-half.Kinds.ps) (half : Outcome public-half.Kinds.ps public-half.Kinds.r κs' b)
    (κs'' : Lfts 4) (c : Dens κs'' write.Kinds.ps) (writing : Outcome write.Kinds.ps write.Kinds.r κs'' c)
    (κs''' : Lfts 2) (d : Dens κs''' clip-line.Kinds.ps) (reporting : Outcome clip-line.Kinds.ps clip-line.Kinds.r κs''' d)
    → Allowed sign.Kinds.ps sign.Kinds.r sign.Reads.Asked sign.Reads.Learnt κs a signing
    → Allowed public-half.Kinds.ps public-half.Kinds.r public-half.Reads.Asked public-half.Reads.Learnt κs' b half
    → Allowed write.Kinds.ps write.Kinds.r write.Reads.Asked write.Reads.Learnt κs'' c writing
    → Allowed clip-line.Kinds.ps clip-line.Kinds.r clip-line.Reads.Asked clip-line.Reads.Learnt κs''' d reporting
    → signing.0 ≡ Ok tt → half.0 ≡ Ok tt → writing.0 ≡ Ok tt
    → b.0 ≡ a.0 → b.1.0.now ≡ a.1.0.now
    → c.0 ≡ a.0
    → c.1.0.now ≡ take (public_key_length (params_of a.0)) half.1.1.1.0
    → c.1.1.0.now ≡ take (signature_length (params_of a.0)) signing.1.1.1.1.1.0
    → c.1.1.1.0.now ≡ a.1.1.0.now
    → take d.1.0 d.0.now ≡ take (placed (header the_version a.0 (length a.1.1.0.now))).end writing.1.1.1.1.1.0
    → (reporting.0 ≡ length (genuine_line (header the_version a.0 (length a.1.1.0.now))))
    × (reporting.1.1.1.0 ≡ over (genuine_line (header the_version a.0 (length a.1.1.0.now))) d.1.1.0.now)
every_signed_clip_is_genuine κs a signing κs' b half κs'' c writing κs''' d reporting s h w l z y x same_set same_key write-set key signature message input =
    let set = a.0 in
    let sk = a.1.0.now in
    let msg = a.1.1.0.now in
    let p : public_half_ended (number_of half.0) half.1.1.1.0 half.1.1.1.1.0 ≡ public_half_outcome set sk b.1.1.0.now b.1.1.1.0.now =
    h.promised ∙ ap₂ (λ (n : ℕ) (k : List ℕ). public_half_outcome n k b.1.1.0.now b.1.1.1.0.now) same_set same_key in
    let pk = half_with_0 set sk b.1.1.0.now b.1.1.1.0.now (public_half_ended (number_of half.0) half.1.1.1.0 half.1.1.1.1.0) p (ap number_of y) in
    let sig = take (signature_length (params_of set)) signing.1.1.1.1.1.0 in
    let q : write_ended (number_of writing.0) writing.1.1.1.1.1.0 ≡ write_outcome set (public_half (params_of set) sk) sig msg c.1.1.1.1.0.now =
    w.promised
    ∙ ap₂ (λ (n : ℕ) (k : List ℕ). write_outcome n k c.1.1.0.now c.1.1.1.0.now c.1.1.1.1.0.now) write-set (key ∙ pk)
    ∙ ap₂ (λ (t v : List ℕ). write_outcome set (public_half (params_of set) sk) t v c.1.1.1.1.0.now) signature message in
    let genuine = signed_clip_is_genuine set sk msg a.1.1.1.0.now a.1.1.1.1.0.now a.1.1.1.1.1.0.now c.1.1.1.1.0.now
    (sign_ended (number_of signing.0) signing.1.1.1.1.1.0 signing.1.1.1.1.1.1.0) (write_ended (number_of writing.0) writing.1.1.1.1.1.0) s.promised (ap number_of z) q (ap number_of x) in
    let line = ap clip_line input ∙ genuine in
    (l.promised.0 ∙ ap length line, l.promised.1 ∙ ap (λ (t : List ℕ). over t d.1.1.0.now) line)

-- "It reads at most 65,536 bytes; a longer input is still longer than any legal envelope". Whatever a file e holds: where the first n bytes of the input are the first 65,536 of the file, the line is that of the whole file.
pub every_file_has_its_line :
    (κs : Lfts 2) (a : Dens κs clip-line.Kinds.ps) (reporting : Outcome clip-line.Kinds.ps clip-line.Kinds.r κs a)
    → Allowed clip-line.Kinds.ps clip-line.Kinds.r clip-line.Reads.Asked clip-line.Reads.Learnt κs a reporting
    → (e : List ℕ) → take a.1.0 a.0.now ≡ take input_limit e
    → (reporting.0 ≡ length (clip_line e)) × (reporting.1.1.1.0 ≡ over (clip_line e) a.1.1.0.now)
every_file_has_its_line κs a reporting l e input =
    let line = ap clip_line input ∙ cut_line input_limit e (omega arith) in
    (l.promised.0 ∙ ap length line, l.promised.1 ∙ ap (λ (t : List ℕ). over t a.1.1.0.now) line)
