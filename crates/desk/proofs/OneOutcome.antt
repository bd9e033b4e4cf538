-- Each call has one outcome: any two outcomes that its promise allows are equal. A promise is an equation to the outcome that the inputs, and what lay in the lent parts before,
-- determine; so the number and every byte are settled, for refusals too. Assumes nothing.
use mathlib.Core.Path.{sym, ap, ◌∙◌}
use Prim.Native.Nat.{ℕ}
use Rattle.memory.specs.Outcome.{OneOutcome}
use Rattle.envelope.specs.declared.Header.{Header}
use Rattle.envelope.specs.declared.Places.{Places}
use Rattle.envelope.specs.Envelope.{WriteOutcome}
use Rattle.biscuit.specs.Desk.{MakeKeysOutcome, PublicHalfOutcome, SignOutcome, VerifyOutcome}
use Rattle.desk.proofs.biscuit_make_keys as make-keys
use Rattle.desk.proofs.biscuit_public_half as public-half
use Rattle.desk.proofs.biscuit_sign as sign
use Rattle.desk.proofs.biscuit_verify as verify
use Rattle.desk.proofs.clips.envelope_write as envelope-write
use Rattle.desk.proofs.clips.envelope_read as envelope-read
use Rattle.desk.proofs.clips.envelope_header as envelope-header
use Rattle.desk.proofs.clips.envelope_places as envelope-places

pub make_keys_one_outcome : OneOutcome make-keys.Kinds.ps make-keys.Kinds.r make-keys.Reads.Asked make-keys.Reads.Learnt
make_keys_one_outcome κs a good asked o q x y =
    ap (λ (m : MakeKeysOutcome). (m.number, (tt, (tt, (tt, (m.secret_key, (m.public_key, (m.work, tt)))))))) (x.promised ∙ sym y.promised)

pub public_half_one_outcome : OneOutcome public-half.Kinds.ps public-half.Kinds.r public-half.Reads.Asked public-half.Reads.Learnt
public_half_one_outcome κs a good asked o q x y =
    ap (λ (m : PublicHalfOutcome). (m.number, (tt, (tt, (m.public_key, (m.work, tt)))))) (x.promised ∙ sym y.promised)

pub sign_one_outcome : OneOutcome sign.Kinds.ps sign.Kinds.r sign.Reads.Asked sign.Reads.Learnt
sign_one_outcome κs a good asked o q x y =
    ap (λ (m : SignOutcome). (m.number, (tt, (tt, (tt, (tt, (m.signature, (m.work, tt)))))))) (x.promised ∙ sym y.promised)

pub verify_one_outcome : OneOutcome verify.Kinds.ps verify.Kinds.r verify.Reads.Asked verify.Reads.Learnt
verify_one_outcome κs a good asked o q x y =
    ap (λ (m : VerifyOutcome). (m.number, (tt, (tt, (tt, (tt, (m.work, tt))))))) (x.promised ∙ sym y.promised)

pub envelope_write_one_outcome : OneOutcome envelope-write.Kinds.ps envelope-write.Kinds.r envelope-write.Reads.Asked envelope-write.Reads.Learnt
envelope_write_one_outcome κs a good asked o q x y =
    ap (λ (m : WriteOutcome). (m.number, (tt, (tt, (tt, (tt, (m.envelope, tt))))))) (x.promised ∙ sym y.promised)

pub envelope_read_one_outcome : OneOutcome envelope-read.Kinds.ps envelope-read.Kinds.r envelope-read.Reads.Asked envelope-read.Reads.Learnt
envelope_read_one_outcome κs a good asked o q x y = ap (λ (n : ℕ). (n, (tt, tt))) (x.promised ∙ sym y.promised)

pub envelope_header_one_outcome : OneOutcome envelope-header.Kinds.ps envelope-header.Kinds.r envelope-header.Reads.Asked envelope-header.Reads.Learnt
envelope_header_one_outcome κs a good asked o q x y = ap (λ (h : Header). (h, (tt, tt))) (x.promised ∙ sym y.promised)

pub envelope_places_one_outcome : OneOutcome envelope-places.Kinds.ps envelope-places.Kinds.r envelope-places.Reads.Asked envelope-places.Reads.Learnt
envelope_places_one_outcome κs a good asked o q x y = ap (λ (p : Places). (p, (tt, tt))) (x.promised ∙ sym y.promised)
