-- Each public function of this crate has one outcome: its promise is an equation to what the inputs, and what lay in the lent part before, determine. So number, header, places and every byte are settled, for refusals
-- too. Of a part that is handed back it is settled where it lies and what it holds; the name that Rattle's logic gives a reference is no part of the machine's state. Assumes nothing.
use mathlib.Core.Path.{sym, ap, ap₂, ◌∙◌}
use Rattle.std.proofs.Common.{Result}
use Rattle.memory.specs.Outcome.{OneOutcome, OneSight}
use Rattle.refusals.specs.declared.Refusal.{Refusal}
use Rattle.refusals.proofs.Numbers.{same_number}
use Rattle.envelope.specs.declared.Header.{Header}
use Rattle.envelope.specs.declared.Places.{Places}
use Rattle.envelope.proofs.Outcomes.{same_reading}
use Rattle.envelope.specs.Envelope.{WriteOutcome, Lent, lent}
use Rattle.envelope.proofs.write as write
use Rattle.envelope.proofs.read as read
use Rattle.envelope.proofs.places_of as places_of
use Rattle.envelope.proofs.public_key_of as public-key-of
use Rattle.envelope.proofs.signature_of as signature-of
use Rattle.envelope.proofs.message_of as message-of

pub write_one_outcome : OneOutcome write.Kinds.ps write.Kinds.r write.Reads.Asked write.Reads.Learnt
write_one_outcome κs a good asked o q x y =
    let same = x.promised ∙ sym y.promised in
    ap₂ (λ (r : Result (Unit {0}) Refusal) (w : WriteOutcome). (r, (tt, (tt, (tt, (tt, (w.envelope, tt))))))) (same_number o.0 q.0 (ap (λ (w : WriteOutcome). w.number) same)) same

pub read_one_outcome : OneOutcome read.Kinds.ps read.Kinds.r read.Reads.Asked read.Reads.Learnt
read_one_outcome κs a good asked o q x y = ap (λ (r : Result Header Refusal). (r, (tt, tt))) (same_reading o.0 q.0 (x.promised ∙ sym y.promised))

pub places_of_one_outcome : OneOutcome places_of.Kinds.ps places_of.Kinds.r places_of.Reads.Asked places_of.Reads.Learnt
places_of_one_outcome κs a good asked o q x y = ap (λ (p : Places). (p, (tt, tt))) (x.promised ∙ sym y.promised)

pub public_key_of_settles :
    OneSight public-key-of.Kinds.ps public-key-of.Kinds.r public-key-of.Reads.Asked public-key-of.Reads.Learnt Lent (λ κs a o. lent o.0)
public_key_of_settles κs a good asked o q x y = x.promised ∙ sym y.promised

pub signature_of_settles :
    OneSight signature-of.Kinds.ps signature-of.Kinds.r signature-of.Reads.Asked signature-of.Reads.Learnt Lent (λ κs a o. lent o.0)
signature_of_settles κs a good asked o q x y = x.promised ∙ sym y.promised

pub message_of_settles :
    OneSight message-of.Kinds.ps message-of.Kinds.r message-of.Reads.Asked message-of.Reads.Learnt Lent (λ κs a o. lent o.0)
message_of_settles κs a good asked o q x y = x.promised ∙ sym y.promised
