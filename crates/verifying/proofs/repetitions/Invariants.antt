-- `verifying::repetitions`: both hashes have absorbed the repetitions so far, and what was expanded still stands in work.
-- Assumes nothing.
use Rattle.turns.specs.Turns.{key_of, signature_of, Expanded}
use Rattle.verifying.specs.Hashed.{Hashed}
use Rattle.verifying.proofs.repetitions.Given as goal

abbrev pub invariant-loop-e : goal.invariant-loop-e
invariant-loop-e l = record {
  kept : Expanded l.claim.p (key_of l.claim) (signature_of l.claim) l.claim.parties.now l.work;
  hashed : Hashed l.claim.p (key_of l.claim) (signature_of l.claim) l.message l.e l.both;
}
