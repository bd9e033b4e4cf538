-- `verifying::pairs`: both hashes have absorbed the repetitions so far, and what was expanded still stands in work.
-- Assumes nothing.
use Prim.Native.Nat.{◌*◌}
use Rattle.turns.specs.Turns.{key_of, signature_of, Expanded}
use Rattle.verifying.specs.Hashed.{Hashed}
use Rattle.verifying.proofs.pairs.Given as goal

abbrev pub invariant-loop-i : goal.invariant-loop-i
invariant-loop-i l = record {
  kept : Expanded l.claim.p (key_of l.claim) (signature_of l.claim) l.claim.parties.now l.work;
  hashed : Hashed l.claim.p (key_of l.claim) (signature_of l.claim) l.message (2 * l.i) l.both;
}
