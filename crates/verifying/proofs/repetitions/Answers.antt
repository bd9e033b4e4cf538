-- `verifying::repetitions` meets its contract: those that are left behind the pairs, one by one.
-- Assumes nothing.
use mathlib.Core.Path.{◌≡◌, subst}
use Prim.Native.Nat.{ℕ, ◌+◌}
use native.Mathlib.Omega.{arith}
use Rattle.turns.specs.declared.claim.Repetition.{Repetition}
use Rattle.turns.specs.Turns.{key_of, signature_of}
use Rattle.turns.proofs.Turning.{left_circuit, left_rest}
use Rattle.verifying.specs.Hashed.{Hashed}
use Rattle.verifying.proofs.Counting.{pairs_within}
use Rattle.verifying.proofs.Expanding.{still_expanded}
use Rattle.verifying.proofs.Hashing.{hashed_more}
use Rattle.verifying.proofs.repetitions.Goals as goal

pub overflow_step-e : goal.overflow_step-e
overflow_step-e c = let t = c.args.claim.fits.repetitions in let n = pairs_within c.args.claim.p in let k = c.pair_count-e.ensures in omega arith

pub loop-e-preserved : goal.loop-e-preserved
loop-e-preserved c =
    let claim = c.args.claim in
    let l = c.loop-e in
    let t = c.turn-both in
    let w = l.auto.work in
    let a = c.pairs-both.auto.work in
    let r : Repetition = record { claim = claim; e = l.e + 1; from_one = omega arith; within = omega arith } in record {
      kept = still_expanded claim.p (key_of claim) (signature_of claim) claim.parties.now l.work _ l.invariant.kept (left_circuit r l.work _ (omega arith) t.ensures.left) (left_rest r l.work _ (omega arith) t.ensures.left);
      hashed = hashed_more claim.p (key_of claim) (signature_of claim) c.args.message.now l.e l.both _ l.invariant.hashed t.ensures.turned;
    }

pub returns : goal.returns
returns c =
    let claim = c.args.claim in
    let l = c.loop-e in
    let n = pairs_within claim.p in
    let k = c.pair_count-e.ensures in
    let b = l.auto.e-end in
    let q : l.e ≡ claim.p.tau = omega arith in
    subst (λ (n : ℕ). Hashed claim.p (key_of claim) (signature_of claim) c.args.message.now n l.both) q l.invariant.hashed
