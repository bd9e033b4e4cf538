-- `verifying::pairs` meets its contract: each pair is of sixteen parties, and leaves circuit and challenges where they are.
-- Assumes nothing.
use mathlib.Core.Path.{◌≡◌, subst}
use Prim.Native.Nat.{ℕ, ◌+◌, ◌*◌}
use native.Mathlib.Omega.{arith}
use Rattle.turns.specs.declared.claim.Repetition.{Repetition}
use Rattle.turns.specs.Turns.{key_of, signature_of}
use Rattle.turns.proofs.Turning.{length_of_leaves, put-circuit, put_rest}
use Rattle.verifying.specs.Hashed.{Hashed}
use Rattle.verifying.proofs.Counting.{pairs_within, pair_sixteen}
use Rattle.verifying.proofs.Expanding.{still_expanded}
use Rattle.verifying.proofs.Hashing.{hashed_two}
use Rattle.verifying.proofs.pairs.Goals as goal

pub overflow_mul-i : goal.overflow_mul-i
overflow_mul-i c = let t = c.args.claim.fits.repetitions in let n = pairs_within c.args.claim.p in omega arith

pub overflow_add-i : goal.overflow_add-i
overflow_add-i c = let t = c.args.claim.fits.repetitions in let n = pairs_within c.args.claim.p in omega arith

pub invariant_of-turn_two : goal.invariant_of-turn_two
invariant_of-turn_two c = let n = pairs_within c.args.claim.p in record { from_one = omega arith; within = omega arith }

pub turn_two-both-requires : goal.turn_two-both-requires
turn_two-both-requires c =
    let n = pairs_within c.args.claim.p in
    let w = c.loop-i.auto.work in
    (pair_sixteen c.args.claim.p c.loop-i.i (omega arith), omega arith, omega arith, c.loop-i.invariant.kept)

pub loop-i-preserved : goal.loop-i-preserved
loop-i-preserved c =
    let claim = c.args.claim in
    let l = c.loop-i in
    let t = c.turn_two-both in
    let n = pairs_within claim.p in
    let w = l.auto.work in
    let next : Repetition = record { claim = claim; e = 2 * l.i + 1 + 1; from_one = omega arith; within = omega arith } in
    let z = length_of_leaves next in
    let q : 2 * l.i + 1 + 1 ≡ 2 * (l.i + 1) = omega arith in record {
      kept = still_expanded claim.p (key_of claim) (signature_of claim) claim.parties.now l.work _ l.invariant.kept (put-circuit claim.p l.work _ _ (omega arith) z t.ensures.left) (put_rest claim.p l.work _ _ (omega arith) z t.ensures.left);
      hashed = subst (λ (n : ℕ). Hashed claim.p (key_of claim) (signature_of claim) c.args.message.now n t.result) q (hashed_two claim.p (key_of claim) (signature_of claim) c.args.message.now (2 * l.i) l.both t.result l.invariant.hashed t.ensures.turned);
    }
