-- The invariant: whatever circuit work holds, the second hash has absorbed `pair` pairs of repetitions. Assumes nothing.
use Prim.Native.Nat.{◌*◌}
use Rattle.passes.specs.Passes.{Kept}
use Rattle.replies.proofs.Answering.{AnsweredTo}
use Rattle.replies.proofs.answer_pass.Given as goal

abbrev pub invariant-loop-pair : goal.invariant-loop-pair
invariant-loop-pair l = record {
  kept : Kept l.basis.p l.initial.work l.work;
  answered : AnsweredTo l.basis.p l.basis.salt.now l.basis.secret.now l.packing l.initial.work (2 * l.pair) l.initial.next l.next;
}
