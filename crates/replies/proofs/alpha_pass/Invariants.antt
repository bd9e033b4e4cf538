-- The invariant: whatever circuit work holds, the hidden α of `done` repetitions stand behind the corrections, and nothing else of the packing has changed. Assumes nothing.
use Rattle.replies.proofs.Hiding.{ShownTo}
use Rattle.replies.proofs.alpha_pass.Given as goal

abbrev pub invariant-loop-done : goal.invariant-loop-done
invariant-loop-done l = ShownTo l.basis.p l.basis.salt.now l.basis.secret.now l.hidden l.work l.done l.initial.packing l.packing
