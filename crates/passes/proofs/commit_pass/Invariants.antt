-- The invariant: the first hash has absorbed `done` repetitions, the packing holds their corrections, and work the leaves of the last of them. Assumes nothing.
use Rattle.passes.proofs.Committing.{Committing}
use Rattle.passes.proofs.commit_pass.Given as goal

abbrev pub invariant-loop-done : goal.invariant-loop-done
invariant-loop-done l =
    Committing l.basis.p l.basis.salt.now l.basis.secret.now l.initial.work l.done l.initial.next l.next l.initial.packing l.packing l.work
