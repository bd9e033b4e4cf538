-- `views::sum_tapes` meets its contract. The invariant: the bytes are the sum of the tapes of the first i parties.
-- Assumes nothing.
use mathlib.Core.Path.{◌≡◌}
use lib.ListN.{length, take, replicate}
use Rattle.memory.specs.Sections.{pieces}
use Rattle.field.specs.Vectors.{◌⊕◌, total}
use Rattle.views.specs.Views.{tapes}
use Rattle.views.proofs.leaves.Leaves.sum_tapes.Given as goal

abbrev pub invariant-loop-i : goal.invariant-loop-i
invariant-loop-i l =
    l.sums ≡ replicate (length l.initial.sums) 0 ⊕ total (take l.i (tapes l.self.of.salt.now l.self.of.e (length l.initial.sums) (pieces l.self.size l.self.count l.self.seeds.now)))
