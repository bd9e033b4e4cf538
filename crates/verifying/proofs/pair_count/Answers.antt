-- `verifying::pair_count` meets its contract. Assumes nothing.
use mathlib.Core.Path.{sym, ◌∙◌}
use Rattle.verifying.proofs.Counting.{pairs_of_sixteen, pairs_of_more}
use Rattle.verifying.proofs.pair_count.Goals as goal

pub returns-then-groups_of-eq1 : goal.returns-then-groups_of-eq1
returns-then-groups_of-eq1 c = pairs_of_sixteen c.args.claim.p (sym c.groups_of.ensures ∙ c.if-groups_of-eq1.true)

pub returns-else-groups_of-eq1 : goal.returns-else-groups_of-eq1
returns-else-groups_of-eq1 c = pairs_of_more c.args.claim.p (λ one. c.if-groups_of-eq1.false (c.groups_of.ensures ∙ one))
