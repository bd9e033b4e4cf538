-- `memory::equal` meets its contract. The invariant: both are the same exactly where `difference` is 0 and what is left of them is the same.
-- Assumes nothing.
use Rattle.memory.proofs.Comparing.{Left}
use Rattle.memory.proofs.equal.Given as goal

abbrev pub invariant-loop-x : goal.invariant-loop-x
invariant-loop-x l = Left l.a l.b l.difference l.x-iterator.a.rest.now l.x-iterator.b.rest.now
