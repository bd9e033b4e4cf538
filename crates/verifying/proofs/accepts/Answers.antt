-- `verifying::accepts` meets its contract: expanded, hashed and compared.
-- Assumes nothing.
use Rattle.biscuit.specs.Verify.{accepts}
use Rattle.verifying.proofs.accepts.Goals as goal

pub returns : goal.returns
unfolding accepts
returns c = c.agree.ensures c.args.message.now c.repetitions-both.ensures
