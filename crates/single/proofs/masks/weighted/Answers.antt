-- `single::masks::weighted` meets its contract: three doublings, each of a sum, as `weigh` has it.
-- Assumes nothing.
use Rattle.single.proofs.Weighing.{weighted_lanes}
use Rattle.single.proofs.masks.weighted.Goals as goal

pub returns : goal.returns
returns c = weighted_lanes _ _ _ _ _ _ _ c.times.ensures c.times-2.ensures c.times-3.ensures
