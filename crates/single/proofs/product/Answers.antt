-- `single::product` meets its contract: lane 0 of the word is the product. Assumes nothing.
use Rattle.single.proofs.Alpha.{lane_product}
use Rattle.single.proofs.product.Goals as goal

pub returns : goal.returns
returns c = lane_product _ _ _ _ c.from.ensures c.times.ensures
