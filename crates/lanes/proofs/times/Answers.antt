-- `lanes::times` meets its contract: the word and its doubles under the four bits of e sum up to the product in each lane.
-- Assumes nothing.
use Rattle.lanes.proofs.Products.{bit_fits, times_lanes}
use Rattle.lanes.proofs.times.Goals as goal

pub overflow_mul-result : goal.overflow_mul-result
overflow_mul-result c = bit_fits _ _ c.ranges.w.fits

pub overflow_mul-result-2 : goal.overflow_mul-result-2
overflow_mul-result-2 c = bit_fits _ _ c.doubled-w2.type_inv

pub overflow_mul-result-3 : goal.overflow_mul-result-3
overflow_mul-result-3 c = bit_fits _ _ c.doubled-w4.type_inv

pub overflow_mul-result-4 : goal.overflow_mul-result-4
overflow_mul-result-4 c = bit_fits _ _ c.doubled-w8.type_inv

pub returns : goal.returns
returns c = times_lanes _ _ _ _ c.doubled-w2.ensures c.doubled-w4.ensures c.doubled-w8.ensures _ _ c.from-n.ensures
