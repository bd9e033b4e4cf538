-- `lanes::doubled` meets its contract: no lane carries under the two masks, and each lane is x times what it was.
-- Assumes nothing.
use Prim.Native.Nat.{◌/◌, ◌^◌}
use native.Mathlib.Omega.{arith}
use lib.Bits.{and_le_r}
use Rattle.lanes.proofs.Products.{doubled_lanes}
use Rattle.lanes.proofs.doubled.Goals as goal

pub overflow_mul-result : goal.overflow_mul-result
overflow_mul-result c = omega (arith, and_le_r c.args.w 0x7777777777777777)

pub overflow_mul-result-2 : goal.overflow_mul-result-2
overflow_mul-result-2 c = omega (arith, and_le_r (c.args.w / 2 ^ 3) 0x1111111111111111)

pub returns : goal.returns
returns c = doubled_lanes c.args.w
