-- `single::masks::mask` meets its contract: the bit of each lane, times 15, and no lane carries.
-- Assumes nothing.
use Prim.Native.Nat.{◌/◌, ◌^◌}
use native.Mathlib.Omega.{arith}
use lib.Bits.{and_le_r}
use Rattle.single.proofs.Weighing.{mask_lanes}
use Rattle.single.proofs.masks.mask.Goals as goal

pub overflow_mul-result : goal.overflow_mul-result
overflow_mul-result c = omega (arith, and_le_r (c.args.x / 2 ^ c.args.b) 0x1111111111111111)

pub returns : goal.returns
returns c = mask_lanes c.args.x c.args.b (omega arith)
