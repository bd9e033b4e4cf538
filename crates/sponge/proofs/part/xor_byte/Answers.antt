-- `sponge::part::xor_byte` meets its contract: the byte, shifted to its place, is xored into one lane.
-- Assumes nothing.
use mathlib.Core.Path.{ap}
use Prim.Native.Nat.{ℕ, ◌/◌, ◌%◌}
use native.Mathlib.Omega.{arith}
use lib.ListN.{set, get_or}
use lib.Bits.{bit_xor}
use Rattle.sponge.specs.Steps.{xor_byte}
use Rattle.sponge.proofs.Words.{shifted_byte}
use Rattle.sponge.proofs.part.xor_byte.Goals as goal

pub returns : goal.returns
unfolding xor_byte
returns c =
    let a = c.args in
    ap (λ (n : ℕ). set a.lanes.now (a.at / 8) (bit_xor (get_or a.lanes.now (a.at / 8) 0) n))
    (shifted_byte _ a.b (a.at % 8) c.from.ensures c.ranges.b.fits (omega arith))
