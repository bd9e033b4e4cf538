-- `sponge::part::xor_few` meets its contract: the number of the bytes, shifted to its place, is xored into one lane.
-- Assumes nothing.
use Rattle.sponge.proofs.Lanes.{few_xored}
use Rattle.sponge.proofs.part.xor_few.Goals as goal

pub returns : goal.returns
returns c =
    let a = c.args in
    few_xored a.lanes.now a.at a.bytes.now _ c.requires.1 c.load.ensures
