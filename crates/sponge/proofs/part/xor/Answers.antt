-- `sponge::part::xor` meets its contract: a whole block goes by words, and any other part in three pieces, which `xor-pieces` puts together.
-- Assumes nothing.
use Rattle.sponge.proofs.Parts.{xor-pieces}
use Rattle.sponge.proofs.part.xor.Goals as goal

pub returns : goal.returns
returns c =
    let h = c.lanes_in-h in
    xor-pieces _ c.args.at c.args.bytes.now h.result.0 h.result.1 _ _ _ h.ensures.from h.ensures.to c.xor_few.ensures c.xor_words-2.ensures c.xor_few-2.ensures
