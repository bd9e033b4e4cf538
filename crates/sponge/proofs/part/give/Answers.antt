-- `sponge::part::give` meets its contract: a whole block goes by words, and any other part in three pieces, which `give_pieces` puts together.
-- Assumes nothing.
use Rattle.sponge.proofs.Parts.{give_pieces}
use Rattle.sponge.proofs.part.give.Goals as goal

pub returns : goal.returns
returns c =
    let h = c.lanes_in-h in
    give_pieces _ c.args.at c.args.out.now h.result.0 h.result.1 _ _ _ h.ensures.from h.ensures.to c.give_bytes.ensures c.give_words-2.ensures c.give_bytes-2.ensures
