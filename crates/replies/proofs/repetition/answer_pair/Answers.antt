-- `replies::repetition::answer_pair` meets its contract: one after the other, the second finds work as the first did but for leaves and room. Assumes nothing.
use Rattle.replies.proofs.Pairing.{answered_after}
use Rattle.replies.proofs.repetition.answer_pair.Goals as goal

pub returns-clause-absorbs : goal.returns-clause-absorbs
returns-clause-absorbs c =
    let b = c.args.turn.basis in
    let first = c.answer_turn-first.ensures in
    answered_after b.p _ _ b.salt.now b.secret.now c.args.packing.now c.args.work.now _ _ _ _ first.keeps first.absorbs c.answer_turn.ensures.absorbs
