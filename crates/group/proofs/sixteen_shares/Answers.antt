-- `group::sixteen_shares` meets its contract. The tapes turned into lanes, and corrected at party 1.
-- Assumes nothing.
use mathlib.Core.Path.{sym, ◌∙◌}
use Rattle.group.specs.Shares.{tapes_of, sampled}
use Rattle.group.proofs.Shares.{tapes-shares, shares_of_tapes}
use Rattle.group.proofs.sixteen_shares.Goals as goal

pub returns : goal.returns
returns c =
    let of = c.args.of in
    let t = c.sixteen_tapes in
    let tape = tapes_of of.rep c.args.g of.salt.now c.args.leaves.now in
    shares_of_tapes of.rep c.args.g _ _ _ _
    (c.correct.ensures (λ q. sampled of.rep (tape q))
    (tapes-shares of.rep tape _ _ of.sized t.auto.tapes (c.to_lanes.auto.out ∙ c.requires.2 ∙ sym t.auto.tapes) t.ensures c.to_lanes.ensures))
