-- `turns::first::path` meets its contract: the path is the first of what a signature shows of a repetition.
-- Assumes nothing.
use mathlib.Core.Path.{ap, ◌∙◌}
use Prim.Native.Nat.{ℕ, ◌*◌}
use native.Mathlib.Omega.{arith}
use lib.ListN.{take, drop}
use Rattle.memory.proofs.Xors.{part-sized}
use Rattle.sets.specs.Sets.{S}
use Rattle.turns.proofs.Sizes.{commitment_fits}
use Rattle.turns.proofs.first.path.Goals as goal

pub overflow_add-result : goal.overflow_add-result
unfolding S
overflow_add-result c =
    let f = commitment_fits c.args.repetition _ c.shown_at-at.ensures in omega arith

pub slice_bounds-result-end : goal.slice_bounds-result-end
unfolding S
slice_bounds-result-end c =
    let f = commitment_fits c.args.repetition _ c.shown_at-at.ensures in omega arith

pub returns : goal.returns
unfolding S
returns c =
    let r = c.args.repetition in
    part-sized r.claim.signature.now c.shown_at-at.result (r.claim.p.l * S r.claim.p)
    ∙ ap (λ (k : ℕ). take (r.claim.p.l * S r.claim.p) (drop k r.claim.signature.now)) c.shown_at-at.ensures
