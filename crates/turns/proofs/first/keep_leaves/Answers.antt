-- `turns::first::keep_leaves` meets its contract: sixteen leaves of any set have room.
-- Assumes nothing.
use mathlib.Core.Path.{ap, ◌∙◌}
use native.Mathlib.Omega.{arith}
use lib.ListN.{length}
use Rattle.turns.proofs.Sizes.{sixteen-leaves, length_leaves_part}
use Rattle.turns.proofs.first.keep_leaves.Goals as goal

pub slice_bounds-kept-end : goal.slice_bounds-kept-end
slice_bounds-kept-end c =
    let p = c.args.claim.p in
    let a = c.args.claim.fits.seed in
    let s = sixteen-leaves p c.requires.0 in
    let l = ap length c.leaves_in-leaves.ensures ∙ length_leaves_part p c.args.work.now c.requires.1 in
    omega arith
