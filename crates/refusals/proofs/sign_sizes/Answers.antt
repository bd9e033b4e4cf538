-- `refusals::sign_sizes` meets its contract: no seed is longer than 32 bytes. Assumes nothing.
use native.Mathlib.Omega.{arith}
use Rattle.sets.proofs.Laws.{bounded}
use Rattle.refusals.proofs.sign_sizes.Goals as goal

pub bad_random-requires : goal.bad_random-requires
bad_random-requires c =
    let bound = (bounded c.args.set).seed in
    omega (arith, c.seed_len.ensures)
