-- `turns::first::salt` meets its contract: the salt stands at the start of a signature.
-- Assumes nothing.
use native.Mathlib.Omega.{arith}
use lib.ListN.{length-take}
use Prim.Native.Nat.{ℕ}
use Rattle.sets.specs.Sets.{S}
use Rattle.turns.proofs.Sizes.{head_fits}
use Rattle.turns.proofs.first.salt.Goals as goal

pub slice_bounds-result-end : goal.slice_bounds-result-end
unfolding S
slice_bounds-result-end c = let h = head_fits c.args.claim.p c.args.claim.fits in omega (arith, length-take {A = ℕ})
