-- `verifying::begin` meets its contract: nothing of a repetition is absorbed yet.
-- Assumes nothing.
use mathlib.Core.Path.{refl}
use Prim.Native.Nat.{ℕ, ◌/◌}
use lib.ListN.{length-take}
use native.Mathlib.Omega.{arith}
use Rattle.sets.specs.Sets.{S}
use Rattle.turns.specs.Turns.{key_of}
use Rattle.turns.proofs.Sizes.{head_fits}
use Rattle.verifying.proofs.Hashing.{first_begun, second_begun}
use Rattle.verifying.proofs.begin.Goals as goal

pub slice_bounds-salt-end : goal.slice_bounds-salt-end
unfolding S
slice_bounds-salt-end c = let h = head_fits c.args.claim.p c.args.claim.fits in omega (arith, length-take {A = ℕ})

pub returns : goal.returns
unfolding S
returns c =
    let k = c.args.claim in record {
      first = first_begun k.p (key_of k) k.signature.now c.args.message.now (k.p.bits / 8) refl _ _ c.first.ensures c.absorb.ensures;
      second = second_begun k.p (key_of k) k.signature.now c.args.message.now (k.p.bits / 8) refl _ c.second.ensures;
    }
