-- `verifying::agree` meets its contract: both comparisons are made, and the answer is true where both are.
-- Assumes nothing.
use mathlib.Core.Path.{refl}
use Prim.Native.Nat.{◌+◌, ◌*◌, ◌/◌}
use Rattle.sets.specs.Sets.{S}
use Rattle.turns.specs.Turns.{key_of}
use Rattle.verifying.proofs.Hashing.{hash_short, first_compared, second_compared, first_agrees_lem, first-differs}
use Rattle.verifying.proofs.agree.Goals as goal

pub agrees-first-requires : goal.agrees-first-requires
unfolding S
agrees-first-requires c =
    hash_short c.args.claim.p c.args.claim.fits (c.args.claim.p.bits / 8) refl c.args.claim.signature.now (2 * (c.args.claim.p.bits / 8))

pub agrees-second-requires : goal.agrees-second-requires
unfolding S
agrees-second-requires c =
    hash_short c.args.claim.p c.args.claim.fits (c.args.claim.p.bits / 8) refl c.args.claim.signature.now (2 * (c.args.claim.p.bits / 8) + 2 * (c.args.claim.p.bits / 8))

pub returns-then-first : goal.returns-then-first
unfolding S
returns-then-first c =
    λ message h.
    let k = c.args.claim in
    let z = k.p.bits / 8 in
    let one = first_compared k.p k.fits (key_of k) k.signature.now message k.whole_signature c.args.both h z refl _ c.agrees-first.ensures in
    let two = second_compared k.p k.fits (key_of k) k.signature.now message k.whole_signature c.args.both h z refl _ c.agrees-second.ensures in
    first_agrees_lem k.p k.fits (key_of k) k.signature.now message k.whole_signature c.args.both h z refl _ _ one two c.if-first.true

pub returns-else-first : goal.returns-else-first
unfolding S
returns-else-first c =
    λ message h.
    let k = c.args.claim in
    let z = k.p.bits / 8 in
    let one = first_compared k.p k.fits (key_of k) k.signature.now message k.whole_signature c.args.both h z refl _ c.agrees-first.ensures in
    let two = second_compared k.p k.fits (key_of k) k.signature.now message k.whole_signature c.args.both h z refl _ c.agrees-second.ensures in
    first-differs k.p k.fits (key_of k) k.signature.now message k.whole_signature c.args.both h z refl _ _ one two c.if-first.false
