-- `turns::first::rebuild` meets its contract: the leaves of the path that the signature shows are put behind the circuit.
-- Assumes nothing.
use mathlib.Core.Path.{◌≡◌, ap, ◌∙◌}
use mathlib.Core.List.{List}
use Prim.Native.Nat.{ℕ, ◌-◌}
use native.Mathlib.Omega.{arith}
use lib.ListN.{length}
use borrow.Rule.Slice.PartMut.{put_mid}
use Rattle.memory.specs.Lists.{put}
use Rattle.memory.proofs.Parts.{lent-put}
use Rattle.sets.specs.Sets.{S}
use Rattle.biscuit.specs.Room.{leaves_at, room_at}
use Rattle.turns.specs.Turns.{key_of, signature_of, leaves}
use Rattle.turns.proofs.Sizes.{path-length, leaves-length}
use Rattle.turns.proofs.Turning.{length_of_leaves, rebuilt_as}
use Rattle.turns.proofs.Opening.{party_from_one, party_within}
use Rattle.turns.proofs.first.rebuild.Goals as goal

pub rebuild-requires : goal.rebuild-requires
unfolding S
rebuild-requires c =
    let o = c.args.opened in
    let r = o.repetition in
    let l = c.layout_of-layout.ensures in (
      r.claim.fits.seed,
      r.claim.fits.levels,
      party_from_one o,
      party_within o,
      ap length c.path-path.ensures ∙ path-length r,
      leaves-length r.claim.p c.args.work.now c.requires r.claim.fits _ _ l.leaves l.room,
    )

pub returns : goal.returns
unfolding S
returns c =
    let o = c.args.opened in
    let r = o.repetition in
    let w = c.args.work.now in
    let l = c.layout_of-layout.ensures in
    let at = l.leaves in
    let behind = l.room in
    let new = leaves r.claim.p (key_of r.claim) (signature_of r.claim) r.e in
    ap (λ (x : List ℕ). put_mid c.layout_of-layout.result.leaves (c.layout_of-layout.result.room - c.layout_of-layout.result.leaves) w x)
    (rebuilt_as r _ _ _ _ _ c.salted.ensures.salt c.salted.ensures.number c.path-path.ensures o.hides c.rebuild.ensures)
    ∙ lent-put w c.layout_of-layout.result.leaves c.layout_of-layout.result.room new
    (length_of_leaves r ∙ (let q : room_at r.claim.p - leaves_at r.claim.p ≡ c.layout_of-layout.result.room - c.layout_of-layout.result.leaves = omega arith in q))
    ∙ ap (λ (n : ℕ). put w n new) at
