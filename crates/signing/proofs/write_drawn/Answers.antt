-- `signing::write_drawn` meets its contract: the corrections stand in the packing when the opening begins. Assumes nothing.
use mathlib.Core.Path.{refl, ◌∙◌}
use native.Mathlib.Nat.{sub-zero}
use native.Mathlib.Omega.{arith}
use lib.Seq.{length-take-le}
use Rattle.signing.proofs.Closing.{packing_part, packed_size}
use Rattle.signing.proofs.Sizes.{seed_small, two_seeds, sections}
use Rattle.signing.proofs.write_drawn.Goals as goal

pub slice_bounds-h1-end : goal.slice_bounds-h1-end
slice_bounds-h1-end c = let small = seed_small _ c.args.basis.fits in omega arith

pub slice_bounds-commit-count : goal.slice_bounds-commit-count
slice_bounds-commit-count c =
    let at = c.packing_at-a.ensures in
    let whole = (sections c.args.basis.p).whole in
    omega arith

pub slice_bounds-commit-start : goal.slice_bounds-commit-start
slice_bounds-commit-start c =
    let at = c.packing_at-a.ensures in
    let whole = (sections c.args.basis.p).whole in
    omega arith

pub commit-requires : goal.commit-requires
commit-requires c =
    let b = c.args.basis in
    let small = seed_small _ b.fits in
    let size = two_seeds b.p in
    let pre = c.requires in
    (pre.0, length-take-le _ _ (omega arith) ∙ sub-zero _ ∙ size, length-take-le _ _ (omega arith) ∙ sub-zero _ ∙ size, packing_part b.p c.args.signature.now pre.1 _ _ c.packing_at-a.ensures refl, pre.2)

pub open-requires : goal.open-requires
open-requires c =
    let b = c.args.basis in
    let small = seed_small _ b.fits in
    let size = two_seeds b.p in
    let pre = c.requires in
    let k = c.commit.auto in (
      k.h1 ∙ length-take-le _ _ (omega arith) ∙ sub-zero _ ∙ size,
      k.h2 ∙ length-take-le _ _ (omega arith) ∙ sub-zero _ ∙ size,
      packed_size b.p c.args.signature.now pre.1 _ _ c.packing_at-a.ensures refl c.commit.new.packing k.packing,
      k.work ∙ pre.2,
    )
