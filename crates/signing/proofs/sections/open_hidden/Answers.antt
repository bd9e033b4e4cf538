-- `signing::sections::open_hidden` meets its contract: the leaves stand where the roots were, what is shown in its section, and the pass puts the hidden α behind the corrections. Assumes nothing.
use mathlib.Core.Path.{refl}
use native.Mathlib.Omega.{arith}
use Rattle.passes.proofs.Bounds.{inside}
use Rattle.signing.proofs.Sizes.{places, head_at}
use Rattle.signing.proofs.Rooted.{taken_size}
use Rattle.signing.proofs.Opening.{shown_size, packing_sized, work-sized, opened}
use Rattle.signing.proofs.sections.open_hidden.Goals as goal

pub slice_bounds-show_all-count : goal.slice_bounds-show_all-count
slice_bounds-show_all-count c = (inside _ _ c.args.basis.fits c.layout_of-map.ensures).roots

pub slice_bounds-show_all-start : goal.slice_bounds-show_all-start
slice_bounds-show_all-start c = (inside _ _ c.args.basis.fits c.layout_of-map.ensures).roots

pub slice_bounds-show_all-end : goal.slice_bounds-show_all-end
slice_bounds-show_all-end c = let i = inside _ _ c.args.basis.fits c.layout_of-map.ensures in omega arith

pub slice_bounds-show_all-count-2 : goal.slice_bounds-show_all-count-2
slice_bounds-show_all-count-2 c = (places c.args.basis.p _ _ _ (head_at c.args.basis.p) c.packing_at-b.ensures c.requires.1).body

pub slice_bounds-show_all-start-2 : goal.slice_bounds-show_all-start-2
slice_bounds-show_all-start-2 c = (places c.args.basis.p _ _ _ (head_at c.args.basis.p) c.packing_at-b.ensures c.requires.1).body

pub slice_bounds-show_all-end-2 : goal.slice_bounds-show_all-end-2
slice_bounds-show_all-end-2 c = (places c.args.basis.p _ _ _ (head_at c.args.basis.p) c.packing_at-b.ensures c.requires.1).packing

pub show_all-requires : goal.show_all-requires
show_all-requires c =
    let p = c.args.basis.p in
    let fits = c.args.basis.fits in
    let m = c.layout_of-map.ensures in
    let small = fits.seed in
    let salt = c.args.basis.salted in
    let hidden = c.requires.0 in (
      fits.seed,
      fits.levels,
      fits.repetitions,
      omega arith,
      omega arith,
      taken_size p fits c.args.work.now c.requires.2 _ _ m.roots m.challenges,
      shown_size p c.args.signature.now _ _ c.requires.1 (head_at p) c.packing_at-b.ensures,
    )

pub slice_bounds-alpha_pass-count : goal.slice_bounds-alpha_pass-count
slice_bounds-alpha_pass-count c = (places c.args.basis.p _ _ _ (head_at c.args.basis.p) c.packing_at-b.ensures c.requires.1).packing

pub slice_bounds-alpha_pass-start : goal.slice_bounds-alpha_pass-start
slice_bounds-alpha_pass-start c = (places c.args.basis.p _ _ _ (head_at c.args.basis.p) c.packing_at-b.ensures c.requires.1).packing

pub alpha_pass-requires : goal.alpha_pass-requires
alpha_pass-requires c =
    let p = c.args.basis.p in
    let fits = c.args.basis.fits in
    let pre = c.requires in
    let b = c.packing_at-b.ensures in
    let m = c.layout_of-map.ensures in
    let sh = c.show_all.ensures in
    let x = c.args.signature.now in
    let w = c.args.work.now in
    let salt = c.args.basis.salt.now in
    let secret = c.args.basis.secret.now in
    let hidden = c.args.hidden.now in
    let h = pre.0 in (
      omega arith,
      packing_sized p fits x w salt secret hidden _ _ _ _ _ _ _ pre.1 pre.2 (head_at p) b refl m.roots m.challenges sh.shown sh.leaves,
      work-sized p fits x w salt secret hidden _ _ _ _ _ _ _ pre.1 pre.2 (head_at p) b refl m.roots m.challenges sh.shown sh.leaves,
    )

pub returns : goal.returns
returns c =
    let p = c.args.basis.p in
    let fits = c.args.basis.fits in
    let pre = c.requires in
    let b = c.packing_at-b.ensures in
    let m = c.layout_of-map.ensures in
    let sh = c.show_all.ensures in
    let x = c.args.signature.now in
    let w = c.args.work.now in
    let salt = c.args.basis.salt.now in
    let secret = c.args.basis.secret.now in
    let hidden = c.args.hidden.now in
    let al = c.alpha_pass in
    opened p fits x w salt secret hidden _ _ _ _ _ _ _ pre.1 pre.2 (head_at p) b refl m.roots m.challenges sh.shown sh.leaves
    c.args.basis.whole _ al.auto.packing al.ensures (λ i. let byte = c.type_inv.signature i in omega arith)
