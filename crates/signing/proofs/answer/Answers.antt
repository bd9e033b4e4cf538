-- `signing::answer` meets its contract: the challenges are written behind the roots, and the pass keeps both. Assumes nothing.
use Rattle.passes.proofs.Bounds.{inside}
use Rattle.replies.proofs.Answering.{answers_all_signed}
use Rattle.signing.proofs.Answering.{challenged-work, answered}
use Rattle.signing.proofs.answer.Goals as goal

pub slice_bounds-tape_bytes-count : goal.slice_bounds-tape_bytes-count
slice_bounds-tape_bytes-count c = (inside _ _ c.args.basis.fits c.layout_of-map.ensures).challenges

pub slice_bounds-tape_bytes-start : goal.slice_bounds-tape_bytes-start
slice_bounds-tape_bytes-start c = (inside _ _ c.args.basis.fits c.layout_of-map.ensures).challenges

pub returns : goal.returns
returns c =
    let b = c.args.basis in
    let m = c.layout_of-map.ensures in
    let t = c.tape_bytes.ensures in
    let pass = c.answer_pass-full.ensures in
    let pre = c.requires in
    λ signer msg held same corrected.
    answered b.p b.fits signer msg b.salt.now b.secret.now c.args.packing.now c.args.work.now c.args.h1.now _ _ _ _ _ _ _ _ _
    m.challenges m.end pre.3 t c.second-start.ensures
    (answers_all_signed b.p b.fits b.salt.now b.secret.now c.args.packing.now _ b.whole (challenged-work b.p b.fits c.args.work.now c.args.h1.now _ _ _ m.challenges m.end pre.3 t) _ _ pass.absorbs)
    pass.keeps c.finish.ensures pre.1 c.squeeze.ensures.0 held same corrected
