-- `signing::write` meets its contract: with what is drawn the signer of algorithm 12 is held. Assumes nothing.
use mathlib.Core.Path.{◌∙◌}
use native.Mathlib.Nat.{sub-zero}
use native.Mathlib.Omega.{arith}
use lib.Seq.{length-take-le}
use Rattle.biscuit.specs.Sign.{signer_of}
use Rattle.passes.proofs.Bounds.{inside}
use Rattle.signing.proofs.Sizes.{seed_small, two_seeds}
use Rattle.signing.proofs.Keyed.{signature-signed}
use Rattle.signing.proofs.Rooted.{taken_size}
use Rattle.signing.proofs.Drawing.{signer_drawn}
use Rattle.signing.proofs.write.Goals as goal

pub slice_bounds-salt-end : goal.slice_bounds-salt-end
slice_bounds-salt-end c = let small = seed_small _ c.requires.0 in omega arith

pub slice_bounds-draw-count : goal.slice_bounds-draw-count
slice_bounds-draw-count c = (inside _ _ c.requires.0 c.layout_of-map.ensures).roots

pub slice_bounds-draw-start : goal.slice_bounds-draw-start
slice_bounds-draw-start c = (inside _ _ c.requires.0 c.layout_of-map.ensures).roots

pub slice_bounds-draw-end : goal.slice_bounds-draw-end
slice_bounds-draw-end c = let i = inside _ _ c.requires.0 c.layout_of-map.ensures in omega arith

pub draw-requires : goal.draw-requires
draw-requires c =
    let m = c.layout_of-map.ensures in
    let pre = c.requires in
    let small = seed_small _ pre.0 in
    (length-take-le _ _ (omega arith) ∙ sub-zero _ ∙ two_seeds c.args.p, taken_size c.args.p pre.0 c.args.work.now pre.4 _ _ m.roots m.challenges)

pub invariant_of-write_drawn : goal.invariant_of-write_drawn
invariant_of-write_drawn c =
    let pre = c.requires in
    let small = seed_small _ pre.0 in
    record { fits = pre.0; salted = c.draw.auto.salt ∙ length-take-le _ _ (omega arith) ∙ sub-zero _ ∙ two_seeds c.args.p; whole = pre.1 }

pub returns : goal.returns
returns c =
    let m = c.layout_of-map.ensures in
    let a = c.args in
    let pre = c.requires in
    let d = c.draw in
    λ holds circuit.
    c.write_drawn.ensures (signer_of a.p a.sk.now a.random.now a.message.now)
    (signer_drawn a.p pre.0 a.sk.now a.random.now a.message.now a.work.now pre.4 _ _ m.roots m.challenges _ d.ensures.1 d.auto.roots
    _ a.secret.now d.ensures.0 holds circuit)
    ∙ signature-signed a.p a.sk.now a.random.now a.message.now
