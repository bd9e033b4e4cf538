-- `replies::hidden::alpha_turn` meets its contract: circuit and leaf are parts of work, and the packing has room for the hidden α of every repetition. Assumes nothing.
use mathlib.Core.Path.{refl, ◌∙◌}
use native.Mathlib.Omega.{arith}
use Rattle.sets.specs.Sets.{S}
use Rattle.answers.proofs.Turning.{zeros_sized}
use Rattle.refusals.proofs.Refusals.{work_length_is}
use Rattle.passes.proofs.Bounds.{inside, root-end, alpha-end, packing_small}
use Rattle.reps.proofs.Laws.{rep_sized}
use Rattle.replies.specs.Replies.{alpha_at}
use Rattle.replies.proofs.Lending.{rep_values, rep_equations, circuit_size, leaf_size, alpha-lent}
use Rattle.replies.proofs.Hiding.{placed-alpha, placed-party}
use Rattle.replies.proofs.hidden.alpha_turn.Goals as goal

pub overflow_mul-at : goal.overflow_mul-at
unfolding S
overflow_mul-at c = let t = c.args.turn in let r = root-end t.basis.p t.e _ _ t.basis.fits t.counted t.within refl c.layout_of-map.ensures.roots in let w = work_length_is in omega arith

pub overflow_add-at : goal.overflow_add-at
unfolding S
overflow_add-at c = let t = c.args.turn in let r = root-end t.basis.p t.e _ _ t.basis.fits t.counted t.within refl c.layout_of-map.ensures.roots in let w = work_length_is in omega arith

pub overflow_add-at-2 : goal.overflow_add-at-2
unfolding S
overflow_add-at-2 c = let t = c.args.turn in let r = root-end t.basis.p t.e _ _ t.basis.fits t.counted t.within refl c.layout_of-map.ensures.roots in let w = work_length_is in omega arith

pub slice_bounds-alpha_of-end : goal.slice_bounds-alpha_of-end
slice_bounds-alpha_of-end c = let i = inside _ _ c.args.turn.basis.fits c.layout_of-map.ensures in omega arith

pub slice_bounds-alpha_of-end-2 : goal.slice_bounds-alpha_of-end-2
unfolding S
slice_bounds-alpha_of-end-2 c = let t = c.args.turn in let r = root-end t.basis.p t.e _ _ t.basis.fits t.counted t.within refl c.layout_of-map.ensures.roots in omega arith

pub alpha_of-requires : goal.alpha_of-requires
unfolding S
alpha_of-requires c =
    let b = c.args.turn.basis in
    let f = b.fits in
    let n = f.variables in
    let m = f.equations in
    let r = c.rep_of-rep.ensures in
    let q = b.salted in
    let d = f.seed in
    (rep_sized _ f _ _ _ r, omega arith, circuit_size b.p _ f _ r c.args.work.now c.requires.2 _ c.layout_of-map.ensures.leaves, rep_values b.p _ f _ r _ (c.read_values.auto.values ∙ zeros_sized 602 _ (omega arith)), leaf_size b.p f _ _ c.args.work.now refl, rep_equations b.p _ f _ r _ (zeros_sized 121 _ (omega arith)))

pub write_elements-requires : goal.write_elements-requires
write_elements-requires c =
    let t = c.args.turn in
    let r = alpha-end t.basis.p t.e t.counted t.within in
    let b = packing_small _ t.basis.fits in
    let m = t.basis.fits.equations in
    let l = c.alpha_of.auto.out ∙ zeros_sized 121 _ (omega arith) in (omega arith, omega arith)

pub returns : goal.returns
unfolding S alpha_at
returns c =
    let t = c.args.turn in
    let p = t.basis.p in
    let l = c.layout_of-map.ensures in
    let alpha = alpha-lent p t.e t.basis.fits _ c.rep_of-rep.ensures c.args.work.now c.requires.2 c.hidden_party-i.result _ _ _ _ _ _ _ refl l.roots refl l.leaves c.alpha_of.ensures in
    λ f held. placed-party p f _ _ _ _ _ _ _ _ c.hidden_party-i.ensures (placed-alpha p f t.e c.hidden_party-i.result _ _ _ _ _ _ _ c.read_values.ensures (alpha f held) c.write_elements.ensures)
