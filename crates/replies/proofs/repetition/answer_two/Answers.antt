-- `replies::repetition::answer_two` meets its contract: both have one group of parties, and circuit and leaves are parts of work. Assumes nothing.
use mathlib.Core.Path.{sym, subst, ◌∙◌}
use mathlib.Core.List.{List}
use Prim.Native.Nat.{◌+◌}
use native.Mathlib.Omega.{arith}
use Rattle.sets.specs.Sets.{S}
use Rattle.field.specs.Packing.{Elements}
use Rattle.answers.proofs.Turning.{zeros_sized}
use Rattle.passes.proofs.Bounds.{inside}
use Rattle.passes.proofs.Planting.{leaves-lent}
use Rattle.reps.proofs.Laws.{rep_sized, rep_one}
use Rattle.replies.proofs.Values.{values_elements}
use Rattle.replies.proofs.Lending.{rep_values, rep_leaves, circuit_size}
use Rattle.replies.proofs.Pairing.{beside-variables, beside-equations, absorbed-beside, sixteen-leaves, answered-beside, kept-beside}
use Rattle.replies.proofs.repetition.answer_two.Goals as goal

pub overflow_mul-leaves : goal.overflow_mul-leaves
unfolding S
overflow_mul-leaves c = let s = c.args.turn.basis.fits.seed in omega arith

pub slice_bounds-leaves-end : goal.slice_bounds-leaves-end
unfolding S
slice_bounds-leaves-end c = let s = c.args.turn.basis.fits.seed in omega arith

pub slice_bounds-copy_from_slice-count : goal.slice_bounds-copy_from_slice-count
slice_bounds-copy_from_slice-count c = (inside _ _ c.args.turn.basis.fits c.layout_of-map.ensures).leaves

pub slice_bounds-copy_from_slice-start : goal.slice_bounds-copy_from_slice-start
slice_bounds-copy_from_slice-start c = (inside _ _ c.args.turn.basis.fits c.layout_of-map.ensures).leaves

pub slice_bounds-copy_from_slice-end : goal.slice_bounds-copy_from_slice-end
slice_bounds-copy_from_slice-end c = let i = inside _ _ c.args.turn.basis.fits c.layout_of-map.ensures in let l = c.plant.auto.work in omega arith

pub copy_from_slice-requires : goal.copy_from_slice-requires
unfolding S
copy_from_slice-requires c =
    let b = c.args.turn.basis in
    let s = b.fits.seed in
    sixteen-leaves b.p _ c.requires.0 (zeros_sized 512 _ (omega arith)) ∙ sym (leaves-lent _ b.fits c.plant.new.work (c.plant.auto.work ∙ c.requires.4) _ c.layout_of-map.ensures)

pub slice_bounds-two_repetitions-end : goal.slice_bounds-two_repetitions-end
slice_bounds-two_repetitions-end c = let i = inside _ _ c.args.turn.basis.fits c.layout_of-map.ensures in let l = c.plant-2.auto.work ∙ c.plant.auto.work in omega arith

pub slice_bounds-two_repetitions-count-2 : goal.slice_bounds-two_repetitions-count-2
slice_bounds-two_repetitions-count-2 c = (inside _ _ c.args.turn.basis.fits c.layout_of-map.ensures).leaves

pub slice_bounds-two_repetitions-start-2 : goal.slice_bounds-two_repetitions-start-2
slice_bounds-two_repetitions-start-2 c = (inside _ _ c.args.turn.basis.fits c.layout_of-map.ensures).leaves

pub two_repetitions-requires : goal.two_repetitions-requires
unfolding S
two_repetitions-requires c =
    let h = c.requires in
    let b = c.args.turn.basis in
    let f = b.fits in
    let n = f.variables in
    let m = f.equations in
    let s = f.seed in
    let q = b.salted in
    let k = c.layout_of-map.ensures in
    let r = c.rep_of-rep.ensures in
    let o = c.rep_of-other.ensures in
    let v = c.read_values in
    let w = c.read_values-2 in
    let whole = c.plant-2.auto.work ∙ c.plant.auto.work ∙ h.4 in (
      rep_sized _ f _ _ _ r,
      rep_sized _ f _ _ _ o,
      rep_one _ f _ _ _ r h.0,
      rep_one _ f _ _ _ o h.0,
      beside-variables _ _ _ _ _ r o,
      beside-equations _ _ _ _ _ r o,
      omega arith,
      rep_values _ _ f _ r _ (v.auto.values ∙ zeros_sized 602 _ (omega arith)),
      subst (λ (x : List _). Elements x) (sym v.ensures) (values_elements b.p _ b.secret.now c.args.packing.now _ b.whole h.2),
      rep_values _ _ f _ o _ (w.auto.values ∙ zeros_sized 602 _ (omega arith)),
      subst (λ (x : List _). Elements x) (sym w.ensures) (values_elements b.p _ b.secret.now c.args.packing.now _ b.whole h.2),
      circuit_size _ _ f _ r c.plant-2.new.work whole _ k.leaves,
      rep_leaves _ _ f _ r _ (c.copy_from_slice.auto.self ∙ sixteen-leaves b.p _ h.0 (zeros_sized 512 _ (omega arith))),
      rep_leaves _ _ f _ o _ (leaves-lent _ f c.plant-2.new.work whole _ k),
    )

pub returns-clause-absorbs : goal.returns-clause-absorbs
returns-clause-absorbs c =
    let t = c.args.turn in
    let b = t.basis in
    let k = c.layout_of-map.ensures in
    let a = c.plant in
    let less = c.requires.1 in
    answered-beside b.p b.fits b.salt.now c.args.work.now c.requires.4 t.e (t.e + 1) t.counted t.within (omega arith) (omega arith) _ k _ _ (a.auto.work ∙ c.requires.4) a.ensures c.plant-2.ensures
    _ _ _ _ _ _ _ c.read_values.ensures c.read_values-2.ensures c.copy_from_slice.ensures.after
    (absorbed-beside b.p _ _ _ _ c.rep_of-rep.ensures c.rep_of-other.ensures _ k c.plant-2.new.work _ _ _ _ _ _ c.two_repetitions.ensures)

pub returns-clause-keeps : goal.returns-clause-keeps
returns-clause-keeps c =
    let t = c.args.turn in
    let b = t.basis in
    let a = c.plant in
    let less = c.requires.1 in
    kept-beside b.p b.fits b.salt.now c.args.work.now c.requires.4 t.e (t.e + 1) t.counted t.within (omega arith) (omega arith) _ c.layout_of-map.ensures _ _ (a.auto.work ∙ c.requires.4) a.ensures c.plant-2.ensures
