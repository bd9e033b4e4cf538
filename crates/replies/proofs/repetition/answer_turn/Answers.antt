-- `replies::repetition::answer_turn` meets its contract: circuit, leaves and room lie one behind the other, and what lies behind them is not lent. Assumes nothing.
use mathlib.Core.Path.{sym, subst, ◌∙◌}
use mathlib.Core.List.{List}
use native.Mathlib.Omega.{arith}
use Rattle.field.specs.Packing.{Elements}
use Rattle.answers.proofs.Turning.{zeros_sized}
use Rattle.passes.proofs.Bounds.{inside}
use Rattle.reps.proofs.Laws.{rep_sized, rep_some}
use Rattle.replies.proofs.Values.{values_elements}
use Rattle.replies.proofs.Lending.{rep_values, rooms_size, absorbed-leaves, rooms_kept, answered_values, answered_planted, kept_planted}
use Rattle.replies.proofs.repetition.answer_turn.Goals as goal

pub slice_bounds-answers-end : goal.slice_bounds-answers-end
slice_bounds-answers-end c = let i = inside _ _ c.args.turn.basis.fits c.layout_of-map.ensures in let l = c.plant.auto.work in omega arith

pub answers-requires : goal.answers-requires
answers-requires c =
    let b = c.args.turn.basis in
    let f = b.fits in
    let n = f.variables in
    let m = f.equations in
    let r = c.rep_of-rep.ensures in
    let v = c.read_values in
    let q = b.salted in
    let d = f.seed in
    (rep_sized _ f _ _ _ r, rep_some _ f _ _ _ r, omega arith, rep_values b.p _ f _ r _ (v.auto.values ∙ zeros_sized 602 _ (omega arith)), subst (λ (x : List _). Elements x) (sym v.ensures) (values_elements b.p _ b.secret.now c.args.packing.now _ b.whole c.requires.0), rooms_size b.p _ f _ r c.plant.new.work (c.plant.auto.work ∙ c.requires.2) _ c.layout_of-map.ensures.roots)

pub returns-clause-absorbs : goal.returns-clause-absorbs
returns-clause-absorbs c =
    let t = c.args.turn in
    let b = t.basis in
    let planted = c.plant in
    answered_planted b.p b.fits b.salt.now c.args.work.now c.requires.2 t.e t.counted t.within _ _ _ _ _ planted.ensures
    (answered_values b.p _ _ _ _ _ planted.new.work _ _ c.read_values.ensures
    (absorbed-leaves b.p t.e b.fits _ c.rep_of-rep.ensures planted.new.work (planted.auto.work ∙ c.requires.2) _ _ _ _ _ c.layout_of-map.ensures.roots c.answers.ensures.absorbs))

pub returns-clause-keeps : goal.returns-clause-keeps
returns-clause-keeps c =
    let t = c.args.turn in
    let b = t.basis in
    let planted = c.plant in
    kept_planted b.p b.fits b.salt.now c.args.work.now c.requires.2 t.e t.counted t.within _ _ planted.ensures
    (rooms_kept b.p t.e b.fits _ c.rep_of-rep.ensures planted.new.work (planted.auto.work ∙ c.requires.2) _ _ c.layout_of-map.ensures.roots c.answers.auto.work c.answers.ensures.kept)
