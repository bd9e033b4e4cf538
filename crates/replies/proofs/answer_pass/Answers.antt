-- `replies::answer_pass` meets its contract: the repetitions are taken two at a time, and one that is left over by itself. Assumes nothing.
use mathlib.Core.Path.{◌≡◌, refl}
use native.Mathlib.Omega.{arith}
use Prim.Native.Nat.{◌+◌, ◌*◌}
use Rattle.passes.proofs.Committing.{kept_none, kept_more}
use Rattle.replies.proofs.Answering.{answering_none, answering_more, answering_two, answered_all}
use Rattle.replies.proofs.answer_pass.Goals as goal

pub loop-pair-init : goal.loop-pair-init
loop-pair-init c = record { kept = kept_none _ _; answered = answering_none _ _ _ _ _ _ }

pub loop-pair-preserved : goal.loop-pair-preserved
loop-pair-preserved c =
    let b = c.args.basis in
    let l = c.loop-pair in
    let i = l.invariant in
    let u = c.answer_pair-next.ensures in
    record { kept = kept_more _ _ _ _ i.kept u.keeps; answered = answering_two b.p b.salt.now b.secret.now c.args.packing.now c.args.work.now l.work i.kept l.pair _ _ _ i.answered u.absorbs }

pub returns-then-tau-eq1-clause-absorbs : goal.returns-then-tau-eq1-clause-absorbs
returns-then-tau-eq1-clause-absorbs c =
    let b = c.args.basis in
    let l = c.loop-pair in
    let i = l.invariant in
    let odd : b.p.tau ≡ 2 * l.pair + 1 = omega arith in
    answered_all _ _ _ _ _ _ _ _ refl b.fits.«repeated»
    (answering_more b.p b.salt.now b.secret.now c.args.packing.now c.args.work.now l.work i.kept (2 * l.pair) _ _ _ _ odd i.answered c.answer_turn.ensures.absorbs)
