-- `replies::alpha_pass` meets its contract. Assumes nothing.
use mathlib.Core.Path.{◌≡◌}
use native.Mathlib.Omega.{arith}
use Rattle.replies.proofs.Hiding.{shown_none, shown_more, shown_all}
use Rattle.replies.proofs.alpha_pass.Goals as goal

pub loop-done-init : goal.loop-done-init
loop-done-init c = shown_none _ _ _ _ _ _ (λ i. omega (arith, c.type_inv.packing i))

pub loop-done-preserved : goal.loop-done-preserved
loop-done-preserved c =
    let b = c.args.basis in
    let l = c.loop-done in
    shown_more b.p b.salt.now b.secret.now c.args.hidden.now c.args.work.now c.args.packing.now l.packing _ l.done c.requires.1 c.loop-done-test.true l.invariant c.alpha_turn.ensures

pub returns : goal.returns
returns c = let e : c.loop-done.done ≡ c.args.basis.p.tau = omega arith in shown_all _ _ _ _ _ _ _ _ e c.loop-done.invariant
