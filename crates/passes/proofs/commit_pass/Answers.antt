-- `passes::commit_pass` meets its contract. Assumes nothing.
use mathlib.Core.Path.{◌≡◌}
use native.Mathlib.Omega.{arith}
use Rattle.passes.proofs.Committing.{committing_none, committing_more, committed_all, corrections_all, planted_all}
use Rattle.passes.proofs.commit_pass.Goals as goal

pub loop-done-init : goal.loop-done-init
loop-done-init c = committing_none _ _ _ _ _ _ (λ i. omega (arith, c.type_inv.packing i))

pub loop-done-preserved : goal.loop-done-preserved
loop-done-preserved c =
    let b = c.args.basis in
    let l = c.loop-done in
    let u = c.commit_turn-next.ensures in
    committing_more b.p b.fits b.salt.now b.secret.now c.args.work.now b.whole c.requires.1 l.done _ _ _ _ _ _ _ _ c.requires.0 c.loop-done-test.true l.invariant u.commits u.plants

pub returns : goal.returns
returns c =
    let i = c.loop-done.invariant in
    let some = c.args.basis.fits.«repeated» in
    let e : c.loop-done.done ≡ c.args.basis.p.tau = omega arith in record { absorbs = committed_all _ _ _ _ _ _ _ _ _ _ e some i; writes = corrections_all _ _ _ _ _ _ _ _ _ _ e i; plants = planted_all _ _ _ _ _ _ _ _ _ _ e some i }
