-- `turning::turn::stage` meets its contract. The invariant: the words of the first p pairs are those after the stage.
-- Assumes nothing.
use mathlib.Core.Path.{◌≡◌, subst}
use Prim.Native.Nat.{ℕ}
use native.Mathlib.Omega.{arith}
use lib.ListN.{length-set}
use Rattle.turning.proofs.Stages.{MixedTo, pair_more, pairs_all}
use Rattle.turning.proofs.turn.stage.Goals as goal

pub loop-p-preserved : goal.loop-p-preserved
loop-p-preserved g c =
    let l = c.loop-p in
    (simp length-set l.invariant.0, pair_more g.row.D c.args.even l.p c.args.x.now l.y c.requires.1 c.loop-p-test.true l.invariant.0 l.invariant.1)

pub returns : goal.returns
returns g c =
    let l = c.loop-p in
    let e : l.p ≡ 8 = omega arith in
    pairs_all g.row.D c.args.even c.args.x.now l.y c.requires.1 (subst (λ (p : ℕ). MixedTo g.row.D c.args.even p c.args.x.now l.y) e l.invariant.1)
