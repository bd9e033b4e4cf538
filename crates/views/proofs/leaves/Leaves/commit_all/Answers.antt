-- `views::commit_all` meets its contract. The invariant: the hash has absorbed the commitments of the first i parties. It is said of every sponge from which
-- the first turn can have come, since the code does not hold the one it began with. Assumes nothing.
use Prim.Native.Nat.{◌<◌}
use native.Mathlib.Omega.{arith}
use Rattle.hashes.specs.Hashes.{commit}
use Rattle.views.specs.Views.{given_in}
use Rattle.views.proofs.Absorbing.{absorbed-party, absorbed-first-party, absorbed_all_parties}
use Rattle.views.proofs.leaves.Leaves.commit_all.Goals as goal

pub loop-i-preserved : goal.loop-i-preserved
loop-i-preserved c =
    let l = c.loop-i in
    let a = c.args in
    let more : l.i < a.self.count = omega arith in
    λ s h. absorbed-party (given_in a.given (commit a.self.size a.self.of.salt.now a.self.of.e)) a.self.size a.self.count a.self.seeds.now s l.next _ l.i more (l.invariant s h) c.commit_at-next-in-loop-i.ensures

pub returns : goal.returns
returns c =
    let l = c.loop-i in
    let a = c.args in
    absorbed_all_parties (given_in a.given (commit a.self.size a.self.of.salt.now a.self.of.e)) a.self.size a.self.count a.self.seeds.now a.hash l.next l.i (omega arith)
    (l.invariant a.hash (absorbed-first-party (given_in a.given (commit a.self.size a.self.of.salt.now a.self.of.e)) a.self.size a.self.count a.self.seeds.now a.hash _ (omega arith) c.commit_at-next.ensures))
