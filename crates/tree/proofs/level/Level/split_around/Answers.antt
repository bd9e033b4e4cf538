-- `tree::split_around` meets its contract: the parents behind the hidden one, the pair in its place, and the parents before it.
-- Assumes nothing.
use native.Mathlib.Omega.{arith}
use lib.ListN.{replicate, length-replicate}
use Rattle.tree.specs.Tree.{children}
use Rattle.tree.proofs.Laying.{children-sized}
use Rattle.tree.proofs.Around.{around-put}
use Rattle.tree.proofs.level.Level.split_around.Goals as goal

pub returns : goal.returns
returns c =
    let a = c.args in
    around-put a.self.s (children a.self.s a.self.of.salt.now a.self.of.e a.self.k) (children-sized a.self.s a.self.of.salt.now a.self.of.e a.self.k) a.p a.n a.own.now (replicate a.self.s 0) a.out.now (omega arith)
    _ _ _ (omega arith) (omega arith) (length-replicate a.self.s 0) c.split.ensures c.place.ensures c.split-2.ensures
