-- `tree::expand` meets its contract: the seed is copied to a place of its own, and its children are put where they belong.
-- Assumes nothing.
use native.Mathlib.Omega.{arith}
use Rattle.tree.proofs.Laying.{expanded}
use Rattle.tree.proofs.level.Level.expand.Goals as goal

pub returns : goal.returns
returns c =
    let a = c.args in
    expanded a.self.s a.self.of.salt.now a.self.of.e a.self.k a.j a.from a.to a.out.now _ c.copy.new.dst c.children.new.out
    (omega arith) (omega arith) (omega arith) c.copy.ensures c.children.ensures
