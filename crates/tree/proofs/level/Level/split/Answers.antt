-- `tree::split` meets its contract. The invariant: the parents from j on are spread out, and what lies before their children is as it was.
-- Assumes nothing.
use mathlib.Core.Path.{◌≡◌, sym, ap, ◌∙◌}
use Prim.Native.Nat.{ℕ, ◌*◌}
use native.Mathlib.Omega.{arith}
use Rattle.memory.specs.Lists.{put}
use Rattle.tree.specs.Tree.{children}
use Rattle.tree.specs.Spread.{spread}
use Rattle.tree.proofs.Laying.{spread_none, spread_turn}
use borrow.Author.Rules.{rules}
use Rattle.tree.proofs.level.Level.split.Goals as goal

pub loop-j-init : goal.loop-j-init
loop-j-init c = (search rules, sym (spread_none _ _ _ _))

pub loop-j-preserved : goal.loop-j-preserved
loop-j-preserved c =
    let a = c.args in
    let l = c.loop-j in (
      omega arith,
      spread_turn a.self.s a.self.of.salt.now a.self.of.e a.self.k l.j a.to a.out.now l.out _ (omega arith) (omega arith) (omega arith) l.invariant.1 c.expand.ensures,
    )

pub returns : goal.returns
returns c =
    let a = c.args in
    let l = c.loop-j in
    let e : l.j ≡ a.from = omega arith in
    l.invariant.1 ∙ ap (λ (n : ℕ). put a.out.now (n * (2 * a.self.s)) (spread a.self.s (children a.self.s a.self.of.salt.now a.self.of.e a.self.k) n a.to a.out.now)) e
