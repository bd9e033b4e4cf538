-- `tree::step` meets its contract: the children lie at the start of `pair`, and the one beside the way is copied to its place in the path.
-- Assumes nothing.
use mathlib.Core.Path.{ap, ◌∙◌}
use mathlib.Core.List.{List}
use Prim.Native.Nat.{ℕ, ◌*◌, ◌/◌, ◌%◌}
use native.Mathlib.Omega.{arith}
use lib.ListN.{take, drop}
use Rattle.tree.proofs.Walking.{towards_in, right_le, besides_copied}
use Rattle.tree.proofs.level.Level.step.Goals as goal

pub returns : goal.returns
returns c =
    let a = c.args in
    let m = c.expand in
    let s = take a.self.s (drop a.at a.pair.now) in (
      right_le a.p a.self.s,
      ap (λ (x : List ℕ). take a.self.s (drop (a.p % 2 * a.self.s) x)) m.ensures
          ∙ towards_in a.self.s a.self.of.salt.now a.self.of.e a.self.k (a.p / 2) s a.pair.now a.p (omega arith),
      besides_copied a.self.s a.self.of.salt.now a.self.of.e a.self.k (a.p / 2) s a.pair.now m.new.out a.out.now c.copy.new.dst a.p
          (omega arith) m.auto.out (omega arith) m.ensures c.copy.ensures,
    )
