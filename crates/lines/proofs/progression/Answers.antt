-- `lines::progression` meets its contract. The invariant: the bytes passed follow the rule, and x is the next.
-- Assumes nothing.
use mathlib.Core.Path.{refl}
use Prim.Native.Nat.{ℕ, ◌+◌, ◌*◌, ◌%◌}
use native.Mathlib.Omega.{arith}
use Rattle.memory.specs.Lists.{table}
use Rattle.lines.proofs.Rule.{rule_more, progression_next}
use Rattle.lines.proofs.progression.Goals as goal

pub loop-b-init : goal.loop-b-init
unfolding table
loop-b-init c = (omega arith, omega arith, refl)

pub loop-b-preserved : goal.loop-b-preserved
loop-b-preserved c =
    let l = c.loop-b in
    let a = c.args in (
      omega arith,
      progression_next a.step a.start l.b-index l.x l.invariant.1,
      rule_more (λ (i : ℕ). (a.step * i + a.start) % 256) l.out l.b-index _ (omega arith) l.invariant.2 (omega arith),
    )
