-- `keccak::rounds` meets its contract. The invariant: after i turns the lanes, but for those that are turned over, are those of the first 2i rounds.
-- The constants of a turn are those of its rounds by the rule of the table. Assumes nothing.
use mathlib.Core.Path.{◌≡◌, ap, sym, ◌∙◌}
use Prim.Native.Nat.{ℕ, ◌*◌}
use native.Mathlib.Omega.{arith}
use Rattle.keccak.specs.Keccak as spec
use Rattle.keccak.specs.Lanes.{listed, turned, kept}
use Rattle.keccak.proofs.Steps.{rounds-zero, two_more, rounds-keccak_f}
use Rattle.keccak.proofs.rounds.Goals as goal

pub loop-i-init : goal.loop-i-init
loop-i-init c = sym (rounds-zero _)

pub loop-i-preserved : goal.loop-i-preserved
loop-i-preserved c = two_more _ _ c.loop-i-test.true c.loop-i.invariant c.two_rounds-s.ensures

pub returns : goal.returns
returns c =
    let e : 2 * c.loop-i.i ≡ 24 = omega arith in
    c.turn_over.ensures.0 ∙ c.loop-i.invariant
    ∙ ap (λ (n : ℕ). spec.rounds n (turned kept (listed c.turn_over-s.result))) e ∙ rounds-keccak_f _
    ∙ ap spec.keccak_f c.turn_over-s.ensures.1
