-- `views::sum_tapes` meets its contract. The invariant: the bytes are the sum of the tapes of the first i parties.
-- Assumes nothing.
use mathlib.Core.Path.{◌≡◌, ap, ◌∙◌}
use Prim.Native.Nat.{ℕ, ◌<◌}
use native.Mathlib.Omega.{arith}
use lib.ListN.{length}
use Rattle.memory.specs.Sections.{pieces}
use Rattle.views.specs.Views.{tape_sum}
use Rattle.views.proofs.Sums.{sum_none, sum_more, sum_all}
use Rattle.views.proofs.leaves.Leaves.sum_tapes.Goals as goal

pub loop-i-init : goal.loop-i-init
loop-i-init c =
    let a = c.args in
    let cl = c.clear in
    sum_none a.self.of.salt.now a.self.of.e (pieces a.self.size a.self.count a.self.seeds.now) a.sums.now cl.new.dst cl.ensures

pub loop-i-preserved : goal.loop-i-preserved
loop-i-preserved c =
    let l = c.loop-i in
    let a = c.args in
    let cl = c.clear in
    let t = c.add_tape in
    let more : l.i < a.self.count = omega arith in
    sum_more a.self.of.salt.now a.self.of.e (length cl.new.dst) a.self.size a.self.count l.i a.self.seeds.now l.sums _ more (omega arith) l.invariant t.ensures

pub returns : goal.returns
returns c =
    let l = c.loop-i in
    let a = c.args in
    let cl = c.clear in
    let k : length cl.new.dst ≡ length a.sums.now = omega (arith, cl.auto.dst) in
    sum_all a.self.of.salt.now a.self.of.e (length cl.new.dst) a.self.size a.self.count l.i a.self.seeds.now l.sums (omega arith) l.invariant
    ∙ ap (λ (n : ℕ). tape_sum a.self.of.salt.now a.self.of.e n (pieces a.self.size a.self.count a.self.seeds.now)) k
