-- `turning::to_lanes` meets its contract. The invariant: the first w groups of sixteen words are turned.
-- Assumes nothing.
use mathlib.Core.Path.{◌≡◌, refl, ◌∙◌}
use Prim.Native.Nat.{◌+◌, ◌*◌, ◌≤◌}
use native.Mathlib.Omega.{arith}
use lib.ListN.{length}
use Rattle.memory.proofs.Parts.{length_back, length-lent}
use Rattle.turning.proofs.Groups.{turned_none, turned_more, turned_all}
use Rattle.turning.proofs.to_lanes.Goals as goal

pub loop-w-init : goal.loop-w-init
loop-w-init c = (refl, turned_none _ _)

pub loop-w-preserved : goal.loop-w-preserved
loop-w-preserved c =
    let t = c.transpose in
    let l = c.loop-w in
    let at = 16 * l.w in
    let room : at + 16 ≤ length l.out = omega arith in
    let count : length t.new.y ≡ 16 = t.auto.y ∙ length-lent l.out at (at + 16) (omega arith) room ∙ omega arith in (
      length_back l.out t.new.y at (at + 16) (omega arith) room (omega arith) ∙ l.invariant.0,
      turned_more _ _ _ at _ (omega arith) (omega arith) room count l.invariant.1 t.ensures,
    )

pub returns : goal.returns
returns c = turned_all _ _ _ (omega arith) c.loop-w.invariant.1
