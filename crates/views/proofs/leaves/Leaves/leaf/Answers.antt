-- `views::leaf` meets its contract: the leaf is a part of the leaves, by its size.
-- Assumes nothing.
use mathlib.Core.Path.{ap, ◌∙◌}
use Prim.Native.Nat.{◌*◌}
use native.Mathlib.Omega.{arith}
use lib.ListN.{length}
use Rattle.memory.proofs.Lists.{room}
use Rattle.memory.proofs.Xors.{part-sized, length_part}
use Rattle.views.proofs.leaves.Leaves.leaf.Goals as goal

pub returns : goal.returns
returns c =
    let a = c.args in
    let s = a.self in
    let inside = room a.i s.count s.size (omega arith) in
    let same = part-sized s.seeds.now (a.i * s.size) s.size in
    (same, ap length same ∙ length_part s.seeds.now (a.i * s.size) s.size (omega arith))
