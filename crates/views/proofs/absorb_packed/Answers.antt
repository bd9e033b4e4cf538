-- `views::absorb_packed` meets its contract: what is absorbed is the part of the room that was packed.
-- Assumes nothing.
use native.Mathlib.Omega.{arith}
use Rattle.views.proofs.Absorbing.{absorbed_packed}
use Rattle.views.proofs.absorb_packed.Goals as goal

pub returns : goal.returns
returns c =
    let a = c.args in
    let p = c.packed_length-n in
    let m = c.pack_into in
    absorbed_packed a.elements.now _ m.new.out p.result a.hash _ p.ensures.0 (omega arith) m.ensures c.absorb.ensures
