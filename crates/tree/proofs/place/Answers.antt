-- `tree::place` meets its contract: the seed at the sibling's place and the zeros at p lie side by side.
-- Assumes nothing.
use mathlib.Core.Path.{refl}
use native.Mathlib.Omega.{arith}
use lib.ListN.{length}
use Rattle.tree.proofs.Around.{child_room, placed}
use Rattle.tree.proofs.place.Goals as goal

pub slice_bounds-copy-end : goal.slice_bounds-copy-end
slice_bounds-copy-end c = let a = c.args in let r = child_room c.sibling.result a.p a.s (length a.out.now) c.sibling.ensures.1 (omega arith) in omega arith

pub slice_bounds-clear-end : goal.slice_bounds-clear-end
slice_bounds-clear-end c = let a = c.args in let r = child_room a.p a.p a.s (length a.out.now) refl (omega arith) in omega arith

pub returns : goal.returns
returns c =
    let a = c.args in
    placed a.p a.s c.sibling.result a.own.now a.out.now c.copy.new.dst _ c.clear.new.dst
    c.sibling.ensures.0 (omega arith) (omega arith) c.copy.ensures refl c.clear.ensures
