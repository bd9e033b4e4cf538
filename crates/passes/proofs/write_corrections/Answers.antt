-- `passes::write_corrections` meets its contract: the packing has room for the corrections of every repetition. Assumes nothing.
use native.Mathlib.Omega.{arith}
use Rattle.passes.proofs.Bounds.{corrections-end, packing_small}
use Rattle.passes.proofs.Placing.{placed_two}
use Rattle.passes.proofs.write_corrections.Goals as goal

pub write_elements-requires : goal.write_elements-requires
write_elements-requires c = let t = c.args.turn in let r = corrections-end t.basis.p t.e t.counted t.within in let b = packing_small _ t.basis.fits in (omega arith, omega arith)

pub write_elements-requires-2 : goal.write_elements-requires-2
write_elements-requires-2 c = let t = c.args.turn in let r = corrections-end t.basis.p t.e t.counted t.within in let b = packing_small _ t.basis.fits in (omega arith, omega arith)

pub returns : goal.returns
returns c =
    let t = c.args.turn in
    let h = c.requires in
    placed_two _ t.basis.p.n c.args.ds.now c.args.dc.now c.args.packing.now _ _ h.0 (let r = corrections-end t.basis.p t.e t.counted t.within in omega arith)
    c.write_elements.ensures c.write_elements-2.ensures
