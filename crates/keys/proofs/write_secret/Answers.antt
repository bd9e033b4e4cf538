-- `keys::write_secret` meets its contract: the half bytes behind the seed are zero at first, and each vector is written behind the one before. Assumes nothing.
use mathlib.Core.Path.{sym, ap₂, ◌∙◌}
use mathlib.Core.List.{◌++◌}
use native.Mathlib.Omega.{arith}
use Rattle.memory.proofs.Stores.{over-whole}
use Rattle.field.specs.Packing.{packed_length}
use Rattle.keys.proofs.Made.{three_packed}
use Rattle.keys.proofs.write_secret.Goals as goal

pub write_elements-requires : goal.write_elements-requires
unfolding packed_length
write_elements-requires c = let b = c.split_at_mut-first.ensures.back_len in let l = c.clear.auto.dst in (omega arith, omega arith)

pub write_elements-requires-2 : goal.write_elements-requires-2
unfolding packed_length
write_elements-requires-2 c = let b = c.split_at_mut-first.ensures.back_len in let l = c.clear.auto.dst in (omega arith, omega arith)

pub write_elements-requires-3 : goal.write_elements-requires-3
unfolding packed_length
write_elements-requires-3 c = let b = c.split_at_mut-first.ensures.back_len in let l = c.clear.auto.dst in (omega arith, omega arith)

pub returns : goal.returns
returns c =
    let b = c.split_at_mut-first.ensures.back_len in
    ap₂ ◌++◌ (c.copy.ensures ∙ over-whole _ _ (sym c.split_at_mut-first.ensures.front_len))
    (three_packed c.args.s.now c.args.t.now c.args.y.now _ _ _ _ _ c.clear.ensures (omega arith) c.write_elements.ensures c.write_elements-2.ensures c.write_elements-3.ensures)
