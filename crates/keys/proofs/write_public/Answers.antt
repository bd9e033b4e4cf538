-- `keys::write_public` meets its contract. Assumes nothing.
use mathlib.Core.Path.{◌≡◌, sym, ap₂, ◌∙◌}
use mathlib.Core.List.{◌++◌}
use native.Mathlib.Omega.{arith}
use lib.ListN.{length}
use Rattle.memory.proofs.Stores.{over-whole}
use Rattle.field.specs.Packing.{packed_length}
use Rattle.field.proofs.Packing.{length-pack}
use Rattle.keys.proofs.write_public.Goals as goal

pub returns : goal.returns
returns c =
    let b = c.split_at_mut-first.ensures.back_len in
    let size : length c.split_at_mut-first.result.1.now ≡ packed_length (length c.args.t.now) = omega arith in
    ap₂ ◌++◌ (c.copy.ensures ∙ over-whole _ _ (sym c.split_at_mut-first.ensures.front_len)) (c.pack_into.ensures ∙ over-whole _ _ (length-pack c.args.t.now ∙ sym size))
