-- `vectors::read_first` meets its contract: none is read, or the one that is the second of its byte.
-- Assumes nothing.
use mathlib.Core.Path.{◌≡◌, ap, ◌∙◌}
use Prim.Native.Nat.{◌+◌}
use native.Mathlib.Omega.{arith}
use Rattle.field.specs.Packing.{nib}
use Rattle.vectors.proofs.Elements.{read_more}
use Rattle.vectors.proofs.read_first.Goals as goal

pub returns : goal.returns
returns c =
    let here : c.args.at ≡ c.args.at + 0 = omega arith in
    (omega arith, read_more c.args.bytes.now c.args.at 0 _ c.args.out.now (omega arith) (λ j h. omega arith) (c.element.ensures ∙ ap (nib c.args.bytes.now) here))
