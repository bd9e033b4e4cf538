-- `single::first_forms` meets its contract: the rows of the first table under the masks of the vector, each folded, are the linear forms.
-- Assumes nothing.
use native.Mathlib.Omega.{arith}
use lib.ListN.{replicate}
use Rattle.field.specs.Vectors.{◌!◌}
use Rattle.group.proofs.Shares.{packed_is}
use Rattle.single.proofs.Alpha.{front-lent, front-length}
use Rattle.single.proofs.Vector.{rows_fit, first_out}
use Rattle.single.proofs.first_forms.Goals as goal

pub rows-requires : goal.rows-requires
rows-requires c =
    let rep = c.args.rep in
    let z = c.requires.0 in
    (grind arith, grind arith, rows_fit rep.n rep.m _ _ _ _ _ (packed_is _ _ c.div_ceil.ensures) (packed_is _ _ c.div_ceil-2.ensures) (grind arith) z.some c.requires.1 (front-length _ _ z.equations), c.fill.auto.masks)

pub returns : goal.returns
returns c =
    let rep = c.args.rep in
    let v = c.args.s.now in
    let z = c.requires.0 in
    first_out rep.n rep.m _ _ c.div_ceil-3.result _ c.args.circuit.now v _ _ _ _ (packed_is _ _ c.div_ceil.ensures) (packed_is _ _ c.div_ceil-2.ensures) (grind arith) c.requires.2 c.requires.3 c.fold_into.auto.out
    (front-length (replicate 121 0) _ z.equations) (c.rows.ensures (λ j. v ! j) c.fill.ensures) (front-lent (replicate 121 0) _ _ rep.m z.equations c.rows.auto.out) c.fold_into.ensures
