-- `group::places::table` meets its contract. Assumes nothing.
use mathlib.Core.Path.{ap₂}
use Prim.Native.Nat.{ℕ, ◌+◌, ◌*◌}
use native.Mathlib.Omega.{arith}
use Rattle.forms.specs.Circuit.{affine_length}
use Rattle.group.proofs.Shares.{packed_is, rows-room}
use Rattle.group.proofs.places.table.Goals as goal

pub overflow_mul-result : goal.overflow_mul-result
overflow_mul-result c = rw (packed_is _ _ c.div_ceil-2.ensures) (omega (arith, rows-room c.args.rep c.requires))

pub overflow_add-result : goal.overflow_add-result
overflow_add-result c = rw (packed_is _ _ c.div_ceil-2.ensures) (omega (arith, rows-room c.args.rep c.requires))

pub returns : goal.returns
unfolding affine_length
returns c = record {
  bytes = ap₂ (λ (a b : ℕ). a + c.args.rep.m * b) (packed_is _ _ c.div_ceil.ensures) (packed_is _ _ c.div_ceil-2.ensures);
  few = rw (packed_is _ _ c.div_ceil-2.ensures) (omega (arith, rows-room c.args.rep c.requires));
}
