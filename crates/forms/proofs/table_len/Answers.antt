-- `forms::table_len` meets its contract: half of a number, rounded up, is what as many packed elements take. Assumes nothing.
use mathlib.Core.Path.{ap₂, ◌∙◌}
use Prim.Native.Nat.{ℕ, ◌+◌, ◌*◌}
use Rattle.forms.specs.Circuit.{affine_length}
use Rattle.forms.proofs.Room.{half_ceil}
use Rattle.forms.proofs.table_len.Goals as goal

pub returns-clause-size : goal.returns-clause-size
unfolding affine_length
returns-clause-size c = ap₂ (λ (a b : ℕ). a + c.args.m * b) (c.div_ceil.ensures ∙ half_ceil c.args.m) (c.div_ceil-2.ensures ∙ half_ceil c.args.n)
