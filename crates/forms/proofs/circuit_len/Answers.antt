-- `forms::circuit_len` meets its contract: three times a table's size. Assumes nothing.
use mathlib.Core.Path.{sym, ap, ◌∙◌}
use Prim.Native.Nat.{ℕ, ◌+◌}
use Rattle.forms.proofs.Room.{circuit_three}
use Rattle.forms.proofs.circuit_len.Goals as goal

pub returns : goal.returns
returns c = ap (λ (k : ℕ). k + k + k) c.table_len-size.ensures.size ∙ sym (circuit_three c.args.n c.args.m)
