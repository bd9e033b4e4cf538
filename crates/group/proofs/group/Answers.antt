-- `group::group` meets its contract. The shares of the sixteen parties, the forms at them, and what comes after the forms.
-- Assumes nothing.
use mathlib.Core.Path.{refl}
use native.Mathlib.Omega.{arith}
use Prim.Native.Nat.{ℕ, ◌+◌, ◌*◌}
use Rattle.forms.specs.Room.{circuit_in}
use Rattle.forms.proofs.Room.{holds_circuit}
use Rattle.parties.specs.Parties.{Share}
use Rattle.group.specs.Shares.{share_at}
use Rattle.group.proofs.Answers.{held-part}
use Rattle.group.proofs.group.Goals as goal

pub returns : goal.returns
returns c =
    let of = c.args.of in
    let r = of.rep in
    let w = c.sixteen_shares in
    let k = w.auto.words in
    let u = of.sized.variables in
    let share : ℕ → Share = λ q. share_at r of.salt.now c.args.leaves.now of.values.now (16 * c.args.g + q) in
    c.after_forms.ensures share w.ensures
    (c.linear_forms.ensures (circuit_in r.n r.m c.args.circuit.now) (λ q. (share q).s) (holds_circuit _ _ _)
    (held-part r share w.new.words r.n refl (omega arith) w.ensures))
