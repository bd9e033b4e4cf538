-- `group::two_groups` meets its contract. The shares of both groups, the forms at them, and of each what comes after the forms.
-- Assumes nothing.
use mathlib.Core.Path.{refl}
use native.Mathlib.Omega.{arith}
use Prim.Native.Nat.{ℕ, ◌+◌, ◌*◌}
use Rattle.forms.specs.Room.{circuit_in}
use Rattle.forms.proofs.Room.{holds_circuit}
use Rattle.parties.specs.Parties.{Share}
use Rattle.group.specs.Shares.{share_at}
use Rattle.group.proofs.Answers.{held-part, circuit_alike}
use Rattle.group.proofs.two_groups.Goals as goal

pub returns : goal.returns
returns c =
    let of = c.args.of in
    let other = c.args.other in
    let r = of.rep in
    let o = other.rep in
    let w = c.sixteen_shares in
    let v = c.sixteen_shares-2 in
    let l = c.linear_two in
    let k = w.auto.words in
    let m = v.auto.words in
    let u = of.sized.variables in
    let circuit = c.args.circuit.now in
    let share : ℕ → Share = λ q. share_at r of.salt.now c.args.leaves.now of.values.now (16 * c.args.g + q) in
    let more : ℕ → Share = λ q. share_at o other.salt.now c.args.others.now other.values.now (16 * c.args.h + q) in record {
      first = c.after_forms.ensures share w.ensures
          (l.ensures.0 (circuit_in r.n r.m circuit) (λ q. (share q).s) (holds_circuit _ _ _) (held-part r share w.new.words r.n refl (omega arith) w.ensures));
      second = c.after_forms-2.ensures more v.ensures
          (l.ensures.1 (circuit_in o.n o.m circuit) (λ q. (more q).s) (circuit_alike r.n r.m o.n o.m circuit c.requires.0 c.requires.1) (held-part o more v.new.words r.n c.requires.0 (omega arith) v.ensures));
    }
