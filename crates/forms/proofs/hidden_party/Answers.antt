-- `forms::hidden_party` meets its contract: one shifted by l is 2^l, and a byte's rest modulo it is small. Assumes nothing.
use mathlib.Core.Path.{ap₂}
use Prim.Native.Nat.{ℕ, ◌+◌, ◌*◌, ◌%◌, ◌^◌}
use native.Mathlib.Nat.{mod-le}
use native.Mathlib.Omega.{arith}
use lib.Pow.{pow_pos}
use Rattle.forms.specs.Room.{hidden_in}
use Rattle.forms.proofs.Room.{shifted_one}
use Rattle.forms.proofs.hidden_party.Goals as goal

pub nonzero_rem-result : goal.nonzero_rem-result
nonzero_rem-result c =
    let e = shifted_one c.args.l c.requires.0 in
    let p = pow_pos c.args.l in
    omega arith

pub overflow_add-result : goal.overflow_add-result
overflow_add-result c =
    let m = mod-le c.wide-b.result (1 * 2 ^ c.args.l % 2 ^ 64) in
    omega arith

pub returns : goal.returns
unfolding hidden_in
returns c =
    ap₂ (λ (b d : ℕ). b % d + 1) c.wide-b.ensures.0 (shifted_one c.args.l c.requires.0)
