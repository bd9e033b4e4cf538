-- `vectors::read_rest` meets its contract. The invariant: what was read before is read still, and the entries up to i are.
-- Assumes nothing.
use mathlib.Core.Path.{◌≡◌, subst}
use Prim.Native.Nat.{ℕ}
use native.Mathlib.Omega.{arith}
use lib.ListN.{length}
use Rattle.vectors.specs.Elements.{ReadTo}
use Rattle.vectors.proofs.Elements.{read_more}
use Rattle.vectors.proofs.read_rest.Goals as goal

pub loop-i-preserved : goal.loop-i-preserved
loop-i-preserved c =
    let l = c.loop-i in
    λ done. read_more c.args.bytes.now c.args.at l.i _ l.out (omega arith) (l.invariant done) c.element.ensures

pub returns : goal.returns
returns c =
    let l = c.loop-i in
    let all : l.i ≡ length c.args.out.now = omega arith in
    λ done. subst (λ (n : ℕ). ReadTo c.args.bytes.now c.args.at n l.out) all (l.invariant done)
