-- `single::alpha_of` meets its contract, for any circuit that the bytes hold.
-- Assumes nothing.
use mathlib.Core.Path.{ap, ◌∙◌}
use Prim.Native.Nat.{◌+◌, ◌*◌, ◌≤◌}
use native.Mathlib.Omega.{arith}
use Rattle.sponge.specs.Sponge.{shake256}
use Rattle.hashes.specs.Hashes.{tape_fields}
use Rattle.group.proofs.Shares.{tape_is}
use Rattle.single.proofs.Alpha.{alpha-held, front-lent, front-length}
use Rattle.single.proofs.alpha_of.Goals as goal

pub returns : goal.returns
returns c = λ P f en em ec.
    let rep = c.args.rep in
    let z = c.requires.0 in
    let u = z.variables in
    let w = z.equations in
    let fits : c.div_ceil.result + 2 * c.div_ceil-2.result ≤ 181 = grind arith in
    alpha-held rep c.args.i c.args.circuit.now c.args.values.now c.args.salt.now c.args.seed.now _ _
    (front-lent _ _ _ _ fits c.tape.auto.out ∙ c.tape.ensures ∙ ap (shake256 (tape_fields c.args.salt.now rep.e c.args.i c.args.seed.now)) (front-length _ _ fits ∙ tape_is rep _ _ c.div_ceil.ensures c.div_ceil-2.ensures))
    c.of_tape.ensures P f en em ec
