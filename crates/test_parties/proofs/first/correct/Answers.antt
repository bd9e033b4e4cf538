-- `test_parties::first::correct` is safe: a seed has an eighth of the security bits in bytes, so the leaves are as many as `repetition_first` asks.
-- Assumes nothing.
use Prim.Native.Nat.{◌*◌}
use native.Mathlib.Omega.{arith}
use borrow.Author.Rules.{rules}
use Rattle.sets.specs.Sets.{S}
use Rattle.lines.proofs.Sizes.{seeds}
use Rattle.test_parties.proofs.first.correct.Goals as goal

pub repetition_first-next-requires : goal.repetition_first-next-requires
unfolding S
repetition_first-next-requires c =
    let pre = c.requires in
    let laid = c.args.t.laid in
    let k = c.args.t.case in
    let seed = laid.seed in
    let variables = laid.variables in
    let equations = laid.equations in
    let one = laid.one in
    (omega arith, omega arith, (let e = pre.3 in seeds (16 * k.groups) k.s (omega arith) (omega arith)), omega arith, omega arith, omega arith, omega arith, search rules, search rules)
