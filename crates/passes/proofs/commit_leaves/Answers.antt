-- `passes::commit_leaves` meets its contract: the corrections that the repetition gives are written. Assumes nothing.
use mathlib.Core.Path.{sym, ap, ◌∙◌}
use native.Mathlib.Omega.{arith}
use Prim.Native.Nat.{◌*◌}
use Rattle.sets.specs.Sets.{S}
use Rattle.answers.proofs.Turning.{zeros_sized}
use Rattle.biscuit.proofs.Room.{some-groups, few_groups}
use Rattle.passes.proofs.Committing.{committed_turn, part-secret, part-helper}
use Rattle.passes.proofs.commit_leaves.Goals as goal

pub overflow_mul-groups_of : goal.overflow_mul-groups_of
overflow_mul-groups_of c = let b = few_groups _ c.args.turn.basis.fits in omega (arith, c.groups_of.ensures)

pub repetition_first-next-requires : goal.repetition_first-next-requires
repetition_first-next-requires c =
    let b = c.args.turn.basis in
    let f = b.fits in
    let g = c.groups_of.ensures in
    let o = some-groups b.p in
    let d = f.seed in
    let n = f.variables in
    let m = f.equations in
    (d, omega arith, c.requires.0 ∙ ap (λ k. 16 * k * S b.p) (sym g), n, m, part-secret b.p _ b.whole, part-helper b.p _ b.whole, zeros_sized 118 _ (omega arith), zeros_sized 121 _ (omega arith))

pub returns : goal.returns
returns c = committed_turn _ _ _ _ _ _ _ _ _ _ _ _ c.groups_of.ensures c.repetition_first-next.ensures c.write_corrections.ensures
