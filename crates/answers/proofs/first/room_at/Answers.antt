-- `answers::first::room_at` meets its contract: no product is too large to count.
-- Assumes nothing.
use native.Mathlib.Omega.{arith}
use Rattle.answers.proofs.Work.{circuit_bound, leaves_bound}
use Rattle.answers.proofs.first.room_at.Goals as goal

pub overflow_add-result : goal.overflow_add-result
overflow_add-result c = omega (arith, circuit_bound c.args.rep.n c.args.rep.m c.requires.variables c.requires.equations, leaves_bound c.args.rep.groups c.args.rep.s c.requires.groups c.requires.seed)
