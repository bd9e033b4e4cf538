-- `group::scatter` meets its contract. Assumes nothing.
use native.Mathlib.Omega.{arith}
use Rattle.group.proofs.Tapes.{stored_more}
use Rattle.group.proofs.scatter.Goals as goal

pub loop-w-preserved : goal.loop-w-preserved
loop-w-preserved c = stored_more c.loop-w.w c.args.q _ _ _ _ c.requires.0 (omega arith) c.word_at.ensures c.loop-w.invariant
