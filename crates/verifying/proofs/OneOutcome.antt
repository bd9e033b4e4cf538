-- What the promise of the one public function of this crate settles: the answer. Work is scratch that the call clears, and is left open.
-- Assumes nothing.
use mathlib.Core.Path.{sym, ◌∙◌}
use mathlib.Core.Bool.{Bool}
use Rattle.memory.specs.Outcome.{OneSight}
use Rattle.verifying.proofs.accepts as accepts

pub accepts_settles : OneSight accepts.Kinds.ps accepts.Kinds.r accepts.Reads.Asked accepts.Reads.Learnt Bool (λ κs a o. o.0)
accepts_settles κs a good asked o q x y = x.promised ∙ sym y.promised
