-- `answers::packed::absorb_group` meets its contract: the packed vectors are absorbed, and not the room behind them.
-- Assumes nothing.
use mathlib.Core.Path.{ap, ◌∙◌}
use native.Mathlib.Nat.{sub-zero}
use Prim.Native.Nat.{ℕ}
use lib.ListN.{take}
use Rattle.sponge.specs.Steps.{absorbed}
use Rattle.answers.proofs.packed.absorb_group.Goals as goal

pub returns : goal.returns
returns c = λ vs packs. c.absorb.ensures ∙ ap (absorbed c.args.sponge) (ap (λ (k : ℕ). take k c.pack_into.new.out) (sub-zero _) ∙ c.pack_into.ensures vs packs)
