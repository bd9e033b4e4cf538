-- `answers::second::folds` meets its contract. The lanes of the sums are folded.
-- Assumes nothing.
use mathlib.Core.Path.{refl}
use Rattle.answers.proofs.Turning.{folded_sums}
use Rattle.answers.proofs.second.folds.Goals as goal

pub returns : goal.returns
returns c = record { folded = folded_sums _ _ _ _ _ _ _ _ _ refl c.requires.0 c.requires.2 c.requires.3 c.fold_into.ensures c.multiply_add.ensures c.fold_into-2.ensures; multiplied = c.multiply_add.ensures }
