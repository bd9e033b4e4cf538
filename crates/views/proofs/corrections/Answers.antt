-- `views::corrections` meets its contract: mask and helper lie where `correction_c` reads them.
-- Assumes nothing.
use mathlib.Core.Path.{◌∙◌}
use lib.ListN.{length}
use Rattle.views.proofs.Entries.{correction_c_at}
use Rattle.views.proofs.corrections.Goals as goal

pub returns : goal.returns
returns c =
    let a = c.args in record { secret = c.correct_secret.ensures; helper = c.correct_helper.ensures ∙ correction_c_at a.y.now a.sums.now (length a.s.now) _ _ c.packed_length-mask.ensures.0 c.packed_length.ensures.0 }
