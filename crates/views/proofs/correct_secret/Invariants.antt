-- `views::correct_secret` meets its contract. The invariant: the first k entries are those of Δs, and the others are as they were.
-- Assumes nothing.
use mathlib.Core.Path.{◌≡◌}
use mathlib.Core.List.{◌++◌}
use lib.ListN.{length, take, drop}
use Rattle.views.specs.Views.{correction_s}
use Rattle.views.proofs.correct_secret.Given as goal

abbrev pub invariant-loop-k : goal.invariant-loop-k
invariant-loop-k l =
    (l.ds ≡ take l.k (correction_s (length l.s) l.s l.sums) ++ drop l.k l.initial.ds)
