-- A run of stores, one after another, is a part put into the list; a list written over one of its length is all that is left.
-- Assumes nothing.
use mathlib.Core.Path.{◌≡◌, ap, ◌∙◌}
use mathlib.Core.List.{List, ◌++◌, append_assoc, append-nil}
use Prim.Native.Nat.{ℕ, ◌+◌, ◌≤◌}
use native.Mathlib.Omega.{arith}
use lib.ListN.{length, take, drop, drop_of_length-le}
use lib.Seq.{sets, sets-eq}
use Rattle.memory.specs.Lists.{over, put}
use Rattle.memory.proofs.Parts.{over_fits}

pub stores_put : (l : List ℕ) (at : ℕ) (new : List ℕ) → at + length new ≤ length l → sets l at new ≡ put l at new
unfolding put
stores_put l at new h = sets-eq new l at h ∙ append_assoc (take at l) new (drop (at + length new) l)

-- a whole list written over another
pub over-whole : {X : Type 0} (new old : List X) → length new ≡ length old → over new old ≡ new
over-whole new old h =
    over_fits new old (omega arith)
    ∙ ap (λ l. new ++ l) (drop_of_length-le old {i = length new} (omega arith)) ∙ append-nil new
