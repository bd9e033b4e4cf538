-- The seeds that verifying has: a path leaves out the hidden party and nobody else, so they are the seeds of all parties with that one left out. Of an honest path
-- these are the signer's seeds; of any other path they are those that `coded` of the tree names. Assumes nothing.
use mathlib.Core.Path.{◌≡◌, ◌∙◌}
use mathlib.Core.List.{List}
use Prim.Native.Nat.{ℕ, ◌-◌, ◌^◌, ◌≤◌, ◌<◌}
use Rattle.tree.specs.Tree.{Children, get_seeds, get_path, get_path_seeds}
use Rattle.tree.proofs.Coded.{coded}
use Rattle.tree.proofs.Theorems.{path_rebuilds_the_others, any_path_hides_one}
use Rattle.parties.specs.Repetition.{left_out}
use Rattle.parties.proofs.LeftOut.{hide-left_out}

module _ (kids : Children) (L h : ℕ) (legal : h - 1 < 2 ^ L) (from_one : 1 ≤ h) where
  -- an honest path: the signer's seeds but for the hidden party's
  pub honest_path-seeds : (root : List ℕ) → get_path_seeds kids L (get_path kids L root h) h ≡ left_out h (get_seeds kids L root)
  honest_path-seeds root = path_rebuilds_the_others kids L h legal root ∙ hide-left_out h (get_seeds kids L root) from_one

  -- any path: some seeds, with the hidden party's left out
  pub any_path-seeds : (path : List (List ℕ)) (blank : List ℕ) → get_path_seeds kids L path h ≡ left_out h (coded kids L path h blank)
  any_path-seeds path blank = any_path_hides_one kids L h legal path blank ∙ hide-left_out h (coded kids L path h blank) from_one
