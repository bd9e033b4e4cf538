-- What phase 5 of signing shows of the hidden parties (algorithm 12 of the submission, lines 37 to 40): the path around the hidden leaf and the commitment
-- to it, by the roots of all repetitions and a byte for each that gives the hidden party. Repetitions e count from 1.
-- Assumes nothing.
use mathlib.Core.List.{List, [], ◌++◌, flatten}
use Rattle.std.specs.Prelude.{ℕ, ◌-◌, get_or}
use Rattle.sets.specs.Sets.{S}
use Rattle.sets.specs.declared.Params.{Params}
use Rattle.hashes.specs.Hashes.{commit}
use Rattle.tree.specs.Tree.{children, get_seeds, get_path}
use Rattle.forms.specs.Room.{hidden_in}
use Rattle.biscuit.specs.Room.{root_in}

-- ---- one repetition: S bytes to a seed, 2^L parties, of which h is hidden

-- the leaf of party h
unfoldable pub leaf_under : ℕ → List ℕ → ℕ → ℕ → List ℕ → ℕ → List ℕ
leaf_under S salt e L root h = get_or (get_seeds (children S salt e) L root) (h - 1) []

-- "path (L·S) and hidden commitment (2S)"
unfoldable pub shown_under : ℕ → List ℕ → ℕ → ℕ → List ℕ → ℕ → List ℕ
shown_under S salt e L root h = flatten (get_path (children S salt e) L root h) ++ commit S salt e h (leaf_under S salt e L root h)

-- ---- all repetitions

-- the hidden party's leaf in repetition e
unfoldable pub leaf_of : Params → List ℕ → List ℕ → List ℕ → ℕ → List ℕ
leaf_of P salt hidden roots e = leaf_under (S P) salt e P.l (root_in (S P) roots e) (hidden_in P.l hidden e)

-- the path and the hidden party's commitment of repetition e
unfoldable pub shown_of : Params → List ℕ → List ℕ → List ℕ → ℕ → List ℕ
shown_of P salt hidden roots e = shown_under (S P) salt e P.l (root_in (S P) roots e) (hidden_in P.l hidden e)
