-- What phase 1 of signing is lent and leaves over all repetitions: the secret and the roots that a signer of algorithm 12 has, the corrections as they lie in the packing of a
-- signature, and the parts of work that stay. Assumes nothing.
use Rattle.std.specs.Prelude.{◌≡◌, List, ◌++◌, ℕ, ◌+◌, ◌-◌, ◌*◌, ◌≤◌, take, drop}
use Rattle.sponge.specs.declared.Sponge.{Sponge}
use Rattle.sponge.specs.Steps.{absorbed}
use Rattle.sets.specs.Sets.{S}
use Rattle.sets.specs.declared.Params.{Params}
use Rattle.tree.specs.Tree.{children, get_seeds}
use Rattle.parties.specs.Repetition as repetition
use Rattle.vectors.specs.Elements.{elements_at, elements_put}
use Rattle.biscuit.specs.Sign.{Signer, delta_s, delta_c}
use Rattle.biscuit.specs.Room.{leaves_at, roots_at, root_in}

-- ---- what is lent

-- algorithm 12, line 7: the seeds of all parties of repetition e
unfoldable pub seeds_in : Params → List ℕ → List ℕ → ℕ → List (List ℕ)
seeds_in P salt roots e = get_seeds (children (S P) salt e) P.l (root_in (S P) roots e)

-- s, t and y of a secret's elements
unfoldable pub s_in : Params → List ℕ → List ℕ
s_in P secret = take P.n secret

unfoldable pub t_in : Params → List ℕ → List ℕ
t_in P secret = take P.m (drop P.n secret)

unfoldable pub y_in : Params → List ℕ → List ℕ
y_in P secret = take P.m (drop (P.n + P.m) secret)

-- the salt and the elements s, t and y, one to a byte, are those of the signer
pub record HoldsSecret (P : Params) (signer : Signer) (salt secret : List ℕ) : Type 0 where
  pub salted : signer.salt ≡ salt
  pub s : signer.key.s ≡ s_in P secret
  pub t : signer.key.t ≡ t_in P secret
  pub y : signer.key.y ≡ y_in P secret

-- the bytes begin with the roots of all repetitions
unfoldable pub HoldsRoots : Params → Signer → List ℕ → Type 0
HoldsRoots P signer roots = (e : ℕ) → 1 ≤ e → e ≤ P.tau → signer.root e ≡ root_in (S P) roots e

-- ---- the packing of a signature

-- the corrections of the repetitions up to `count`, each from the half byte (e - 1)(n + m) on
unfoldable pub HoldsCorrections : Params → Signer → ℕ → List ℕ → Type 0
HoldsCorrections P signer count packing =
    (e : ℕ) → 1 ≤ e → e ≤ count → elements_at packing ((e - 1) * (P.n + P.m)) (P.n + P.m) ≡ delta_s P signer e ++ delta_c P signer e

-- ---- work

-- the circuit, the roots and the challenges stay
pub record Kept (P : Params) (before after : List ℕ) : Type 0 where
  pub circuit : take (leaves_at P) after ≡ take (leaves_at P) before
  pub roots : drop (roots_at P) after ≡ drop (roots_at P) before

-- ---- one repetition, from the seeds of all parties

-- lines 9 to 22: what the first hash takes
unfoldable pub first_in : Params → List ℕ → List ℕ → ℕ → List (List ℕ) → List ℕ
first_in P salt secret e seeds =
    repetition.first (repetition.coms P salt e seeds) (repetition.delta_s P salt e (s_in P secret) seeds) (repetition.delta_c P salt e (y_in P secret) seeds)

-- lines 14 and 15: Δs, and Δc behind it
unfoldable pub corrections_in : Params → List ℕ → List ℕ → ℕ → List (List ℕ) → List ℕ
corrections_in P salt secret e seeds = repetition.delta_s P salt e (s_in P secret) seeds ++ repetition.delta_c P salt e (y_in P secret) seeds

-- the first hash before and after, and the corrections put from the half byte (e - 1)(n + m) of the packing on; every other half byte stays
pub record Committed (P : Params) (e : ℕ) (salt secret : List ℕ) (seeds : List (List ℕ)) (before after : Sponge) (old new : List ℕ) : Type 0 where
  pub hashed : after ≡ absorbed before (first_in P salt secret e seeds)
  pub placed : new ≡ elements_put (corrections_in P salt secret e seeds) ((e - 1) * (P.n + P.m)) old
