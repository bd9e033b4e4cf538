-- Phases 3 and 5 of signing over all repetitions: what a signer of algorithm 12 has after phases 2 and 4, as it is lent, and what one repetition takes from it. Assumes nothing.
use Rattle.std.specs.Prelude.{◌≡◌, ℕ, ◌+◌, ◌-◌, ◌*◌, ◌≤◌, take, drop, replicate}
use mathlib.Core.List.{List, ◌++◌, flatten}
use Rattle.sets.specs.Sets.{S}
use Rattle.sets.specs.declared.Params.{Params}
use Rattle.forms.specs.Circuit.{Circuit}
use Rattle.forms.specs.Room.{HoldsCircuit, challenge_in, hidden_in}
use Rattle.parties.specs.Parties.{corrected, alpha_of}
use Rattle.parties.specs.Repetition.{raw_share}
use Rattle.group.specs.Shares as shares
use Rattle.answers.specs.Answers.{shares_of, answered}
use Rattle.vectors.specs.Elements.{elements_at}
use Rattle.biscuit.specs.Sign.{Signer, f, ε, hidden}
use Rattle.biscuit.specs.Room.{leaves_at, roots_at, challenges_at, root_in}
use Rattle.reps.specs.Reps.{rep_of}
use Rattle.passes.specs.Passes.{seeds_in, t_in, HoldsSecret, HoldsCorrections}

-- ---- what is lent

-- the bytes begin with the challenges of all repetitions
unfoldable pub HoldsChallenges : Params → Signer → List ℕ → List ℕ → Type 0
HoldsChallenges P signer msg challenges = (e : ℕ) → 1 ≤ e → e ≤ P.tau → challenge_in P.m challenges e ≡ ε P signer msg e

-- after phase 2: the secret and the salt, the circuit, the challenges, and the corrections of all repetitions
pub record Challenged (P : Params) (signer : Signer) (msg salt secret packing work : List ℕ) : Type 0 where
  pub held : HoldsSecret P signer salt secret
  pub circuit : HoldsCircuit P.n P.m (f P signer) (take (leaves_at P) work)
  pub challenges : HoldsChallenges P signer msg (drop (challenges_at P) work)
  pub corrections : HoldsCorrections P signer P.tau packing

-- after phase 4: a byte for each repetition gives its hidden party
unfoldable pub HoldsHidden : Params → Signer → List ℕ → List ℕ → Type 0
HoldsHidden P signer msg bytes = (e : ℕ) → 1 ≤ e → e ≤ P.tau → hidden_in P.l bytes e ≡ hidden P signer msg e

-- ---- one repetition

-- Δs, Δc, the challenge and t of repetition e, and no given α
unfoldable pub values_in : Params → ℕ → List ℕ → List ℕ → List ℕ → List ℕ
values_in P e secret packing challenges =
    elements_at packing ((e - 1) * (P.n + P.m)) (P.n + P.m) ++ (challenge_in P.m challenges e ++ (t_in P secret ++ replicate P.m 0))

-- lines 26 to 34: what the second hash takes
unfoldable pub answers_in : Params → Circuit → ℕ → List ℕ → List ℕ → List ℕ → List ℕ
answers_in P f e salt values leaves = answered f (rep_of P e 0) values (shares_of P (rep_of P e 0) salt leaves values)

-- the same from what is lent: the values, and the leaves of the repetition's root
abbrev pub answers_of : Params → Circuit → ℕ → List ℕ → List ℕ → List ℕ → List ℕ → List ℕ
answers_of P f e salt secret packing work =
    answers_in P f e salt (values_in P e secret packing (drop (challenges_at P) work)) (flatten (seeds_in P salt (drop (roots_at P) work) e))

-- line 27: the α of party i
unfoldable pub alpha_in : Params → Circuit → ℕ → ℕ → List ℕ → List ℕ → List ℕ → List ℕ
alpha_in P f e i salt values leaf =
    alpha_of f (shares.epsilon (rep_of P e 0) values) i (corrected (shares.delta_s (rep_of P e 0) values) (shares.delta_c (rep_of P e 0) values) i (raw_share P salt e i leaf))

-- line 38: that of the hidden party, from what is lent; its leaf stands where the root was
abbrev pub alpha_shown : Params → Circuit → ℕ → List ℕ → List ℕ → List ℕ → List ℕ → List ℕ → List ℕ
alpha_shown P f e salt secret hidden packing work =
    alpha_in P f e (hidden_in P.l hidden e) salt (values_in P e secret packing (drop (challenges_at P) work)) (root_in (S P) (drop (roots_at P) work) e)

-- ---- the packing of a signature

-- where the hidden α of repetition e lies, in half bytes: behind all corrections
unfoldable pub alpha_at : Params → ℕ → ℕ
alpha_at P e = P.tau * (P.n + P.m) + (e - 1) * P.m
