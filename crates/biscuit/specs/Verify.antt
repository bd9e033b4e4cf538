-- Verifying: algorithm 13 of the submission, line by line. What one repetition computes stands in the crate parties; here the repetitions are put together.
-- Assumes nothing.
use Rattle.std.specs.Prelude.{Bool, ◌&&◌, List, ℕ}
use Rattle.std.proofs.Math.Option.{Option}
use Rattle.memory.specs.Lists.{same}
use Rattle.sets.specs.Sets.{S}
use Rattle.sets.specs.declared.Params.{Params}
use Rattle.hashes.specs.Hashes.{hash1, hash2}
use Rattle.tree.specs.Tree.{children, get_path_seeds}
use Rattle.forms.specs.Circuit.{Circuit}
use Rattle.parties.specs.Parties.{Share}
use Rattle.parties.specs.Repetition as repetition
use Rattle.biscuit.specs.Keys.{PublicKey, circuit, public_key_of}
use Rattle.biscuit.specs.Signature.{Signature, repeated, extracted}

module _ (P : Params) (key : PublicKey) where
  -- line 3
  unfoldable pub f : Circuit
  f = circuit P key.seed_f

  module _ (σ : Signature) where
    -- line 5: Expand(h₁, τ, F_16, m)
    unfoldable pub ε : ℕ → List ℕ
    ε e = repetition.challenge P σ.h₁ e

    -- line 6: Expand(h₂, τ, [N], 1)
    unfoldable pub hidden : ℕ → ℕ
    hidden e = repetition.hidden_party P σ.h₂ e

    -- line 10: GetPathSeeds(path, salt, e, i, N); none for the hidden party
    unfoldable pub seeds : ℕ → List (Option (List ℕ))
    seeds e = get_path_seeds (children (S P) σ.salt e) P.l (σ.opening e).path (hidden e)

    -- line 12: the commitments of all parties, the hidden one's from the signature
    unfoldable pub coms : ℕ → List (List ℕ)
    coms e = repetition.all_coms P σ.salt e (σ.opening e).commitment (seeds e)

    -- lines 12 to 19: the shares of the other parties
    unfoldable pub shares : ℕ → List (Option Share)
    shares e = repetition.known_shares P σ.salt e (σ.opening e).Δs (σ.opening e).Δc (seeds e)

    -- lines 20 and 22 to 25: α of all parties, the hidden one's from the signature
    unfoldable pub αs : ℕ → List (List ℕ)
    αs e = repetition.all_alphas f (ε e) (σ.opening e).α (shares e)

    -- lines 20 and 26 to 30: v of all parties, the hidden one's minus the sum of the others
    unfoldable pub all_v : ℕ → List (List ℕ)
    all_v e = repetition.all_vs f key.t (ε e) (σ.opening e).α (shares e)

    -- line 32
    unfoldable pub σ₁ : List ℕ
    σ₁ = repeated P.tau (λ e. repetition.first (coms e) (σ.opening e).Δs (σ.opening e).Δc)

    -- line 34
    unfoldable pub σ₂ : List ℕ
    σ₂ = repeated P.tau (λ e. repetition.second (αs e) (all_v e))

    -- line 33: h₁' ← H1(salt, msg, σ₁)
    unfoldable pub h₁' : List ℕ → List ℕ
    h₁' msg = hash1 (S P) σ.salt msg σ₁

    -- line 35: h₂' ← H2(salt, h₁, σ₂), with the signature's h₁
    unfoldable pub h₂' : List ℕ
    h₂' = hash2 (S P) σ.salt σ.h₁ σ₂

    -- line 36: the two comparisons
    unfoldable pub first_agrees : List ℕ → Bool
    first_agrees msg = same σ.h₁ (h₁' msg)

    unfoldable pub second_agrees : Bool
    second_agrees = same σ.h₂ h₂'

    -- lines 36 to 39: valid where both agree
    unfoldable pub valid : List ℕ → Bool
    valid msg = first_agrees msg && second_agrees

-- algorithm 13, bytes to bytes
unfoldable pub accepts : Params → List ℕ → List ℕ → List ℕ → Bool
accepts P pk msg sig = valid P (public_key_of P pk) (extracted P sig) msg
