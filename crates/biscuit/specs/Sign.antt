-- Signing: algorithm 12 of the submission, line by line. What one repetition computes from its seeds stands in the crate parties; here the repetitions are put together.
-- Assumes nothing.
use Rattle.std.specs.Prelude.{List, [], ◌++◌, ℕ, ◌+◌, ◌-◌, ◌*◌, get_or, take, drop}
use Rattle.sets.specs.Sets.{S}
use Rattle.sets.specs.declared.Params.{Params}
use Rattle.hashes.specs.Hashes.{hash1, hash2, prf}
use Rattle.tree.specs.Tree.{children, get_seeds, get_path}
use Rattle.forms.specs.Circuit.{Circuit}
use Rattle.parties.specs.Parties.{Share, alphas, vs}
use Rattle.parties.specs.Repetition as repetition
use Rattle.biscuit.specs.Keys.{SecretKey, circuit, secret_key_of}
use Rattle.biscuit.specs.Signature.{Opening, Signature, repeated, written}

-- what a signer has after line 5: the key, the salt and the roots
pub record Signer : Type 0 where
  pub key : SecretKey
  pub salt : List ℕ
  pub root : ℕ → List ℕ

module _ (P : Params) (signer : Signer) where
  -- ---- phase 1, for each repetition e

  -- line 3
  unfoldable pub f : Circuit
  f = circuit P signer.key.seed_f

  -- line 7: GetSeeds(root, salt, e, N)
  unfoldable pub seeds : ℕ → List (List ℕ)
  seeds e = get_seeds (children (S P) signer.salt e) P.l (signer.root e)

  -- line 9: the commitments of all parties
  unfoldable pub coms : ℕ → List (List ℕ)
  coms e = repetition.coms P signer.salt e (seeds e)

  -- lines 10 to 14: Δs
  unfoldable pub delta_s : ℕ → List ℕ
  delta_s e = repetition.delta_s P signer.salt e signer.key.s (seeds e)

  -- line 15: Δc
  unfoldable pub delta_c : ℕ → List ℕ
  delta_c e = repetition.delta_c P signer.salt e signer.key.y (seeds e)

  -- lines 16 and 17: the shares of all parties, corrected
  unfoldable pub shares : ℕ → List Share
  shares e = repetition.shares P signer.salt e signer.key.s signer.key.y (seeds e)

  -- line 22
  unfoldable pub σ₁ : List ℕ
  σ₁ = repeated P.tau (λ e. repetition.first (coms e) (delta_s e) (delta_c e))

  module _ (msg : List ℕ) where
    -- ---- phase 2. Line 23: H1(salt, msg, σ₁)
    unfoldable pub h₁ : List ℕ
    h₁ = hash1 (S P) signer.salt msg σ₁

    -- line 24: Expand(h₁, τ, F_16, m)
    unfoldable pub ε : ℕ → List ℕ
    ε e = repetition.challenge P h₁ e

    -- ---- phase 3. Lines 19 and 26 to 28: α of all parties
    unfoldable pub αs : ℕ → List (List ℕ)
    αs e = alphas f (ε e) (shares e)

    -- lines 19 and 29 to 32: v of all parties
    unfoldable pub all_v : ℕ → List (List ℕ)
    all_v e = vs f signer.key.t (ε e) (shares e)

    -- line 34
    unfoldable pub σ₂ : List ℕ
    σ₂ = repeated P.tau (λ e. repetition.second (αs e) (all_v e))

    -- ---- phase 4. Line 35: H2(salt, h₁, σ₂)
    unfoldable pub h₂ : List ℕ
    h₂ = hash2 (S P) signer.salt h₁ σ₂

    -- line 36: Expand(h₂, τ, [N], 1)
    unfoldable pub hidden : ℕ → ℕ
    hidden e = repetition.hidden_party P h₂ e

    -- ---- phase 5. Lines 38 and 40: the path, and the hidden party's commitment and α; party i is entry i - 1 of a list
    unfoldable pub opening : ℕ → Opening
    opening e = record {
      path = get_path (children (S P) signer.salt e) P.l (signer.root e) (hidden e);
      commitment = get_or (coms e) (hidden e - 1) [];
      Δs = delta_s e;
      Δc = delta_c e;
      α = get_or (αs e) (hidden e - 1) [];
    }

    -- line 40
    unfoldable pub signed : Signature
    signed = record { salt = signer.salt; h₁ = h₁; h₂ = h₂; opening = opening }

-- line 5: PRF(rnd ‖ sk ‖ msg, 2λ + τ·λ), with the secret key's bytes as given
unfoldable pub drawn : Params → List ℕ → List ℕ → List ℕ → List ℕ
drawn P sk rnd msg = prf (rnd ++ (sk ++ msg)) (2 * S P + P.tau * S P)

-- lines 2 and 5: salt, then root^(1), .., root^(τ)
unfoldable pub signer_of : Params → List ℕ → List ℕ → List ℕ → Signer
signer_of P sk rnd msg = record {
  key = secret_key_of P sk;
  salt = take (2 * S P) (drawn P sk rnd msg);
  root = λ e. take (S P) (drop (2 * S P + (e - 1) * S P) (drawn P sk rnd msg));
}

-- algorithm 12
unfoldable pub sign : Params → List ℕ → List ℕ → List ℕ → Signature
sign P sk rnd msg = signed P (signer_of P sk rnd msg) msg

-- algorithm 12, bytes to bytes
unfoldable pub signature : Params → List ℕ → List ℕ → List ℕ → List ℕ
signature P sk rnd msg = written P (sign P sk rnd msg)
