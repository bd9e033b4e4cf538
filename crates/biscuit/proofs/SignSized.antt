-- What signing writes has its sizes: every part of a signature that algorithm 12 gives is as long as the layout wants it, and its vectors are of elements.
-- Assumes nothing.
use mathlib.Core.Path.{◌≡◌, ap, ◌∙◌}
use mathlib.Core.List.{List, [], ◌++◌}
use Prim.Native.Nat.{ℕ, suc, ◌+◌, ◌-◌, ◌*◌, ◌^◌, ◌<◌}
use native.Mathlib.Omega.{arith}
use lib.ListN.{length, get_or}
use lib.Seq.{length-take-le}
use Rattle.sponge.proofs.Laws.{length-shake256}
use Rattle.sets.specs.Sets.{S, secret_key_length}
use Rattle.sets.specs.declared.Params.{Params}
use Rattle.hashes.specs.Hashes.{hash1, hash2, prf}
use Rattle.hashes.proofs.Laws.{length-commit}
use Rattle.tree.specs.Tree.{children}
use Rattle.tree.proofs.Theorems.{length-get_seeds, length-get_path}
use Rattle.tree.proofs.Walking.{each_get_path}
use Rattle.forms.proofs.Sampling.{Index, expand_index_index}
use Rattle.forms.proofs.Circuit.{expand_circuit-equations}
use Rattle.parties.specs.Repetition as repetition
use Rattle.parties.proofs.Numbered.{get_or-parties}
use Rattle.parties.proofs.Sizes.{each_alpha, length-alphas, length-entry}
use Rattle.parties.proofs.Corrections.{length-delta_s, length-delta_c, length-shares, shares-sized}
use Rattle.parties.proofs.ShareElements.{delta_s-elements, delta_c-elements, shares-elements, alphas-elements}
use Rattle.biscuit.specs.Keys.{circuit}
use Rattle.biscuit.specs.Sign.{Signer, f, seeds, coms, delta_s, delta_c, shares, h₁, ε, αs, h₂, hidden, opening, signed, drawn, signer_of, sign}
use Rattle.biscuit.proofs.Keys.{SizedKey, secret_key_of-sized}
use Rattle.biscuit.proofs.Written.{SizedOpening, SizedSignature}

-- ---- the commitments of one repetition

module _ (P : Params) (salt : List ℕ) (e : ℕ) (seeds : List (List ℕ)) where
  length_com : (k : ℕ) → k < length seeds → length (get_or (repetition.coms P salt e seeds) k []) ≡ 2 * S P
  unfolding repetition.coms repetition.com_of
  length_com k h = ap length (get_or-parties (repetition.com_of P salt e) seeds k [] [] h) ∙ length-commit (S P) salt e (suc k) (get_or seeds k [])

-- ---- a signature

module _ (P : Params) (signer : Signer) (msg : List ℕ) where
  pub length-seeds : (e : ℕ) → length (seeds P signer e) ≡ 2 ^ P.l
  unfolding seeds
  length-seeds e = length-get_seeds (children (S P) signer.salt e) P.l (signer.root e)

  -- the hidden party is one of the N
  pub hidden_index : (e : ℕ) → Index P.l (hidden P signer msg e)
  unfolding hidden repetition.hidden_party
  hidden_index e = expand_index_index (h₂ P signer msg) P.l e

  module _ (key : SizedKey P signer.key) where
    opening-sized : (e : ℕ) → SizedOpening P (opening P signer msg e)
    unfolding opening coms delta_s delta_c αs shares f circuit
    opening-sized e =
        let kids = children (S P) signer.salt e in
        let h = hidden P signer msg e in
        let count = length-seeds e in
        let index = hidden_index e in
        let s = signer.key.s in
        let y = signer.key.y in
        let ps = repetition.shares P signer.salt e s y (seeds P signer e) in
        let equations = expand_circuit-equations signer.key.seed_f P.n P.m in
        let some-seed : 0 < length (seeds P signer e) = (let b = index.below in omega arith) in
        let among : h - 1 < length (seeds P signer e) = (let b = index.below in omega arith) in
        record {
          levels = length-get_path kids P.l (signer.root e) h;
          seeds = each_get_path (S P) signer.salt e P.l (signer.root e) h;
          commitment = length_com P signer.salt e (seeds P signer e) (h - 1) among;
          Δs = length-delta_s P signer.salt e s (seeds P signer e) key.s;
          Δc = length-delta_c P signer.salt e y (seeds P signer e) some-seed key.y;
          α = length-entry (h - 1)
              (let a = length-alphas (f P signer) (ε P signer msg e) ps in let b = length-shares P signer.salt e s y (seeds P signer e) in omega arith)
              (each_alpha P.n P.m (f P signer) (ε P signer msg e) ps equations (shares-sized P signer.salt e s y (seeds P signer e) key.s key.y));
          Δs-elements = delta_s-elements P signer.salt e s (seeds P signer e) key.s-elements;
          Δc-elements = delta_c-elements P signer.salt e y (seeds P signer e);
          α-elements = alphas-elements (f P signer) (ε P signer msg e) ps (shares-elements P signer.salt e s y (seeds P signer e) key.s-elements) (h - 1);
        }

    -- Whatever salt of 2S bytes and whatever roots a signer has, the signature has its sizes.
    pub signed-sized : length signer.salt ≡ 2 * S P → SizedSignature P (signed P signer msg)
    unfolding signed h₁ h₂ hash1 hash2
    signed-sized salt = record {
      salt = salt;
      h₁ = length-shake256 _ (2 * S P);
      h₂ = length-shake256 _ (2 * S P);
      opening = λ e a b. opening-sized e;
    }

-- the salt that is drawn has 2S bytes
pub length-salt : (P : Params) (sk rnd msg : List ℕ) → length (signer_of P sk rnd msg).salt ≡ 2 * S P
unfolding signer_of drawn prf
length-salt P sk rnd msg = length-take-le (2 * S P) _ (let l = length-shake256 (rnd ++ (sk ++ msg)) (2 * S P + P.tau * S P) in omega arith)

-- What signing gives has its sizes, for every secret key of the right length.
pub sign-sized : (P : Params) (sk rnd msg : List ℕ) → length sk ≡ secret_key_length P → SizedSignature P (sign P sk rnd msg)
unfolding sign signer_of
sign-sized P sk rnd msg h = signed-sized P (signer_of P sk rnd msg) msg (secret_key_of-sized P sk h) (length-salt P sk rnd msg)
