-- What is shown here is what algorithm 12 shows: with the signer's roots and hidden parties, the sections are those of its signature, and the leaves those of its seeds.
-- Assumes nothing.
use mathlib.Core.Path.{◌≡◌, refl, sym, ap, ap₂, ◌∙◌}
use mathlib.Core.List.{List, [], ◌++◌, flatten}
use Prim.Native.Nat.{ℕ, suc, ◌-◌, ◌≤◌}
use native.Mathlib.Omega.{arith}
use lib.ListN.{get_or}
use Rattle.sets.specs.Sets.{S}
use Rattle.sets.specs.declared.Params.{Params}
use Rattle.hashes.specs.Hashes.{commit}
use Rattle.tree.specs.Tree.{children, get_path}
use Rattle.forms.specs.Room.{hidden_in}
use Rattle.parties.specs.Repetition as repetition
use Rattle.parties.proofs.Numbered.{get_or-parties}
use Rattle.biscuit.specs.Room.{root_in}
use Rattle.biscuit.specs.Sign.{Signer, seeds, coms, hidden, opening, signed}
use Rattle.biscuit.specs.Signature.{repeated, shown}
use Rattle.biscuit.proofs.Repeated.{repeated-same}
use Rattle.biscuit.proofs.SignSized.{length-seeds, hidden_index}
use Rattle.opening.specs.Shown.{leaf_under, shown_under, leaf_of, shown_of}

module _ (P : Params) (signer : Signer) (msg bytes roots : List ℕ) where
  -- party h commits to its own seed
  own-commitment : (e h : ℕ) → 1 ≤ h → h ≡ hidden P signer msg e → commit (S P) signer.salt e h (get_or (seeds P signer e) (h - 1) []) ≡ get_or (coms P signer e) (h - 1) []
  unfolding coms repetition.coms repetition.com_of
  own-commitment e h f same =
      let n = length-seeds P signer msg e in
      let i = hidden_index P signer msg e in
      let below = i.below in
      ap (λ (k : ℕ). commit (S P) signer.salt e k (get_or (seeds P signer e) (h - 1) [])) (let t : h ≡ suc (h - 1) = omega arith in t)
      ∙ sym (get_or-parties (repetition.com_of P signer.salt e) (seeds P signer e) (h - 1) [] [] (omega arith))

  module _ (e : ℕ) (root : root_in (S P) roots e ≡ signer.root e) (same : hidden_in P.l bytes e ≡ hidden P signer msg e) where
    -- the hidden party's leaf
    pub leaf_signed : leaf_of P signer.salt bytes roots e ≡ get_or (seeds P signer e) (hidden P signer msg e - 1) []
    unfolding leaf_of leaf_under seeds
    leaf_signed = ap₂ (λ (r : List ℕ) (h : ℕ). leaf_under (S P) signer.salt e P.l r h) root same

    -- its path and commitment
    pub shown-signed : shown_of P signer.salt bytes roots e ≡ shown (opening P signer msg e)
    unfolding shown_of shown_under leaf_under seeds shown opening
    shown-signed =
        let from = (hidden_index P signer msg e).from_one in
        ap₂ (λ (r : List ℕ) (h : ℕ). shown_under (S P) signer.salt e P.l r h) root same
        ∙ ap (λ (c : List ℕ). flatten (get_path (children (S P) signer.salt e) P.l (signer.root e) (hidden P signer msg e)) ++ c) (own-commitment e (hidden P signer msg e) from refl)

  module _ (root : (e : ℕ) → 1 ≤ e → e ≤ P.tau → root_in (S P) roots e ≡ signer.root e) (same : (e : ℕ) → 1 ≤ e → e ≤ P.tau → hidden_in P.l bytes e ≡ hidden P signer msg e) where
    -- of all repetitions
    pub all_shown-signed : repeated P.tau (shown_of P signer.salt bytes roots) ≡ repeated P.tau (λ e. shown ((signed P signer msg).opening e))
    unfolding signed
    all_shown-signed =
        repeated-same P.tau (shown_of P signer.salt bytes roots) (λ e. shown (opening P signer msg e)) (λ e a b. shown-signed e (root e a b) (same e a b))
