-- Every signature is accepted, bytes to bytes: what is laid out is read back, the path and the hidden number rebuild the leaves, the hidden v is the sum of the
-- others, and so both hashes come out again. First over any parameters with at least two parties, then for the six sets. Assumes nothing.
use mathlib.Core.Path.{◌≡◌, ap, ap₂, ◌∙◌}
use mathlib.Core.Bool.{true, ◌&&◌}
use mathlib.Core.List.{List}
use Prim.Native.Nat.{ℕ, ◌*◌, ◌≤◌, ◌<◌}
use native.Mathlib.Omega.{arith}
use lib.Dec.{lit<}
use lib.ListN.{length}
use Rattle.memory.specs.Lists.{same}
use Rattle.sets.specs.Sets.{S, rows, params_of, secret_key_length, signature_length}
use Rattle.sets.specs.declared.Params.{Params}
use Rattle.sets.proofs.Laws.{each_row}
use Rattle.hashes.specs.Hashes.{hash1, hash2}
use Rattle.tree.specs.Tree.{children, get_path_seeds}
use Rattle.forms.specs.Circuit.{Consistent}
use Rattle.parties.specs.Repetition.{first, second, challenge, hidden_party, known_shares, all_coms, all_alphas, all_vs}
use Rattle.biscuit.specs.Keys.{PublicKey, circuit, public_of, secret_key_of, consistent_key, public_half}
use Rattle.biscuit.specs.Signature.{Opening, Signature, written, extracted}
use Rattle.biscuit.specs.Sign.{Signer, signed, signer_of, sign, signature}
use Rattle.biscuit.specs.Verify as verify
use Rattle.biscuit.specs.Verify.{valid, accepts}
use Rattle.biscuit.proofs.Repeated.{repeated-same}
use Rattle.biscuit.proofs.Written.{length-written}
use Rattle.biscuit.proofs.ReadBack.{Agree, extracted-written}
use Rattle.biscuit.proofs.Keys.{SizedKey, secret_key_of-sized, public_key_of-public_half, consistent_true}
use Rattle.biscuit.proofs.SignSized.{signed-sized, sign-sized, length-salt}
use Rattle.biscuit.proofs.Accepted.{valid_what_is_signed}

-- ---- verifying goes by what is laid out

abbrev of_parts : List ℕ → List ℕ → List ℕ → (ℕ → Opening) → Signature
of_parts salt h₁ h₂ opening = record { salt = salt; h₁ = h₁; h₂ = h₂; opening = opening }

module _ (P : Params) (key : PublicKey) (salt h₁ h₂ : List ℕ) (o p : ℕ → Opening) (agree : (e : ℕ) → 1 ≤ e → e ≤ P.tau → o e ≡ p e) where
  first_agrees_lem : verify.σ₁ P key (of_parts salt h₁ h₂ o) ≡ verify.σ₁ P key (of_parts salt h₁ h₂ p)
  unfolding verify.σ₁ verify.coms verify.seeds verify.hidden
  first_agrees_lem =
      repeated-same P.tau _ _
      (λ e a b. ap (λ (q : Opening).
      first (all_coms P salt e q.commitment (get_path_seeds (children (S P) salt e) P.l q.path (hidden_party P h₂ e))) q.Δs q.Δc)
      (agree e a b))

  second_agrees_lem : verify.σ₂ P key (of_parts salt h₁ h₂ o) ≡ verify.σ₂ P key (of_parts salt h₁ h₂ p)
  unfolding verify.σ₂ verify.αs verify.all_v verify.shares verify.seeds verify.hidden verify.ε verify.f
  second_agrees_lem =
      repeated-same P.tau _ _
      (λ e a b. ap (λ (q : Opening).
      let held = known_shares P salt e q.Δs q.Δc (get_path_seeds (children (S P) salt e) P.l q.path (hidden_party P h₂ e)) in
      second (all_alphas (circuit P key.seed_f) (challenge P h₁ e) q.α held)
      (all_vs (circuit P key.seed_f) key.t (challenge P h₁ e) q.α held))
      (agree e a b))

  valid_agrees : (msg : List ℕ) → valid P key (of_parts salt h₁ h₂ o) msg ≡ valid P key (of_parts salt h₁ h₂ p) msg
  unfolding valid verify.first_agrees verify.second_agrees verify.h₁' verify.h₂'
  valid_agrees msg =
      ap₂ (λ (σ₁ σ₂ : List ℕ). same h₁ (hash1 (S P) salt msg σ₁) && same h₂ (hash2 (S P) salt h₁ σ₂)) first_agrees_lem second_agrees_lem

-- signatures that agree in all that is laid out are both accepted or both refused
pub agree_valid : (P : Params) (key : PublicKey) (σ σ' : Signature) (msg : List ℕ) → Agree P σ σ' → valid P key σ msg ≡ valid P key σ' msg
agree_valid P key σ σ' msg g =
    let head : of_parts σ.salt σ.h₁ σ.h₂ σ.opening ≡ of_parts σ'.salt σ'.h₁ σ'.h₂ σ.opening = cc (g.salt, g.h₁, g.h₂) in
    ap (λ (s : Signature). valid P key s msg) head
    ∙ valid_agrees P key σ'.salt σ'.h₁ σ'.h₂ σ.opening σ'.opening g.opening msg

-- ---- every signature is accepted

-- What any signer writes is accepted: for a consistent key, a salt of 2S bytes and whatever roots, what is read from the bytes passes.
pub verify_accepts_what_sign_writes : (P : Params) (signer : Signer) (msg : List ℕ) → 0 < P.l → SizedKey P signer.key → length signer.salt ≡ 2 * S P
    → Consistent (circuit P signer.key.seed_f) signer.key.s signer.key.t signer.key.y
    → valid P (public_of signer.key) (extracted P (written P (signed P signer msg))) msg ≡ true
verify_accepts_what_sign_writes P signer msg two key salt c =
    agree_valid P (public_of signer.key) (extracted P (written P (signed P signer msg))) (signed P signer msg) msg
    (extracted-written P (signed P signer msg) (signed-sized P signer msg key salt))
    ∙ valid_what_is_signed P signer msg two key.s c

pub length-signature : (P : Params) (sk rnd msg : List ℕ) → length sk ≡ secret_key_length P → length (signature P sk rnd msg) ≡ signature_length P
unfolding signature
length-signature P sk rnd msg h = length-written P (sign P sk rnd msg) (sign-sized P sk rnd msg h)

-- Every signature of a consistent secret key is accepted under its public half, for the same message: bytes to bytes, whatever random bytes were lent.
pub genuine_what_is_signed : (P : Params) (sk rnd msg : List ℕ) → 0 < P.l → length sk ≡ secret_key_length P → consistent_key P sk ≡ true
    → accepts P (public_half P sk) msg (signature P sk rnd msg) ≡ true
unfolding accepts signature sign signer_of consistent_key
genuine_what_is_signed P sk rnd msg two h c =
    ap (λ (key : PublicKey). valid P key (extracted P (signature P sk rnd msg)) msg) (public_key_of-public_half P sk h)
    ∙ verify_accepts_what_sign_writes P (signer_of P sk rnd msg) msg two (secret_key_of-sized P sk h) (length-salt P sk rnd msg)
    (consistent_true P (secret_key_of P sk) c)

-- ---- the six sets

pub two_parties_lem : (set : ℕ) → 1 ≤ set → set ≤ 6 → 0 < (params_of set).l
unfolding params_of rows
two_parties_lem set a b =
    each_row (λ (i : ℕ). 1 ≤ i → 0 < (params_of i).l) (λ h. absurd (omega arith))
    (λ h. lit< tt) (λ h. lit< tt) (λ h. lit< tt) (λ h. lit< tt) (λ h. lit< tt) (λ h. lit< tt) set (omega arith) a

-- The same for each of the six sets.
pub genuine_in_every_set : (set : ℕ) (sk rnd msg : List ℕ) → 1 ≤ set → set ≤ 6
    → length sk ≡ secret_key_length (params_of set) → consistent_key (params_of set) sk ≡ true
    → accepts (params_of set) (public_half (params_of set) sk) msg (signature (params_of set) sk rnd msg) ≡ true
genuine_in_every_set set sk rnd msg a b h c = genuine_what_is_signed (params_of set) sk rnd msg (two_parties_lem set a b) h c
