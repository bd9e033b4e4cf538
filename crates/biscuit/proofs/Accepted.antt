-- Verifying accepts what signing gives, before bytes: both hashes come out again, for a consistent key and at least two parties.
-- Assumes nothing.
use mathlib.Core.Path.{◌≡◌, sym, ap, ap₂, ◌∙◌}
use mathlib.Core.Bool.{true, ◌&&◌}
use mathlib.Core.List.{List, []}
use mathlib.Core.Option.{Option}
use Prim.Native.Nat.{ℕ, zero, suc, ◌-◌, ◌%◌, ◌^◌, ◌<◌}
use native.Mathlib.Nat.{pow-succ'}
use native.Mathlib.Omega.{arith}
use lib.ListN.{length, get_or}
use Rattle.memory.proofs.Comparing.{equal_same}
use Rattle.sets.specs.Sets.{S}
use Rattle.sets.specs.declared.Params.{Params}
use Rattle.hashes.specs.Hashes.{hash1, hash2}
use Rattle.tree.specs.Tree.{children}
use Rattle.forms.specs.Circuit.{Consistent}
use Rattle.forms.proofs.Circuit.{expand_circuit-equations}
use Rattle.parties.specs.Repetition as repetition
use Rattle.parties.proofs.PathSeeds.{honest_path-seeds}
use Rattle.parties.proofs.KnownIsSigned.{first_is_signed, second_is_signed}
use Rattle.biscuit.specs.Keys.{PublicKey, circuit, public_of}
use Rattle.biscuit.specs.Signature.{Signature}
use Rattle.biscuit.specs.Sign as sign
use Rattle.biscuit.specs.Sign.{Signer, signed}
use Rattle.biscuit.specs.Verify as verify
use Rattle.biscuit.specs.Verify.{valid}
use Rattle.biscuit.proofs.Repeated.{repeated-same}
use Rattle.biscuit.proofs.SignSized.{length-seeds, hidden_index}

-- a power of two is even, but for the first
even_power : (l : ℕ) → 0 < l → 2 ^ l % 2 ≡ 0
even_power zero h = absurd (omega arith)
even_power (suc l) h = let e = pow-succ' 2 l in omega arith

module _ (P : Params) (signer : Signer) (msg : List ℕ)
    (two : 0 < P.l) (n : length signer.key.s ≡ P.n)
    (consistent : Consistent (circuit P signer.key.seed_f) signer.key.s signer.key.t signer.key.y) where
  σ : Signature
  σ = signed P signer msg

  key : PublicKey
  key = public_of signer.key

  -- the path gives the signer's seeds, but for the hidden party's
  seeds_again : (e : ℕ) → verify.seeds P key σ e ≡ repetition.left_out (sign.hidden P signer msg e) (sign.seeds P signer e)
  unfolding σ key verify.seeds verify.hidden signed sign.opening sign.seeds sign.hidden
  seeds_again e =
      let index = hidden_index P signer msg e in
      honest_path-seeds (children (S P) signer.salt e) P.l (sign.hidden P signer msg e) index.below index.from_one (signer.root e)

  first_again : (e : ℕ) →
      repetition.first (verify.coms P key σ e) (sign.delta_s P signer e) (sign.delta_c P signer e)
      ≡ repetition.first (sign.coms P signer e) (sign.delta_s P signer e) (sign.delta_c P signer e)
  unfolding σ verify.coms signed sign.opening sign.coms
  first_again e =
      ap (λ (known : List (Option (List ℕ))). repetition.first (repetition.all_coms P signer.salt e (get_or (sign.coms P signer e) (sign.hidden P signer msg e - 1) []) known) (sign.delta_s P signer e) (sign.delta_c P signer e)) (seeds_again e)
      ∙ first_is_signed P signer.salt e (sign.delta_s P signer e) (sign.delta_c P signer e) (sign.hidden P signer msg e) (sign.seeds P signer e)

  second_again : (e : ℕ) →
      repetition.second (verify.αs P key σ e) (verify.all_v P key σ e) ≡ repetition.second (sign.αs P signer msg e) (sign.all_v P signer msg e)
  unfolding σ key public_of circuit verify.f verify.ε verify.αs verify.all_v verify.shares signed sign.f sign.ε sign.opening sign.αs sign.all_v sign.shares sign.delta_s sign.delta_c
  second_again e =
      let index = hidden_index P signer msg e in
      let count = length-seeds P signer msg e in
      let even = even_power P.l two in
      let α = get_or (sign.αs P signer msg e) (sign.hidden P signer msg e - 1) [] in
      ap (λ (known : List (Option (List ℕ))).
      let held = repetition.known_shares P signer.salt e (sign.delta_s P signer e) (sign.delta_c P signer e) known in
      repetition.second (repetition.all_alphas (sign.f P signer) (sign.ε P signer msg e) α held) (repetition.all_vs (sign.f P signer) signer.key.t (sign.ε P signer msg e) α held))
      (seeds_again e)
      ∙ second_is_signed P signer.salt e (sign.f P signer) signer.key.s signer.key.t signer.key.y (sign.ε P signer msg e) (sign.hidden P signer msg e) (sign.seeds P signer e)
      index.from_one (let b = index.below in omega arith) (omega arith)
      (expand_circuit-equations signer.key.seed_f P.n P.m) consistent n

  -- Both hashes come out again.
  pub first_hash_again : verify.h₁' P (public_of signer.key) (signed P signer msg) msg ≡ sign.h₁ P signer msg
  unfolding σ key signed sign.opening verify.h₁' verify.σ₁ sign.h₁ sign.σ₁
  first_hash_again = ap (hash1 (S P) signer.salt msg) (repeated-same P.tau _ _ (λ e a b. first_again e))

  pub second_hash_again : verify.h₂' P (public_of signer.key) (signed P signer msg) ≡ sign.h₂ P signer msg
  unfolding σ key signed verify.h₂' verify.σ₂ sign.h₂ sign.σ₂
  second_hash_again = ap (hash2 (S P) signer.salt (sign.h₁ P signer msg)) (repeated-same P.tau _ _ (λ e a b. second_again e))

  -- Verifying accepts what signing gives, whatever salt and roots the signer has.
  pub valid_what_is_signed : valid P (public_of signer.key) (signed P signer msg) msg ≡ true
  unfolding σ key signed valid verify.first_agrees verify.second_agrees
  valid_what_is_signed = ap₂ ◌&&◌ (equal_same _ _ (sym first_hash_again)) (equal_same _ _ (sym second_hash_again))
