-- Each ending of each call, whole: what the outcome is where sizes refuse, where the key is not consistent or the signature not accepted, and where the call is done.
-- Assumes nothing.
use mathlib.Core.Path.{◌≡◌, sym, ap, ◌∙◌}
use mathlib.Core.Bool.{Bool, true, false, cond}
use mathlib.Core.List.{List}
use Prim.Native.Nat.{ℕ}
use native.Mathlib.Omega.{arith}
use lib.ListN.{length}
use Rattle.memory.specs.Lists.{over}
use Rattle.sets.specs.Sets.{params_of}
use Rattle.biscuit.specs.Keys.{secret_key, public_key, consistent_key, public_half}
use Rattle.biscuit.specs.Sign.{signature}
use Rattle.biscuit.specs.Verify.{accepts}
use Rattle.refusals.specs.Refusals.{make_keys_sizes, public_half_sizes, sign_sizes, verify_sizes, cleared, work_after, output_after}
use Rattle.biscuit.specs.Desk.{key_number, accept_number, MakeKeysOutcome, make_keys_ended, make_keys_number, make_keys_outcome, PublicHalfOutcome, public_half_ended, public_half_number, public_half_outcome, SignOutcome, sign_ended, sign_number, sign_outcome, VerifyOutcome, verify_ended, verify_number, verify_outcome}
use Rattle.refusals.proofs.Lent.{work_after_refused, output_after_refused}
use Rattle.refusals.proofs.Refusals.{make_keys_at_most, public_half_at_most, sign_at_most, verify_at_most, or_else_right, or_else_refused}

-- ---- numbers

-- the number where the sizes are right
pub key_number-consistent : (set : ℕ) (sk : List ℕ) → consistent_key (params_of set) sk ≡ true → key_number set sk ≡ 0
unfolding key_number
key_number-consistent set sk e = ap (λ (b : Bool). cond b 0 8) e

pub key_number_inconsistent : (set : ℕ) (sk : List ℕ) → consistent_key (params_of set) sk ≡ false → key_number set sk ≡ 8
unfolding key_number
key_number_inconsistent set sk e = ap (λ (b : Bool). cond b 0 8) e

pub accept_number_accepted : (set : ℕ) (pk msg sig : List ℕ) → accepts (params_of set) pk msg sig ≡ true → accept_number set pk msg sig ≡ 0
unfolding accept_number
accept_number_accepted set pk msg sig e = ap (λ (b : Bool). cond b 0 9) e

pub accept_number_refused : (set : ℕ) (pk msg sig : List ℕ) → accepts (params_of set) pk msg sig ≡ false → accept_number set pk msg sig ≡ 9
unfolding accept_number
accept_number_refused set pk msg sig e = ap (λ (b : Bool). cond b 0 9) e

-- ---- make keys

module _ (set : ℕ) (circuit_seed secret_seed skBefore pkBefore workBefore : List ℕ) where
  make_keys_after : ℕ → MakeKeysOutcome
  make_keys_after number = record {
    number = number;
    secret_key = output_after number (secret_key (params_of set) circuit_seed secret_seed) skBefore;
    public_key = output_after number (public_key (params_of set) circuit_seed secret_seed) pkBefore;
    work = work_after number workBefore;
  }

  pub make_keys_refused : (number : ℕ) → number ≡ make_keys_sizes set (length circuit_seed) (length secret_seed) (length skBefore) (length pkBefore) (length workBefore)
      → (number ≡ 0 → ⊥)
      → make_keys_ended number skBefore pkBefore workBefore
      ≡ make_keys_outcome set circuit_seed secret_seed skBefore pkBefore workBefore
  unfolding make_keys_outcome make_keys_number make_keys_after
  make_keys_refused number e n =
      let small = make_keys_at_most set (length circuit_seed) (length secret_seed) (length skBefore) (length pkBefore) (length workBefore) in
      let sk = output_after_refused number (secret_key (params_of set) circuit_seed secret_seed) skBefore n in
      let pk = output_after_refused number (public_key (params_of set) circuit_seed secret_seed) pkBefore n in
      let work = work_after_refused number workBefore (omega arith) (omega arith) in
      let ended : make_keys_ended number skBefore pkBefore workBefore ≡ make_keys_after number = cc (sk, pk, work) in
      ended ∙ ap make_keys_after e

  pub make_keys_done : make_keys_sizes set (length circuit_seed) (length secret_seed) (length skBefore) (length pkBefore) (length workBefore) ≡ 0
      → make_keys_ended 0
      (over (secret_key (params_of set) circuit_seed secret_seed) skBefore) (over (public_key (params_of set) circuit_seed secret_seed) pkBefore) (cleared workBefore)
      ≡ make_keys_outcome set circuit_seed secret_seed skBefore pkBefore workBefore
  unfolding make_keys_outcome make_keys_number make_keys_after output_after work_after
  make_keys_done e = ap make_keys_after (sym e)

-- ---- public half

module _ (set : ℕ) (sk pkBefore workBefore : List ℕ) where
  public_half_after : ℕ → PublicHalfOutcome
  public_half_after number = record {
    number = number;
    public_key = output_after number (public_half (params_of set) sk) pkBefore;
    work = work_after number workBefore;
  }

  pub public_half_refused : (number : ℕ) → number ≡ public_half_sizes set (length sk) (length pkBefore) (length workBefore) → (number ≡ 0 → ⊥)
      → public_half_ended number pkBefore workBefore ≡ public_half_outcome set sk pkBefore workBefore
  unfolding public_half_outcome public_half_number public_half_after
  public_half_refused number e n =
      let small = public_half_at_most set (length sk) (length pkBefore) (length workBefore) in
      let pk = output_after_refused number (public_half (params_of set) sk) pkBefore n in
      let work = work_after_refused number workBefore (omega arith) (omega arith) in
      let ended : public_half_ended number pkBefore workBefore ≡ public_half_after number = cc (pk, work) in
      ended ∙ ap public_half_after (e ∙ sym (or_else_refused _ _ (λ z. n (e ∙ z))))

  pub public_half_inconsistent : public_half_sizes set (length sk) (length pkBefore) (length workBefore) ≡ 0 → consistent_key (params_of set) sk ≡ false
      → public_half_ended 8 pkBefore (cleared workBefore) ≡ public_half_outcome set sk pkBefore workBefore
  unfolding public_half_outcome public_half_number public_half_after output_after work_after
  public_half_inconsistent e c = ap public_half_after (sym (or_else_right _ _ e ∙ key_number_inconsistent set sk c))

  pub public_half_done : public_half_sizes set (length sk) (length pkBefore) (length workBefore) ≡ 0 → consistent_key (params_of set) sk ≡ true
      → public_half_ended 0 (over (public_half (params_of set) sk) pkBefore) (cleared workBefore)
      ≡ public_half_outcome set sk pkBefore workBefore
  unfolding public_half_outcome public_half_number public_half_after output_after work_after
  public_half_done e c = ap public_half_after (sym (or_else_right _ _ e ∙ key_number-consistent set sk c))

-- ---- sign

module _ (set : ℕ) (sk msg rnd sigBefore workBefore : List ℕ) where
  sign_after : ℕ → SignOutcome
  sign_after number = record {
    number = number;
    signature = output_after number (signature (params_of set) sk rnd msg) sigBefore;
    work = work_after number workBefore;
  }

  pub sign_refused : (number : ℕ) → number ≡ sign_sizes set (length sk) (length msg) (length rnd) (length sigBefore) (length workBefore) → (number ≡ 0 → ⊥)
      → sign_ended number sigBefore workBefore ≡ sign_outcome set sk msg rnd sigBefore workBefore
  unfolding sign_outcome sign_number sign_after
  sign_refused number e n =
      let small = sign_at_most set (length sk) (length msg) (length rnd) (length sigBefore) (length workBefore) in
      let sig = output_after_refused number (signature (params_of set) sk rnd msg) sigBefore n in
      let work = work_after_refused number workBefore (omega arith) (omega arith) in
      let ended : sign_ended number sigBefore workBefore ≡ sign_after number = cc (sig, work) in
      ended ∙ ap sign_after (e ∙ sym (or_else_refused _ _ (λ z. n (e ∙ z))))

  pub sign_inconsistent : sign_sizes set (length sk) (length msg) (length rnd) (length sigBefore) (length workBefore) ≡ 0 → consistent_key (params_of set) sk ≡ false
      → sign_ended 8 sigBefore (cleared workBefore) ≡ sign_outcome set sk msg rnd sigBefore workBefore
  unfolding sign_outcome sign_number sign_after output_after work_after
  sign_inconsistent e c = ap sign_after (sym (or_else_right _ _ e ∙ key_number_inconsistent set sk c))

  pub sign-done : sign_sizes set (length sk) (length msg) (length rnd) (length sigBefore) (length workBefore) ≡ 0 → consistent_key (params_of set) sk ≡ true
      → sign_ended 0 (over (signature (params_of set) sk rnd msg) sigBefore) (cleared workBefore)
      ≡ sign_outcome set sk msg rnd sigBefore workBefore
  unfolding sign_outcome sign_number sign_after output_after work_after
  sign-done e c = ap sign_after (sym (or_else_right _ _ e ∙ key_number-consistent set sk c))

-- ---- verify

module _ (set : ℕ) (pk msg sig workBefore : List ℕ) where
  verify_after : ℕ → VerifyOutcome
  verify_after number = verify_ended number (work_after number workBefore)

  pub verify_refused : (number : ℕ) → number ≡ verify_sizes set (length pk) (length msg) (length sig) (length workBefore) → (number ≡ 0 → ⊥)
      → verify_ended number workBefore ≡ verify_outcome set pk msg sig workBefore
  unfolding verify_outcome verify_number verify_after
  verify_refused number e n =
      let small = verify_at_most set (length pk) (length msg) (length sig) (length workBefore) in
      let work = work_after_refused number workBefore (omega arith) (omega arith) in
      let ended : verify_ended number workBefore ≡ verify_after number = cc work in
      ended ∙ ap verify_after (e ∙ sym (or_else_refused _ _ (λ z. n (e ∙ z))))

  pub verify_not_accepted : verify_sizes set (length pk) (length msg) (length sig) (length workBefore) ≡ 0 → accepts (params_of set) pk msg sig ≡ false
      → verify_ended 9 (cleared workBefore) ≡ verify_outcome set pk msg sig workBefore
  unfolding verify_outcome verify_number verify_after work_after
  verify_not_accepted e c = ap verify_after (sym (or_else_right _ _ e ∙ accept_number_refused set pk msg sig c))

  pub verify_genuine : verify_sizes set (length pk) (length msg) (length sig) (length workBefore) ≡ 0 → accepts (params_of set) pk msg sig ≡ true
      → verify_ended 0 (cleared workBefore) ≡ verify_outcome set pk msg sig workBefore
  unfolding verify_outcome verify_number verify_after work_after
  verify_genuine e c = ap verify_after (sym (or_else_right _ _ e ∙ accept_number_accepted set pk msg sig c))
