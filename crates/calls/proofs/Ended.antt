-- What a call's routine asks for where the sizes are right, and how the call then ended.
-- Assumes nothing.
use mathlib.Core.Path.{◌≡◌, sym, ap, ◌∙◌}
use mathlib.Core.Bool.{Bool, true, false, cond}
use mathlib.Core.List.{List}
use Prim.Native.Nat.{ℕ, ◌-◌}
use native.Mathlib.Omega.{arith}
use lib.ListN.{length, take}
use Rattle.memory.specs.Lists.{over}
use Rattle.sets.specs.Sets.{S, params_of, secret_key_length, public_key_length, signature_length}
use Rattle.sets.specs.declared.Params.{Params}
use Rattle.refusals.specs.Refusals.{work_length, cleared, make_keys_sizes, public_half_sizes, sign_sizes, verify_sizes}
use Rattle.biscuit.specs.Desk.{make_keys_ended, make_keys_outcome, public_half_ended, public_half_outcome, sign_ended, sign_outcome, verify_ended, verify_outcome}
use Rattle.biscuit.specs.Keys.{secret_key, public_key, consistent_key, public_half}
use Rattle.biscuit.specs.Sign.{signature}
use Rattle.biscuit.specs.Verify.{accepts}
use Rattle.biscuit.specs.Room.{Fits}
use Rattle.biscuit.proofs.Outcomes.{make_keys_done, public_half_done, public_half_inconsistent, sign-done, sign_inconsistent, verify_genuine, verify_not_accepted}
use Rattle.refusals.proofs.Refusals.{MakeKeysRight, PublicHalfRight, SignRight, VerifyRight}
use Rattle.biscuit.proofs.Parts.{length-first}
use Rattle.calls.proofs.Lending.{known_fits}

-- ---- make keys

module _ (set : ℕ) (p : Params) (param : p ≡ params_of set) (cs ss sk pk work : List ℕ) where
  pub make_keys_asked : MakeKeysRight set (length cs) (length ss) (length sk) (length pk) (length work) → (a b n : ℕ)
      → a ≡ secret_key_length (params_of set) → b ≡ public_key_length (params_of set) → n ≡ work_length
      → Fits p × (length cs ≡ S p) × (length ss ≡ S p) × (length (take (a - 0) sk) ≡ secret_key_length p) × (length (take (b - 0) pk) ≡ public_key_length p) × (length (take (n - 0) work) ≡ work_length)
  make_keys_asked r a b n ea eb en = (
    known_fits set p param r.known,
    r.circuit_seed ∙ ap S (sym param),
    r.secret_seed ∙ ap S (sym param),
    length-first sk a (let h = r.secret_key in omega arith) ∙ ea ∙ ap secret_key_length (sym param),
    length-first pk b (let h = r.public_key in omega arith) ∙ eb ∙ ap public_key_length (sym param),
    length-first work n (let h = r.work in omega arith) ∙ en,
  )

  pub make_keys_ended_lem : make_keys_sizes set (length cs) (length ss) (length sk) (length pk) (length work) ≡ 0
      → (skAfter pkAfter work_after : List ℕ) → skAfter ≡ over (secret_key p cs ss) sk → pkAfter ≡ over (public_key p cs ss) pk → work_after ≡ cleared work
      → make_keys_ended 0 skAfter pkAfter work_after ≡ make_keys_outcome set cs ss sk pk work
  make_keys_ended_lem r skAfter pkAfter work_after a b c =
      let secret = a ∙ ap (λ (q : Params). over (secret_key q cs ss) sk) param in
      let «public» = b ∙ ap (λ (q : Params). over (public_key q cs ss) pk) param in
      let ended : make_keys_ended 0 skAfter pkAfter work_after
      ≡ make_keys_ended 0 (over (secret_key (params_of set) cs ss) sk) (over (public_key (params_of set) cs ss) pk) (cleared work) = cc in
      ended ∙ make_keys_done set cs ss sk pk work r

-- ---- public half

module _ (set : ℕ) (p : Params) (param : p ≡ params_of set) (sk pk work : List ℕ) where
  pub public_half_asked : PublicHalfRight set (length sk) (length pk) (length work) → (b n : ℕ) → b ≡ public_key_length (params_of set) → n ≡ work_length
      → Fits p × (length sk ≡ secret_key_length p) × (length (take (b - 0) pk) ≡ public_key_length p) × (length (take (n - 0) work) ≡ work_length)
  public_half_asked r b n eb en = (
    known_fits set p param r.known,
    r.secret_key ∙ ap secret_key_length (sym param),
    length-first pk b (let h = r.public_key in omega arith) ∙ eb ∙ ap public_key_length (sym param),
    length-first work n (let h = r.work in omega arith) ∙ en,
  )

  -- the number and the output follow from whether the key is consistent
  pub public_half_ended_lem : public_half_sizes set (length sk) (length pk) (length work) ≡ 0 → (yes : Bool) (pkAfter work_after : List ℕ)
      → yes ≡ consistent_key p sk → pkAfter ≡ cond (consistent_key p sk) (over (public_half p sk) pk) pk → work_after ≡ cleared work
      → public_half_ended (cond yes 0 8) pkAfter work_after ≡ public_half_outcome set sk pk work
  public_half_ended_lem r true pkAfter work_after told e w =
      let consistent = ap (λ (q : Params). consistent_key q sk) (sym param) ∙ sym told in
      let written = e ∙ ap (λ (x : Bool). cond x (over (public_half p sk) pk) pk) (sym told) ∙ ap (λ (q : Params). over (public_half q sk) pk) param in
      let ended : public_half_ended 0 pkAfter work_after ≡ public_half_ended 0 (over (public_half (params_of set) sk) pk) (cleared work) = cc in
      ended ∙ public_half_done set sk pk work r consistent
  public_half_ended_lem r false pkAfter work_after told e w =
      let inconsistent = ap (λ (q : Params). consistent_key q sk) (sym param) ∙ sym told in
      let kept = e ∙ ap (λ (x : Bool). cond x (over (public_half p sk) pk) pk) (sym told) in
      let ended : public_half_ended 8 pkAfter work_after ≡ public_half_ended 8 pk (cleared work) = cc in
      ended ∙ public_half_inconsistent set sk pk work r inconsistent

-- ---- sign

module _ (set : ℕ) (p : Params) (param : p ≡ params_of set) (sk msg rnd sig work : List ℕ) where
  pub sign_asked : SignRight set (length sk) (length msg) (length rnd) (length sig) (length work) → (a n : ℕ) → a ≡ signature_length (params_of set) → n ≡ work_length
      → Fits p × (length sk ≡ secret_key_length p) × (length (take (a - 0) sig) ≡ signature_length p) × (length (take (n - 0) work) ≡ work_length)
  sign_asked r a n ea en = (
    known_fits set p param r.known,
    r.secret_key ∙ ap secret_key_length (sym param),
    length-first sig a (let h = r.signature in omega arith) ∙ ea ∙ ap signature_length (sym param),
    length-first work n (let h = r.work in omega arith) ∙ en,
  )

  -- the number and the output follow from whether the key is consistent
  pub sign_ended_lem : sign_sizes set (length sk) (length msg) (length rnd) (length sig) (length work) ≡ 0 → (yes : Bool) (sigAfter work_after : List ℕ)
      → yes ≡ consistent_key p sk → sigAfter ≡ cond (consistent_key p sk) (over (signature p sk rnd msg) sig) sig → work_after ≡ cleared work
      → sign_ended (cond yes 0 8) sigAfter work_after ≡ sign_outcome set sk msg rnd sig work
  sign_ended_lem r true sigAfter work_after told e w =
      let consistent = ap (λ (q : Params). consistent_key q sk) (sym param) ∙ sym told in
      let written = e ∙ ap (λ (x : Bool). cond x (over (signature p sk rnd msg) sig) sig) (sym told) ∙ ap (λ (q : Params). over (signature q sk rnd msg) sig) param in
      let ended : sign_ended 0 sigAfter work_after ≡ sign_ended 0 (over (signature (params_of set) sk rnd msg) sig) (cleared work) = cc in
      ended ∙ sign-done set sk msg rnd sig work r consistent
  sign_ended_lem r false sigAfter work_after told e w =
      let inconsistent = ap (λ (q : Params). consistent_key q sk) (sym param) ∙ sym told in
      let kept = e ∙ ap (λ (x : Bool). cond x (over (signature p sk rnd msg) sig) sig) (sym told) in
      let ended : sign_ended 8 sigAfter work_after ≡ sign_ended 8 sig (cleared work) = cc in
      ended ∙ sign_inconsistent set sk msg rnd sig work r inconsistent

-- ---- verify

module _ (set : ℕ) (p : Params) (param : p ≡ params_of set) (pk msg sig work : List ℕ) where
  pub verify_asked : VerifyRight set (length pk) (length msg) (length sig) (length work) → (n : ℕ) → n ≡ work_length
      → Fits p × (length pk ≡ public_key_length p) × (length sig ≡ signature_length p) × (length (take (n - 0) work) ≡ work_length)
  verify_asked r n en = (
    known_fits set p param r.known,
    r.public_key ∙ ap public_key_length (sym param),
    r.signature ∙ ap signature_length (sym param),
    length-first work n (let h = r.work in omega arith) ∙ en,
  )

  -- the number follows from whether the signature is accepted
  pub verify_ended_lem : verify_sizes set (length pk) (length msg) (length sig) (length work) ≡ 0 → (yes : Bool) (work_after : List ℕ)
      → yes ≡ accepts p pk msg sig → work_after ≡ cleared work → verify_ended (cond yes 0 9) work_after ≡ verify_outcome set pk msg sig work
  verify_ended_lem r true work_after told w =
      let accepted = ap (λ (q : Params). accepts q pk msg sig) (sym param) ∙ sym told in
      ap (verify_ended 0) w ∙ verify_genuine set pk msg sig work r accepted
  verify_ended_lem r false work_after told w =
      let refused = ap (λ (q : Params). accepts q pk msg sig) (sym param) ∙ sym told in
      ap (verify_ended 9) w ∙ verify_not_accepted set pk msg sig work r refused
