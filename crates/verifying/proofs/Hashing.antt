-- How far the two hashes are: before the first repetition, after one more, and that their bytes are what algorithm 13 compares.
-- Assumes nothing.
use mathlib.Core.Path.{◌≡◌, refl, sym, ap, ap₂, ◌∙◌}
use mathlib.Core.Bool.{Bool, true, false, ◌&&◌}
use mathlib.Core.List.{List, ◌∷◌, ◌++◌, append_assoc, append-nil}
use Prim.Native.Nat.{ℕ, ◌+◌, ◌-◌, ◌*◌, ◌≤◌}
use native.Mathlib.Omega.{arith}
use lib.ListN.{length, take, drop, length-take}
use Rattle.memory.specs.Lists.{same}
use Rattle.memory.proofs.Xors.{length_part}
use Rattle.sponge.specs.declared.Sponge.{Sponge}
use Rattle.sponge.specs.Steps.{fresh, absorbed, finished, given}
use Rattle.sponge.proofs.Laws.{absorbed-append}
use Rattle.sets.specs.Sets.{S, signature_length}
use Rattle.sets.specs.declared.Params.{Params}
use Rattle.hashes.specs.Hashes.{first_hash, second_hash, first_fields, second_fields}
use Rattle.hashes.proofs.Laws.{given-first, given-second}
use Rattle.biscuit.specs.Keys.{PublicKey}
use Rattle.biscuit.specs.Signature.{Signature, repeated, extracted}
use Rattle.biscuit.specs.Verify.{σ₁, σ₂, h₁', h₂', first_agrees, second_agrees, valid}
use Rattle.biscuit.specs.Room.{Fits}
use Rattle.biscuit.proofs.Repeated.{repeated_more}
use Rattle.turns.specs.declared.Both.{Both}
use Rattle.turns.specs.Turns.{first_of, second_of, TurnHashed, TwoHashed}
use Rattle.turns.proofs.Sizes.{head_fits}
use Rattle.verifying.specs.Hashed.{Hashed}

-- ---- the fields of the hashes grow at their ends

first_more : (salt msg r y : List ℕ) → first_fields salt msg r ++ y ≡ first_fields salt msg (r ++ y)
unfolding first_fields
first_more salt msg r y =
    ap (λ (l : List ℕ). first_hash ∷ l) (append_assoc salt (msg ++ r) y ∙ ap (λ (l : List ℕ). salt ++ l) (append_assoc msg r y))

second_more : (salt h r y : List ℕ) → second_fields salt h r ++ y ≡ second_fields salt h (r ++ y)
unfolding second_fields
second_more salt h r y =
    ap (λ (l : List ℕ). second_hash ∷ l) (append_assoc salt (h ++ r) y ∙ ap (λ (l : List ℕ). salt ++ l) (append_assoc h r y))

module _ (P : Params) (key : PublicKey) where
  -- ---- before the first repetition

  module _ (x message : List ℕ) (s : ℕ) (is : s ≡ S P) where
    pub first_begun : (r t : Sponge) → r ≡ absorbed fresh (first_hash ∷ take (2 * s) x) → t ≡ absorbed r message
        → t ≡ absorbed fresh (first_fields (extracted P x).salt message (repeated 0 (first_of P key (extracted P x))))
    unfolding extracted first_fields repeated
    first_begun r t er et =
        et ∙ ap (λ (u : Sponge). absorbed u message) er ∙ absorbed-append fresh (first_hash ∷ take (2 * s) x) message
        ∙ ap₂ (λ (n : ℕ) (l : List ℕ). absorbed fresh (first_hash ∷ (take n x ++ l))) (ap (λ (k : ℕ). 2 * k) is) (sym (append-nil message))

    pub second_begun : (r : Sponge) → r ≡ absorbed fresh (second_hash ∷ (take (2 * s) x ++ take (2 * s + 2 * s - 2 * s) (drop (2 * s) x)))
        → r ≡ absorbed fresh (second_fields (extracted P x).salt (extracted P x).h₁ (repeated 0 (second_of P key (extracted P x))))
    unfolding extracted second_fields repeated
    second_begun r er =
        er
        ∙ ap₂ (λ (l h : List ℕ). absorbed fresh (second_hash ∷ (l ++ h)))
        (ap (λ (n : ℕ). take n x) (ap (λ (k : ℕ). 2 * k) is))
        (ap₂ (λ (n k : ℕ). take n (drop k x)) (let q : 2 * s + 2 * s - 2 * s ≡ 2 * S P = omega arith in q) (ap (λ (k : ℕ). 2 * k) is) ∙ sym (append-nil _))

  module _ (σ : Signature) (message : List ℕ) where
    -- ---- one repetition more

    pub hashed_more : (e : ℕ) (before after : Both) → Hashed P key σ message e before → TurnHashed P key σ (e + 1) before after → Hashed P key σ message (e + 1) after
    hashed_more e before after h t = record {
      first = t.first
          ∙ ap (λ (s : Sponge). absorbed s (first_of P key σ (e + 1))) h.first
          ∙ absorbed-append fresh (first_fields σ.salt message (repeated e (first_of P key σ))) (first_of P key σ (e + 1))
          ∙ ap (absorbed fresh) (first_more σ.salt message (repeated e (first_of P key σ)) (first_of P key σ (e + 1)) ∙ ap (first_fields σ.salt message) (repeated_more e (first_of P key σ)));
      second = t.second
          ∙ ap (λ (s : Sponge). absorbed s (second_of P key σ (e + 1))) h.second
          ∙ absorbed-append fresh (second_fields σ.salt σ.h₁ (repeated e (second_of P key σ))) (second_of P key σ (e + 1))
          ∙ ap (absorbed fresh) (second_more σ.salt σ.h₁ (repeated e (second_of P key σ)) (second_of P key σ (e + 1)) ∙ ap (second_fields σ.salt σ.h₁) (repeated_more e (second_of P key σ)));
    }

    -- two more
    pub hashed_two : (e : ℕ) (before after : Both) → Hashed P key σ message e before → TwoHashed P key σ (e + 1) before after → Hashed P key σ message (e + 1 + 1) after
    hashed_two e before after h t =
        let between : Both = record { first = absorbed before.first (first_of P key σ (e + 1)); second = absorbed before.second (second_of P key σ (e + 1)) } in
        hashed_more (e + 1) between after (hashed_more e before between h (record { first = refl; second = refl })) (record { first = t.first; second = t.second })

    -- ---- what they give at the end

    pub first-given : (both : Both) → Hashed P key σ message P.tau both → given (finished both.first) (2 * S P) ≡ h₁' P key σ message
    unfolding h₁' σ₁ first_of
    first-given both h =
        ap (λ (s : Sponge). given (finished s) (2 * S P)) h.first ∙ given-first (S P) σ.salt message (repeated P.tau (first_of P key σ))

    pub second-given : (both : Both) → Hashed P key σ message P.tau both → given (finished both.second) (2 * S P) ≡ h₂' P key σ
    unfolding h₂' σ₂ second_of
    second-given both h =
        ap (λ (s : Sponge). given (finished s) (2 * S P)) h.second ∙ given-second (S P) σ.salt σ.h₁ (repeated P.tau (second_of P key σ))

-- ---- the comparisons

pub hash_short : (P : Params) → Fits P → (s : ℕ) → s ≡ S P → (x : List ℕ) (k : ℕ) → length (take (k + 2 * s - k) (drop k x)) ≤ 64
hash_short P f s is x k = let a = f.seed in let l = length-take (k + 2 * s - k) (drop k x) in omega arith

compared : (P : Params) (x : List ℕ) (s k : ℕ) (hash : Sponge) → s ≡ S P → k + 2 * S P ≤ length x
    → same (take (k + 2 * s - k) (drop k x)) (given (finished hash) (length (take (k + 2 * s - k) (drop k x))))
    ≡ same (take (2 * S P) (drop k x)) (given (finished hash) (2 * S P))
compared P x s k hash is fits =
    let q : k + 2 * s - k ≡ 2 * S P = omega arith in
    ap₂ (λ (y : List ℕ) (n : ℕ). same y (given (finished hash) n)) (ap (λ (n : ℕ). take n (drop k x)) q)
    (ap (λ (n : ℕ). length (take n (drop k x))) q ∙ length_part x k (2 * S P) fits)

module _ (P : Params) (f : Fits P) (key : PublicKey) (x message : List ℕ) (size : length x ≡ signature_length P) (both : Both) (h : Hashed P key (extracted P x) message P.tau both) (s : ℕ) (is : s ≡ S P) where
  pub first_compared : (b : Bool) → b ≡ same (take (2 * s + 2 * s - 2 * s) (drop (2 * s) x)) (given (finished both.first) (length (take (2 * s + 2 * s - 2 * s) (drop (2 * s) x))))
      → b ≡ first_agrees P key (extracted P x) message
  unfolding first_agrees extracted
  first_compared b e =
      let fit = head_fits P f in
      e ∙ compared P x s (2 * s) both.first is (omega arith)
      ∙ ap₂ same (ap (λ (k : ℕ). take (2 * S P) (drop (2 * k) x)) is) (first-given P key (extracted P x) message both h)

  pub second_compared : (b : Bool) → b ≡ same (take (2 * s + 2 * s + 2 * s - (2 * s + 2 * s)) (drop (2 * s + 2 * s) x)) (given (finished both.second) (length (take (2 * s + 2 * s + 2 * s - (2 * s + 2 * s)) (drop (2 * s + 2 * s) x))))
      → b ≡ second_agrees P key (extracted P x)
  unfolding second_agrees extracted
  second_compared b e =
      let fit = head_fits P f in
      e ∙ compared P x s (2 * s + 2 * s) both.second is (omega arith)
      ∙ ap₂ same (ap (λ (k : ℕ). take (2 * S P) (drop (2 * k + 2 * k) x)) is) (second-given P key (extracted P x) message both h)

  -- the answer, by what the first comparison says
  module _ (b c : Bool) (eb : b ≡ first_agrees P key (extracted P x) message) (ec : c ≡ second_agrees P key (extracted P x)) where
    pub first_agrees_lem : b ≡ true → c ≡ valid P key (extracted P x) message
    unfolding valid
    first_agrees_lem t = ec ∙ ap (λ (y : Bool). y && second_agrees P key (extracted P x)) (sym t ∙ eb)

    pub first-differs : b ≡ false → b ≡ valid P key (extracted P x) message
    unfolding valid
    first-differs t = t ∙ ap (λ (y : Bool). y && second_agrees P key (extracted P x)) (sym t ∙ eb)
