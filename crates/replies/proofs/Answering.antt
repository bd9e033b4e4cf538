-- Phase 3, repetition after repetition: what the second hash has absorbed; and what this is to a signer whose secret, roots, circuit, challenges and corrections are lent. Assumes nothing.
use mathlib.Core.Path.{◌≡◌, refl, sym, ap, subst, ◌∙◌}
use mathlib.Core.List.{List}
use Prim.Native.Nat.{ℕ, ◌+◌, ◌*◌, ◌≤◌}
use native.Mathlib.Omega.{arith}
use lib.ListN.{length, take, drop}
use Rattle.sponge.specs.declared.Sponge.{Sponge}
use Rattle.sponge.specs.Steps.{absorbed}
use Rattle.sets.specs.declared.Params.{Params}
use Rattle.forms.specs.Circuit.{Circuit}
use Rattle.forms.specs.Room.{HoldsCircuit}
use Rattle.parties.specs.Repetition as repetition
use Rattle.answers.proofs.Absorbing.{Absorbing, absorbing_none, absorbing_all}
use Rattle.refusals.specs.Refusals.{work_length}
use Rattle.biscuit.specs.Signature.{repeated}
use Rattle.biscuit.specs.Sign as sign
use Rattle.biscuit.specs.Sign.{Signer}
use Rattle.biscuit.specs.Room.{Fits, leaves_at, roots_at}
use Rattle.biscuit.proofs.Repeated.{repeated-same}
use Rattle.biscuit.proofs.Room.{behind-roots}
use Rattle.passes.specs.Passes.{HoldsRoots, Kept}
use Rattle.passes.proofs.Committing.{absorbing_repetition}
use Rattle.replies.specs.Replies.{HoldsChallenges, Challenged, answers_of}
use Rattle.replies.proofs.Signed.{answers_signed}
use Rattle.replies.proofs.Pairing.{answers_kept}

-- where work has the parts that stay, it has them of the same signer
pub challenged-kept : (P : Params) (signer : Signer) (msg salt secret packing before after : List ℕ) → Kept P before after
    → Challenged P signer msg salt secret packing before → Challenged P signer msg salt secret packing after
challenged-kept P signer msg salt secret packing before after k h = record {
  held = h.held;
  circuit = subst (λ (x : List ℕ). HoldsCircuit P.n P.m (sign.f P signer) x) (sym k.circuit) h.circuit;
  challenges = subst (λ (x : List ℕ). HoldsChallenges P signer msg x) (sym (behind-roots P before after k.roots)) h.challenges;
  corrections = h.corrections;
}

-- ---- the loop

-- what the second hash takes of all repetitions up to `count`
abbrev pub answers_up_to : Params → Circuit → List ℕ → List ℕ → List ℕ → List ℕ → ℕ → List ℕ
answers_up_to P c salt secret packing work count = repeated count (λ e. answers_of P c e salt secret packing work)

-- the second hash has absorbed them, whatever circuit work holds
abbrev pub AnsweredTo : Params → List ℕ → List ℕ → List ℕ → List ℕ → ℕ → Sponge → Sponge → Type 0
AnsweredTo P salt secret packing work count before after =
    (c : Circuit) → HoldsCircuit P.n P.m c (take (leaves_at P) work) → Absorbing before after (answers_up_to P c salt secret packing work count) count

pub answering_none : (P : Params) (salt secret packing work : List ℕ) (s : Sponge) → AnsweredTo P salt secret packing work 0 s s
unfolding repeated
answering_none P salt secret packing work s c held = absorbing_none s

-- one repetition more, and two
module _ (P : Params) (salt secret packing first work : List ℕ) (kept : Kept P first work) where
  one_more : (c : Circuit) (count : ℕ) (s r r' : Sponge) → Absorbing s r (answers_up_to P c salt secret packing first count) count
      → r' ≡ absorbed r (answers_of P c (count + 1) salt secret packing work) → Absorbing s r' (answers_up_to P c salt secret packing first (count + 1)) (count + 1)
  one_more c count s r r' done turn =
      absorbing_repetition count (λ e. answers_of P c e salt secret packing first) s r r' done (turn ∙ ap (absorbed r) (answers_kept P c (count + 1) salt secret packing first work kept))

  still_held : (c : Circuit) → HoldsCircuit P.n P.m c (take (leaves_at P) first) → HoldsCircuit P.n P.m c (take (leaves_at P) work)
  still_held c held = subst (λ (x : List ℕ). HoldsCircuit P.n P.m c x) (sym kept.circuit) held

  pub answering_more : (count next : ℕ) (s r r' : Sponge) → next ≡ count + 1 → AnsweredTo P salt secret packing first count s r
      → ((c : Circuit) → HoldsCircuit P.n P.m c (take (leaves_at P) work) → r' ≡ absorbed r (answers_of P c next salt secret packing work))
      → AnsweredTo P salt secret packing first next s r'
  answering_more count next s r r' e done turn c held =
      subst (λ (k : ℕ). r' ≡ absorbed r (answers_of P c k salt secret packing work) → Absorbing s r' (answers_up_to P c salt secret packing first k) k) (sym e)
      (one_more c count s r r' (done c held)) (turn c (still_held c held))

  pub answering_two : (pair : ℕ) (s r r' : Sponge) → AnsweredTo P salt secret packing first (2 * pair) s r
      → ((c : Circuit) → HoldsCircuit P.n P.m c (take (leaves_at P) work)
      → r' ≡ absorbed (absorbed r (answers_of P c (2 * pair + 1) salt secret packing work)) (answers_of P c (2 * pair + 1 + 1) salt secret packing work))
      → AnsweredTo P salt secret packing first (2 * (pair + 1)) s r'
  answering_two pair s r r' done turn c held =
      let e : 2 * pair + 1 + 1 ≡ 2 * (pair + 1) = omega arith in
      let between = absorbed r (answers_of P c (2 * pair + 1) salt secret packing work) in
      subst (λ (k : ℕ). Absorbing s r' (answers_up_to P c salt secret packing first k) k) e
      (one_more c (2 * pair + 1) s between r' (one_more c (2 * pair) s r between (done c held) refl) (turn c (still_held c held)))

pub answered_all : (P : Params) (salt secret packing work : List ℕ) (count : ℕ) (s r : Sponge) → count ≡ P.tau → 1 ≤ P.tau → AnsweredTo P salt secret packing work count s r
    → (c : Circuit) → HoldsCircuit P.n P.m c (take (leaves_at P) work) → r ≡ absorbed s (answers_up_to P c salt secret packing work P.tau)
answered_all P salt secret packing work count s r e some h c held =
    absorbing_all s r (answers_up_to P c salt secret packing work count) count (omega arith) (h c held)
    ∙ ap (λ (n : ℕ). absorbed s (answers_up_to P c salt secret packing work n)) e

-- ---- what the promise is to a signer that has what is lent

pub answers_all_signed : (P : Params) → Fits P → (salt secret packing work : List ℕ) → length secret ≡ P.n + P.m + P.m → length work ≡ work_length → (s r : Sponge)
    → ((c : Circuit) → HoldsCircuit P.n P.m c (take (leaves_at P) work) → r ≡ absorbed s (answers_up_to P c salt secret packing work P.tau))
    → (signer : Signer) (msg : List ℕ) → Challenged P signer msg salt secret packing work → HoldsRoots P signer (drop (roots_at P) work) → r ≡ absorbed s (sign.σ₂ P signer msg)
unfolding sign.σ₂
answers_all_signed P f salt secret packing work size whole s r absorbs signer msg challenged rooted =
    absorbs (sign.f P signer) challenged.circuit
    ∙ ap (absorbed s) (repeated-same P.tau (λ e. answers_of P (sign.f P signer) e salt secret packing work) (λ e. repetition.second (sign.αs P signer msg e) (sign.all_v P signer msg e))
    (λ e from to. answers_signed P signer msg salt secret packing work size challenged e from to f whole rooted))
