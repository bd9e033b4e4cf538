-- Salt and roots are one tape, and with the roots in work a signer is held. Assumes nothing.
use mathlib.Core.Path.{◌≡◌, sym, ap, ap₂, ◌∙◌, subst}
use mathlib.Core.List.{List, ◌++◌}
use Prim.Native.Nat.{ℕ, ◌+◌, ◌-◌, ◌*◌, ◌≤◌}
use native.Mathlib.Omega.{arith}
use lib.ListN.{length, take, drop, length-drop}
use lib.Seq.{take_at, drop_at, drop-drop, take-append-le, drop-append-le}
use Rattle.sets.specs.Sets.{S}
use Rattle.sets.specs.declared.Params.{Params}
use Rattle.sponge.specs.declared.Sponge.{Sponge}
use Rattle.sponge.specs.declared.Tape.{Tape}
use Rattle.sponge.specs.Steps.{fresh, absorbed, finished, given, moved}
use Rattle.sponge.proofs.Laws.{absorbed-append, given-append, given-shake256, length-given}
use Rattle.hashes.specs.Hashes.{prf}
use Rattle.forms.specs.Room.{HoldsCircuit}
use Rattle.refusals.specs.Refusals.{work_length}
use Rattle.biscuit.specs.Room.{Fits, leaves_at, roots_at, challenges_at, root_in}
use Rattle.biscuit.specs.Sign.{f, signer_of, drawn}
use Rattle.biscuit.proofs.Repeated.{among}
use Rattle.passes.specs.Passes.{HoldsSecret, HoldsRoots}
use Rattle.signing.specs.Signing.{HoldsSigner}
use Rattle.signing.proofs.Rooted.{taken_size, back_circuit, back_roots}

module _ (P : Params) (sk rnd msg : List ℕ) where
  -- the tape, by the steps that make it
  tape-drawn : (s₀ s₁ s₂ s₃ : Sponge) (t : Tape) → s₀ ≡ fresh → s₁ ≡ absorbed s₀ rnd → s₂ ≡ absorbed s₁ sk → s₃ ≡ absorbed s₂ msg → t ≡ finished s₃
      → given t (2 * S P + P.tau * S P) ≡ drawn P sk rnd msg
  unfolding drawn prf
  tape-drawn s₀ s₁ s₂ s₃ t a b c d e =
      ap (λ (x : Tape). given x (2 * S P + P.tau * S P))
      (e ∙ ap finished
      (d ∙ ap (λ (x : Sponge). absorbed x msg) (c ∙ ap (λ (x : Sponge). absorbed x sk) (b ∙ ap (λ (x : Sponge). absorbed x rnd) a))
      ∙ absorbed-append (absorbed fresh rnd) sk msg ∙ absorbed-append fresh rnd (sk ++ msg)))
      ∙ given-shake256 (rnd ++ (sk ++ msg)) (2 * S P + P.tau * S P)

  module _ (s₀ s₁ s₂ s₃ : Sponge) (t : Tape) (a : s₀ ≡ fresh) (b : s₁ ≡ absorbed s₀ rnd) (c : s₂ ≡ absorbed s₁ sk) (d : s₃ ≡ absorbed s₂ msg) (e : t ≡ finished s₃) where
    halves : given t (2 * S P) ++ given (moved t (2 * S P)) (P.tau * S P) ≡ drawn P sk rnd msg
    halves = sym (given-append t (2 * S P) (P.tau * S P)) ∙ tape-drawn s₀ s₁ s₂ s₃ t a b c d e

    pub salt-drawn : (n : ℕ) → n ≡ 2 * S P → (salt : List ℕ) → salt ≡ given t n → salt ≡ (signer_of P sk rnd msg).salt
    unfolding signer_of
    salt-drawn n f salt g =
        g ∙ ap (given t) f ∙ sym (ap (take (2 * S P)) (sym halves) ∙ take_at (given t (2 * S P)) _ (2 * S P) (length-given t (2 * S P)))

    pub roots-drawn : (n k : ℕ) → n ≡ 2 * S P → k ≡ P.tau * S P → (roots : List ℕ) (u : Tape) → u ≡ moved t n → roots ≡ given u k
        → roots ≡ drop (2 * S P) (drawn P sk rnd msg)
    roots-drawn n k f h roots u g i =
        i ∙ ap₂ given (g ∙ ap (moved t) f) h ∙ sym (ap (drop (2 * S P)) (sym halves) ∙ drop_at (given t (2 * S P)) _ (2 * S P) (length-given t (2 * S P)))

-- ---- the roots in work

module _ (P : Params) (fits : Fits P) (sk rnd msg w : List ℕ) (size : length w ≡ work_length) (a b : ℕ) (at : a ≡ roots_at P) (to : b ≡ challenges_at P) where
  module _ (l : List ℕ) (drew : l ≡ drop (2 * S P) (drawn P sk rnd msg)) (kept : length l ≡ length (take (b - a) (drop a w))) where
    root-drawn : (e : ℕ) → 1 ≤ e → e ≤ P.tau → (signer_of P sk rnd msg).root e ≡ root_in (S P) (l ++ drop (roots_at P + length l) w) e
    unfolding signer_of root_in
    root-drawn e h g =
        let r = among e P.tau (S P) h g in
        let n = kept ∙ taken_size P fits w size a b at to in
        sym (ap (take (S P)) (drop-append-le ((e - 1) * S P) l _ (omega arith))
        ∙ take-append-le (S P) (drop ((e - 1) * S P) l) _ (simp length-drop (omega arith))
        ∙ ap (λ (x : List ℕ). take (S P) (drop ((e - 1) * S P) x)) drew
        ∙ ap (take (S P)) (drop-drop ((e - 1) * S P) (2 * S P) (drawn P sk rnd msg)))

    -- what is drawn is what the signer holds
    pub signer_drawn : (salt secret : List ℕ) → salt ≡ (signer_of P sk rnd msg).salt → HoldsSecret P (signer_of P sk rnd msg) (signer_of P sk rnd msg).salt secret
        → HoldsCircuit P.n P.m (f P (signer_of P sk rnd msg)) (take (leaves_at P) w)
        → HoldsSigner P (signer_of P sk rnd msg) salt secret (take a w ++ (l ++ drop (b - a) (drop a w)))
    unfolding HoldsRoots
    signer_drawn salt secret same holds circuit = record {
      holds_secret = subst (λ (x : List ℕ). HoldsSecret P (signer_of P sk rnd msg) x secret) (sym same) holds;
      holds_roots = λ e h g. root-drawn e h g ∙ ap (λ (x : List ℕ). root_in (S P) x e) (sym (back_roots P fits w size a b at to l (kept ∙ taken_size P fits w size a b at to)));
      holds_circuit = subst (HoldsCircuit P.n P.m (f P (signer_of P sk rnd msg))) (sym (back_circuit P fits w size a b at to l (kept ∙ taken_size P fits w size a b at to))) circuit;
    }
