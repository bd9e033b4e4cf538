-- Work and the hidden parties after the three tapes were written: they hold what algorithm 13 expands in lines 3, 5 and 6.
-- Assumes nothing.
use mathlib.Core.Path.{◌≡◌, sym, ap, ap₂, ◌∙◌, subst}
use mathlib.Core.List.{List, ◌++◌}
use Prim.Native.Nat.{ℕ, ◌+◌, ◌-◌, ◌*◌, ◌≤◌}
use native.Mathlib.Omega.{arith}
use lib.ListN.{length, take, drop, length-append, length-drop}
use lib.Seq.{take_at, length-take-le}
use Rattle.memory.specs.Lists.{put}
use Rattle.memory.proofs.Parts.{lent-put, mid_put, length-lent}
use Rattle.field.specs.Packing.{packed_length}
use Rattle.sponge.specs.Sponge.{shake256}
use Rattle.sets.specs.Sets.{S}
use Rattle.sets.specs.declared.Params.{Params}
use Rattle.forms.specs.Room.{HoldsCircuit, challenge_in, hidden_in}
use Rattle.forms.proofs.Room.{expanded_circuit, expanded_challenge, expanded_hidden}
use Rattle.parties.specs.Repetition.{challenge, hidden_party}
use Rattle.biscuit.specs.Keys.{PublicKey, circuit, public_key_of}
use Rattle.biscuit.specs.Signature.{Signature, extracted}
use Rattle.biscuit.specs.Verify.{f, ε, hidden}
use Rattle.biscuit.specs.Room.{leaves_at, roots_at, challenges_at, room_end, Fits}
use Rattle.biscuit.proofs.Parts.{take-before-put}
use Rattle.biscuit.proofs.Repeated.{among}
use Rattle.biscuit.proofs.Room.{mapped, behind-roots}
use Rattle.turns.specs.Turns.{circuit_part, challenges_part, Expanded}
use Rattle.turns.proofs.Sizes.{leaves_is}

challenges_size : (P : Params) → room_end P - challenges_at P ≡ P.tau * packed_length P.m
challenges_size P = let m = mapped P in omega arith

-- ---- two parts of work written one after the other

module _ (P : Params) (w : List ℕ) (enough : room_end P ≤ length w) (end from to : ℕ) (ee : end ≡ leaves_at P) (ef : from ≡ challenges_at P) (et : to ≡ room_end P) where
  -- the circuit, at the start
  pub first-length : length (take end w) ≡ leaves_at P
  first-length = length-take-le end w (let m = mapped P in omega arith) ∙ ee

  module _ (last : List ℕ) (kept : length last ≡ length (take end w)) where
    pub first_back : length (last ++ drop end w) ≡ length w
    first_back = let l = first-length in let m = mapped P in omega (arith, length-append last (drop end w), length-drop end w)

    -- the challenges, at the end
    pub second-length : length (take (to - from) (drop from (last ++ drop end w))) ≡ room_end P - challenges_at P
    second-length =
        let m = mapped P in
        let b = first_back in
        length-lent (last ++ drop end w) from to (omega arith) (omega arith)
        ∙ (let q : to - from ≡ room_end P - challenges_at P = omega arith in q)

    module _ (more w' : List ℕ) (size : length more ≡ room_end P - challenges_at P)
        (is : w' ≡ take from (last ++ drop end w) ++ (more ++ drop (to - from) (drop from (last ++ drop end w)))) where
      as_put : w' ≡ put (last ++ drop end w) (challenges_at P) more
      as_put =
          is ∙ lent-put (last ++ drop end w) from to more (size ∙ (let q : room_end P - challenges_at P ≡ to - from = omega arith in q))
          ∙ ap (λ (n : ℕ). put (last ++ drop end w) n more) ef

      fits : challenges_at P + length more ≤ length (last ++ drop end w)
      fits = let b = first_back in let m = mapped P in omega arith

      pub circuit_there : circuit_part P w' ≡ last
      circuit_there =
          let m = mapped P in
          ap (take (leaves_at P)) as_put
          ∙ take-before-put (last ++ drop end w) (challenges_at P) more (leaves_at P) fits (omega arith)
          ∙ take_at last (drop end w) (leaves_at P) (kept ∙ first-length)

      pub challenges_there : challenges_part P w' ≡ more
      challenges_there =
          ap (λ (l : List ℕ). take (room_end P - challenges_at P) (drop (challenges_at P) l)) as_put
          ∙ ap (λ (n : ℕ). take n (drop (challenges_at P) (put (last ++ drop end w) (challenges_at P) more))) (sym size)
          ∙ mid_put (last ++ drop end w) (challenges_at P) more fits

-- ---- what was expanded stays

pub still_expanded : (P : Params) (key : PublicKey) (σ : Signature) (parties w w' : List ℕ) → Expanded P key σ parties w → circuit_part P w' ≡ circuit_part P w → drop (roots_at P) w' ≡ drop (roots_at P) w
    → Expanded P key σ parties w'
still_expanded P key σ parties w w' x c h = record {
  circuit = subst (HoldsCircuit P.n P.m (f P key)) (sym c) x.circuit;
  challenge = λ e a b. ap (λ (l : List ℕ). challenge_in P.m (take (room_end P - challenges_at P) l) e) (behind-roots P w w' h) ∙ x.challenge e a b;
  hidden = x.hidden;
}

-- ---- what the tapes hold

module _ (P : Params) (fit : Fits P) (pk x : List ℕ) (s : ℕ) (is : s ≡ S P) where
  pub holds_circuit : (w last : List ℕ) (k : ℕ) → circuit_part P w ≡ last → last ≡ shake256 (take s pk) k → k ≡ leaves_at P
      → HoldsCircuit P.n P.m (f P (public_key_of P pk)) (circuit_part P w)
  unfolding f circuit public_key_of
  holds_circuit w last k ew el ek =
      subst (HoldsCircuit P.n P.m (f P (public_key_of P pk)))
      (sym (ew ∙ el ∙ ap₂ (λ (n j : ℕ). shake256 (take n pk) j) is (ek ∙ leaves_is P)))
      (expanded_circuit (take (S P) pk) P.n P.m _ (omega arith))

  pub holds_challenge : (w more : List ℕ) (k : ℕ) → challenges_part P w ≡ more → more ≡ shake256 (take (2 * s + 2 * s - 2 * s) (drop (2 * s) x)) k → k ≡ room_end P - challenges_at P
      → (e : ℕ) → 1 ≤ e → e ≤ P.tau → challenge_in P.m (challenges_part P w) e ≡ ε P (public_key_of P pk) (extracted P x) e
  unfolding ε challenge extracted
  holds_challenge w more k ew em ek e a b =
      let q : 2 * s + 2 * s - 2 * s ≡ 2 * S P = omega arith in
      let r = among e P.tau (packed_length P.m) a b in
      ap (λ (l : List ℕ). challenge_in P.m l e)
      (ew ∙ em ∙ ap₂ (λ (n i : ℕ). shake256 (take n (drop i x)) k) q (ap (λ (i : ℕ). 2 * i) is) ∙ ap (shake256 (take (2 * S P) (drop (2 * S P) x))) (ek ∙ challenges_size P))
      ∙ expanded_challenge (take (2 * S P) (drop (2 * S P) x)) P.m e (P.tau * packed_length P.m) r

  pub holds_hidden : (parties : List ℕ) (k : ℕ) → parties ≡ shake256 (take (2 * s + 2 * s + 2 * s - (2 * s + 2 * s)) (drop (2 * s + 2 * s) x)) k → k ≡ P.tau
      → (e : ℕ) → 1 ≤ e → e ≤ P.tau → hidden_in P.l parties e ≡ hidden P (public_key_of P pk) (extracted P x) e
  unfolding hidden hidden_party extracted
  holds_hidden parties k ep ek e a b =
      let q : 2 * s + 2 * s + 2 * s - (2 * s + 2 * s) ≡ 2 * S P = omega arith in
      let l = fit.levels in
      let m = fit.sixteen in
      ap (λ (l : List ℕ). hidden_in P.l l e)
      (ep ∙ ap₂ (λ (n i : ℕ). shake256 (take n (drop i x)) k) q (ap (λ (i : ℕ). 2 * i + 2 * i) is) ∙ ap (shake256 (take (2 * S P) (drop (2 * S P + 2 * S P) x))) ek)
      ∙ expanded_hidden (take (2 * S P) (drop (2 * S P + 2 * S P) x)) P.l e P.tau (omega arith) (omega arith) (omega arith)
