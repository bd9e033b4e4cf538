-- Rooms filled from the tapes of the two hashes hold the challenges and the hidden parties of algorithm 12. Assumes nothing.
use mathlib.Core.Path.{◌≡◌, sym, ap, ◌∙◌}
use mathlib.Core.List.{List}
use Prim.Native.Nat.{ℕ, ◌+◌, ◌-◌, ◌*◌, ◌%◌, ◌^◌, ◌≤◌}
use native.Mathlib.Omega.{arith}
use lib.ListN.{get_or, take, drop}
use lib.Seq.{get_or-take}
use Rattle.field.specs.Packing.{packed_length}
use Rattle.field.proofs.Packing.{nib-take, nib-drop, unpack-same}
use Rattle.sponge.specs.Sponge.{shake256}
use Rattle.sets.specs.declared.Params.{Params}
use Rattle.forms.specs.Room.{challenge_in, hidden_in}
use Rattle.forms.proofs.Room.{packed_holds, expanded_challenge, expanded_hidden}
use Rattle.parties.specs.Repetition.{challenge, hidden_party}
use Rattle.biscuit.specs.Sign.{Signer, h₁, ε, h₂, hidden}
use Rattle.biscuit.specs.Room.{Fits}
use Rattle.biscuit.proofs.Repeated.{among}
use Rattle.replies.specs.Replies.{HoldsChallenges, HoldsHidden}

-- a challenge among the first bytes
challenge-first : (m e total : ℕ) (bytes : List ℕ) → (e - 1) * packed_length m + packed_length m ≤ total → challenge_in m bytes e ≡ challenge_in m (take total bytes) e
unfolding challenge_in
challenge-first m e total bytes h =
    unpack-same m (drop ((e - 1) * packed_length m) bytes) (drop ((e - 1) * packed_length m) (take total bytes))
    (λ i l. nib-drop ((e - 1) * packed_length m) bytes i
    ∙ sym (nib-take total bytes ((e - 1) * packed_length m * 2 + i) (let p = packed_holds m in omega arith))
    ∙ sym (nib-drop ((e - 1) * packed_length m) (take total bytes) i))

pub challenges_expanded : (P : Params) (signer : Signer) (msg bytes : List ℕ) → take (P.tau * packed_length P.m) bytes ≡ shake256 (h₁ P signer msg) (P.tau * packed_length P.m)
    → HoldsChallenges P signer msg bytes
unfolding HoldsChallenges ε challenge
challenges_expanded P signer msg bytes h = λ e from to.
    let fits = among e P.tau (packed_length P.m) from to in
    challenge-first P.m e (P.tau * packed_length P.m) bytes fits
    ∙ ap (λ (b : List ℕ). challenge_in P.m b e) h
    ∙ expanded_challenge (h₁ P signer msg) P.m e (P.tau * packed_length P.m) fits

pub hidden_expanded : (P : Params) → Fits P → (signer : Signer) (msg bytes : List ℕ) → take P.tau bytes ≡ shake256 (h₂ P signer msg) P.tau → HoldsHidden P signer msg bytes
unfolding HoldsHidden hidden hidden_party hidden_in
hidden_expanded P f signer msg bytes h = λ e from to.
    let a = f.sixteen in
    let b = f.levels in
    ap (λ (x : ℕ). x % 2 ^ P.l + 1) (sym (get_or-take P.tau bytes (e - 1) 0 (omega arith)) ∙ ap (λ (l : List ℕ). get_or l (e - 1) 0) h)
    ∙ expanded_hidden (h₂ P signer msg) P.l e P.tau (omega arith) (omega arith) (omega arith)
