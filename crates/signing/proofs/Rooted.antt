-- The part of work that has the roots, lent and come back: with the roots as they were drawn, or with the leaves of the hidden parties in their place. Assumes nothing.
use mathlib.Core.Path.{◌≡◌, sym, ap, ◌∙◌}
use mathlib.Core.List.{List, ◌++◌}
use Prim.Native.Nat.{ℕ, ◌+◌, ◌-◌, ◌*◌, ◌≤◌}
use native.Mathlib.Omega.{arith}
use lib.ListN.{length, take, drop, length-drop}
use lib.Seq.{take-append-le, drop-append-le}
use Rattle.memory.specs.Lists.{put}
use Rattle.memory.proofs.Parts.{length-put, from_put, lent-put, length-lent}
use Rattle.memory.proofs.Stands.{stands_read}
use Rattle.sets.specs.Sets.{S}
use Rattle.sets.specs.declared.Params.{Params}
use Rattle.refusals.specs.Refusals.{work_length}
use Rattle.biscuit.specs.Room.{Fits, leaves_at, roots_at, challenges_at, root_in}
use Rattle.biscuit.specs.Signature.{repeated, shown}
use Rattle.biscuit.specs.Sign.{Signer, signed}
use Rattle.biscuit.proofs.Parts.{part_of_taken, take-before-put, drop-behind-put}
use Rattle.biscuit.proofs.Repeated.{among, repeated_stands}
use Rattle.biscuit.proofs.Room.{mapped}
use Rattle.opening.specs.Shown.{leaf_of, shown_of}
use Rattle.opening.proofs.Turning.{length-leaf_of}
use Rattle.opening.proofs.Signed.{leaf_signed, all_shown-signed}
use Rattle.passes.specs.Passes.{HoldsRoots}
use Rattle.replies.specs.Replies.{HoldsHidden}
use Rattle.replies.proofs.Hiding.{HoldsLeaves}

module _ (P : Params) (fits : Fits P) (w : List ℕ) (size : length w ≡ work_length) (c d : ℕ) (at : c ≡ roots_at P) (to : d ≡ challenges_at P) where
  -- ---- lent

  pub taken_size : length (take (d - c) (drop c w)) ≡ P.tau * S P
  taken_size =
      let enough = fits.enough in
      let m = mapped P in
      length-lent w c d (omega arith) (omega arith) ∙ (let n : d - c ≡ P.tau * S P = omega arith in n)

  lent-roots : (signer : Signer) → HoldsRoots P signer (drop (roots_at P) w) → (e : ℕ) → 1 ≤ e → e ≤ P.tau → root_in (S P) (take (d - c) (drop c w)) e ≡ signer.root e
  unfolding HoldsRoots root_in
  lent-roots signer held e h g =
      let next = (mapped P).roots in
      let r = among e P.tau (S P) h g in
      part_of_taken (drop c w) ((e - 1) * S P) (S P) (d - c) (omega arith)
      ∙ ap (λ (k : ℕ). take (S P) (drop ((e - 1) * S P) (drop k w))) at
      ∙ sym (held e h g)

  -- what is shown of the hidden parties
  pub shown_in_signature : (signer : Signer) (msg salt hidden : List ℕ) → signer.salt ≡ salt → HoldsHidden P signer msg hidden → HoldsRoots P signer (drop (roots_at P) w)
      → (o : List ℕ) → o ≡ repeated P.tau (shown_of P salt hidden (take (d - c) (drop c w))) → o ≡ repeated P.tau (λ e. shown ((signed P signer msg).opening e))
  unfolding HoldsHidden
  shown_in_signature signer msg salt hidden salted hides roots o r =
      r
      ∙ ap (λ (x : List ℕ). repeated P.tau (shown_of P x hidden (take (d - c) (drop c w)))) (sym salted)
      ∙ all_shown-signed P signer msg hidden (take (d - c) (drop c w)) (lent-roots signer roots) hides

  -- ---- come back with l

  module _ (l : List ℕ) (leaves : length l ≡ P.tau * S P) where
    back : List ℕ
    back = take c w ++ (l ++ drop (d - c) (drop c w))

    back_put : back ≡ put w (roots_at P) l
    unfolding back
    back_put = let next = (mapped P).roots in lent-put w c d l (omega arith) ∙ ap (λ (k : ℕ). put w k l) at

    room_for : roots_at P + length l ≤ length w
    room_for = let enough = fits.enough in let m = mapped P in omega arith

    pub back_size : length (take c w ++ (l ++ drop (d - c) (drop c w))) ≡ work_length
    unfolding back
    back_size = ap length back_put ∙ length-put w (roots_at P) l room_for ∙ size

    pub back_circuit : take (leaves_at P) (take c w ++ (l ++ drop (d - c) (drop c w))) ≡ take (leaves_at P) w
    unfolding back
    back_circuit = let m = mapped P in ap (take (leaves_at P)) back_put ∙ take-before-put w (roots_at P) l (leaves_at P) room_for (omega arith)

    pub back_challenges : drop (challenges_at P) (take c w ++ (l ++ drop (d - c) (drop c w))) ≡ drop (challenges_at P) w
    unfolding back
    back_challenges = let m = mapped P in ap (drop (challenges_at P)) back_put ∙ drop-behind-put w (roots_at P) l (challenges_at P) room_for (omega arith)

    pub back_roots : drop (roots_at P) (take c w ++ (l ++ drop (d - c) (drop c w))) ≡ l ++ drop (roots_at P + length l) w
    unfolding back
    back_roots = ap (drop (roots_at P)) back_put ∙ from_put w (roots_at P) l room_for

    module _ (signer : Signer) (msg salt hidden : List ℕ) (salted : signer.salt ≡ salt) (hides : HoldsHidden P signer msg hidden) (roots : HoldsRoots P signer (drop (roots_at P) w))
        (written : l ≡ repeated P.tau (leaf_of P salt hidden (take (d - c) (drop c w)))) where
      leaf_at : (e : ℕ) → 1 ≤ e → e ≤ P.tau → root_in (S P) (l ++ drop (roots_at P + length l) w) e ≡ leaf_of P salt hidden (take (d - c) (drop c w)) e
      unfolding root_in
      leaf_at e h g =
          let r = among e P.tau (S P) h g in
          ap (take (S P)) (drop-append-le ((e - 1) * S P) l _ (omega arith))
          ∙ take-append-le (S P) (drop ((e - 1) * S P) l) _ (simp length-drop (omega arith))
          ∙ ap (λ (x : List ℕ). take (S P) (drop ((e - 1) * S P) x)) written
          ∙ stands_read _ ((e - 1) * S P) _ (S P) (length-leaf_of P salt hidden (take (d - c) (drop c w)) taken_size e h g)
          (repeated_stands P.tau (leaf_of P salt hidden (take (d - c) (drop c w))) (S P) (λ i a b. length-leaf_of P salt hidden (take (d - c) (drop c w)) taken_size i a b) e h g)

      pub back_leaves : HoldsLeaves P signer msg (drop (roots_at P) (take c w ++ (l ++ drop (d - c) (drop c w))))
      unfolding HoldsLeaves HoldsHidden
      back_leaves e h g =
          ap (λ (x : List ℕ). root_in (S P) x e) back_roots
          ∙ leaf_at e h g
          ∙ ap (λ (x : List ℕ). leaf_of P x hidden (take (d - c) (drop c w)) e) (sym salted)
          ∙ leaf_signed P signer msg hidden (take (d - c) (drop c w)) e (lent-roots signer roots e h g) (hides e h g)
