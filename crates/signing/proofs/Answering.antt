-- The room of work while the hashes are made: what the challenges are written over, what the passes keep, and both hashes with all that came before them.
-- Assumes nothing.
use mathlib.Core.Path.{◌≡◌, sym, ap, ap₂, ◌∙◌, subst}
use mathlib.Core.List.{List, ◌∷◌, ◌++◌}
use Prim.Native.Nat.{ℕ, ◌+◌, ◌-◌, ◌*◌, ◌≤◌}
use native.Mathlib.Omega.{arith}
use lib.ListN.{length, take, drop}
use lib.Seq.{take_at, drop-drop}
use Rattle.memory.specs.Lists.{put}
use Rattle.memory.proofs.Parts.{length-put, from_put, lent-put, length-lent}
use Rattle.memory.proofs.Sections.{part-before-put}
use Rattle.field.specs.Packing.{packed_length}
use Rattle.sponge.specs.declared.Sponge.{Sponge}
use Rattle.sponge.specs.declared.Tape.{Tape}
use Rattle.sponge.specs.Sponge.{shake256}
use Rattle.sponge.specs.Steps.{fresh, absorbed, finished, given}
use Rattle.sponge.proofs.Laws.{length-shake256}
use Rattle.sets.specs.Sets.{S}
use Rattle.sets.specs.declared.Params.{Params}
use Rattle.hashes.specs.Hashes.{first_hash, second_hash, hash1, hash2}
use Rattle.hashes.proofs.Laws.{first-absorbed, second-absorbed, given-first, given-second}
use Rattle.forms.specs.Room.{HoldsCircuit}
use Rattle.refusals.specs.Refusals.{work_length}
use Rattle.biscuit.specs.Room.{Fits, leaves_at, roots_at, challenges_at, room_end, root_in}
use Rattle.biscuit.specs.Sign.{Signer, f, σ₁, h₁, h₂, σ₂}
use Rattle.biscuit.proofs.Parts.{take-before-put}
use Rattle.biscuit.proofs.Repeated.{among}
use Rattle.biscuit.proofs.Room.{mapped}
use Rattle.passes.specs.Passes.{HoldsSecret, HoldsRoots, HoldsCorrections, Kept}
use Rattle.passes.proofs.Committing.{roots_kept}
use Rattle.replies.specs.Replies.{Challenged}
use Rattle.replies.proofs.Answering.{challenged-kept}
use Rattle.replies.proofs.Expanded.{challenges_expanded}
use Rattle.signing.specs.Signing.{HoldsSigner, HoldsHashes}

module _ (P : Params) where
  -- a pass keeps what a signer holds
  signer_kept : (w v : List ℕ) → Kept P w v → (signer : Signer) (salt secret : List ℕ) → HoldsSigner P signer salt secret w → HoldsSigner P signer salt secret v
  signer_kept w v kept signer salt secret held = record {
    holds_secret = held.holds_secret;
    holds_roots = roots_kept P signer w v kept held.holds_roots;
    holds_circuit = subst (HoldsCircuit P.n P.m (f P signer)) (sym kept.circuit) held.holds_circuit;
  }

  -- ---- the challenges of the first hash, written behind the roots

  module _ (w h1 : List ℕ) (fits : room_end P ≤ length w) where
    tape : List ℕ
    tape = shake256 h1 (P.tau * packed_length P.m)

    tape_fits : challenges_at P + length tape ≤ length w
    unfolding tape
    tape_fits = let l = length-shake256 h1 (P.tau * packed_length P.m) in let m = (mapped P).challenges in omega arith

    challenged_size : length (put w (challenges_at P) (shake256 h1 (P.tau * packed_length P.m))) ≡ length w
    unfolding tape
    challenged_size = length-put w (challenges_at P) tape tape_fits

    circuit-before : take (leaves_at P) (put w (challenges_at P) tape) ≡ take (leaves_at P) w
    circuit-before = let m = mapped P in take-before-put w (challenges_at P) tape (leaves_at P) tape_fits (omega arith)

    root_before : (e : ℕ) → 1 ≤ e → e ≤ P.tau → root_in (S P) (drop (roots_at P) (put w (challenges_at P) tape)) e ≡ root_in (S P) (drop (roots_at P) w) e
    unfolding root_in
    root_before e h g =
        let next = (mapped P).roots in
        let r = among e P.tau (S P) h g in
        ap (take (S P)) (drop-drop ((e - 1) * S P) (roots_at P) (put w (challenges_at P) tape))
        ∙ part-before-put w (challenges_at P) tape (roots_at P + (e - 1) * S P) (S P) (omega arith) tape_fits
        ∙ ap (take (S P)) (sym (drop-drop ((e - 1) * S P) (roots_at P) w))

    -- they are the signer's, and what it held it holds still
    signer_challenged : (signer : Signer) (msg salt secret packing : List ℕ) → h1 ≡ h₁ P signer msg → HoldsSigner P signer salt secret w → HoldsCorrections P signer P.tau packing
        → Challenged P signer msg salt secret packing (put w (challenges_at P) (shake256 h1 (P.tau * packed_length P.m)))
    unfolding tape
    signer_challenged signer msg salt secret packing same held corrected = record {
      held = held.holds_secret;
      circuit = subst (HoldsCircuit P.n P.m (f P signer)) (sym circuit-before) held.holds_circuit;
      challenges =
          challenges_expanded P signer msg _
          (ap (take (P.tau * packed_length P.m)) (from_put w (challenges_at P) tape tape_fits)
          ∙ take_at tape _ (P.tau * packed_length P.m) (length-shake256 h1 _)
          ∙ ap (λ (b : List ℕ). shake256 b (P.tau * packed_length P.m)) same);
      corrections = corrected;
    }

    roots-challenged : (signer : Signer) → HoldsRoots P signer (drop (roots_at P) w) → HoldsRoots P signer (drop (roots_at P) (put w (challenges_at P) (shake256 h1 (P.tau * packed_length P.m))))
    unfolding HoldsRoots tape
    roots-challenged signer held e h g = held e h g ∙ sym (root_before e h g)

  -- the part lent for the challenges, as it comes back
  challenges-put : (fits : Fits P) (w h1 l : List ℕ) (a e : ℕ) → a ≡ challenges_at P → e ≡ room_end P → length w ≡ work_length → l ≡ shake256 h1 (length (take (e - a) (drop a w)))
      → take a w ++ (l ++ drop (e - a) (drop a w)) ≡ put w (challenges_at P) (shake256 h1 (P.tau * packed_length P.m))
  challenges-put fits w h1 l a e at to size r =
      let enough = fits.enough in
      let k = (mapped P).challenges in
      let n : e - a ≡ P.tau * packed_length P.m = omega arith in
      let part = length-lent w a e (omega arith) (omega arith) in
      lent-put w a e l (ap length r ∙ length-shake256 h1 _ ∙ part)
      ∙ ap₂ (put w) at (r ∙ ap (shake256 h1) (part ∙ n))

  pub challenged-work : (fits : Fits P) (w h1 l : List ℕ) (a e : ℕ) → a ≡ challenges_at P → e ≡ room_end P → length w ≡ work_length → l ≡ shake256 h1 (length (take (e - a) (drop a w)))
      → length (take a w ++ (l ++ drop (e - a) (drop a w))) ≡ work_length
  challenged-work fits w h1 l a e at to size r =
      ap length (challenges-put fits w h1 l a e at to size r) ∙ challenged_size w h1 (let enough = fits.enough in omega arith) ∙ size

  -- ---- the second hash

  -- from the promises of the pass over all repetitions
  second-hashed : (signer : Signer) (msg salt h1 h2 : List ℕ) (n : ℕ) (s r : Sponge) (t : Tape) → signer.salt ≡ salt → h1 ≡ h₁ P signer msg → n ≡ 2 * S P
      → s ≡ absorbed fresh (second_hash ∷ (salt ++ h1)) → r ≡ absorbed s (σ₂ P signer msg) → t ≡ finished r → h2 ≡ given t n → h2 ≡ h₂ P signer msg
  unfolding h₂
  second-hashed signer msg salt h1 h2 n s r t salted same size begun full done out =
      out
      ∙ ap₂ given
      (done ∙ ap finished (full ∙ ap (λ (x : Sponge). absorbed x (σ₂ P signer msg)) begun ∙ second-absorbed salt h1 (σ₂ P signer msg))) size
      ∙ given-second (S P) salt h1 (σ₂ P signer msg)
      ∙ ap₂ (λ (x y : List ℕ). hash2 (S P) x y (σ₂ P signer msg)) (sym salted) same

  -- all together
  pub answered : (fits : Fits P) (signer : Signer) (msg salt secret packing w h1 l v h2 : List ℕ) (a e n : ℕ) (s r : Sponge) (t : Tape)
      → a ≡ challenges_at P → e ≡ room_end P → length w ≡ work_length → l ≡ shake256 h1 (length (take (e - a) (drop a w)))
      → s ≡ absorbed fresh (second_hash ∷ (salt ++ h1))
      → ((signer : Signer) (msg : List ℕ) → Challenged P signer msg salt secret packing (take a w ++ (l ++ drop (e - a) (drop a w)))
      → HoldsRoots P signer (drop (roots_at P) (take a w ++ (l ++ drop (e - a) (drop a w)))) → r ≡ absorbed s (σ₂ P signer msg))
      → Kept P (take a w ++ (l ++ drop (e - a) (drop a w))) v → t ≡ finished r → n ≡ 2 * S P → h2 ≡ given t n
      → HoldsSigner P signer salt secret w → h1 ≡ h₁ P signer msg → HoldsCorrections P signer P.tau packing → HoldsHashes P signer msg salt secret h1 h2 packing v
  answered fits signer msg salt secret packing w h1 l v h2 a e n s r t at to size tape begun pass kept done many out held same corrected =
      let there = sym (challenges-put fits w h1 l a e at to size tape) in
      let room : room_end P ≤ length w = (let enough = fits.enough in omega arith) in
      let told = subst (Challenged P signer msg salt secret packing) there (signer_challenged w h1 room signer msg salt secret packing same held corrected) in
      let roots = subst (λ (x : List ℕ). HoldsRoots P signer (drop (roots_at P) x)) there (roots-challenged w h1 room signer held.holds_roots) in
      record {
        challenged = challenged-kept P signer msg salt secret packing _ v kept told;
        rooted = roots_kept P signer _ v kept roots;
        first = same;
        second = second-hashed signer msg salt h1 h2 n s r t held.holds_secret.salted same many begun (pass signer msg told roots) done out;
      }

  -- ---- the first hash

  first-hashed : (signer : Signer) (msg salt h1 : List ℕ) (n : ℕ) (s₀ s r : Sponge) (t : Tape) → signer.salt ≡ salt → n ≡ 2 * S P
      → s₀ ≡ absorbed fresh (first_hash ∷ salt) → s ≡ absorbed s₀ msg → r ≡ absorbed s (σ₁ P signer) → t ≡ finished r → h1 ≡ given t n → h1 ≡ h₁ P signer msg
  unfolding h₁
  first-hashed signer msg salt h1 n s₀ s r t salted size begun said full done out =
      out
      ∙ ap₂ given
      (done ∙ ap finished
      (full ∙ ap (λ (x : Sponge). absorbed x (σ₁ P signer)) (said ∙ ap (λ (x : Sponge). absorbed x msg) begun) ∙ first-absorbed salt msg (σ₁ P signer))) size
      ∙ given-first (S P) salt msg (σ₁ P signer)
      ∙ ap (λ (x : List ℕ). hash1 (S P) x msg (σ₁ P signer)) (sym salted)

  -- both hashes, from the promises of the pass and of the answer
  pub committed : (signer : Signer) (msg salt secret packing w v u h1 h2 : List ℕ) (n : ℕ) (s₀ s r : Sponge) (t : Tape) → n ≡ 2 * S P
      → s₀ ≡ absorbed fresh (first_hash ∷ salt) → s ≡ absorbed s₀ msg
      → ((signer : Signer) → HoldsSecret P signer salt secret → HoldsRoots P signer (drop (roots_at P) w) → r ≡ absorbed s (σ₁ P signer))
      → ((signer : Signer) → HoldsSecret P signer salt secret → HoldsRoots P signer (drop (roots_at P) w) → HoldsCorrections P signer P.tau packing)
      → Kept P w v → t ≡ finished r → h1 ≡ given t n
      → ((signer : Signer) (msg : List ℕ) → HoldsSigner P signer salt secret v → h1 ≡ h₁ P signer msg → HoldsCorrections P signer P.tau packing
      → HoldsHashes P signer msg salt secret h1 h2 packing u)
      → HoldsSigner P signer salt secret w → HoldsHashes P signer msg salt secret h1 h2 packing u
  committed signer msg salt secret packing w v u h1 h2 n s₀ s r t size begun said absorbs writes kept done out answers held =
      answers signer msg (signer_kept w v kept signer salt secret held)
      (first-hashed signer msg salt h1 n s₀ s r t held.holds_secret.salted size begun said (absorbs signer held.holds_secret held.holds_roots) done out)
      (writes signer held.holds_secret held.holds_roots)
