-- The hidden parties of all repetitions opened: what is shown in its section, and the packing behind it, with the hidden α behind the corrections. Assumes nothing.
use mathlib.Core.Path.{◌≡◌, sym, ap, ap₂, ◌∙◌, subst}
use mathlib.Core.List.{List, [], ◌++◌, append_assoc, append-nil}
use Prim.Native.Nat.{ℕ, ◌+◌, ◌-◌, ◌*◌, ◌≤◌, ◌<◌}
use native.Mathlib.Omega.{arith}
use lib.ListN.{length, get_or, take, drop, length-append, length-drop, drop_of_length-le}
use lib.Seq.{take_at, drop_at, take_all, drop-drop, get_or-drop, length-take-le}
use Rattle.memory.specs.Lists.{put}
use Rattle.memory.proofs.Parts.{length-put, drop-put, lent-put, length-lent}
use Rattle.field.specs.Packing.{Bytes, pack, packed_length}
use Rattle.sets.specs.Sets.{S, signature_length}
use Rattle.sets.specs.declared.Params.{Params}
use Rattle.forms.specs.Room.{HoldsCircuit}
use Rattle.refusals.specs.Refusals.{work_length}
use Rattle.biscuit.specs.Room.{Fits, roots_at, challenges_at}
use Rattle.biscuit.specs.Signature.{repeated, shown, vectors, vector_count, head_length, packing_at}
use Rattle.biscuit.specs.Sign.{Signer, f, opening, signed}
use Rattle.opening.specs.Shown.{leaf_of, shown_of}
use Rattle.opening.proofs.Turning.{length_all_shown, length_all_leaves}
use Rattle.passes.specs.Passes.{HoldsRoots, HoldsCorrections}
use Rattle.replies.specs.Replies.{HoldsChallenges, Challenged, HoldsHidden, alpha_at}
use Rattle.replies.proofs.Hiding.{HoldsAlphas, ShownTo, challenged-below, below-shown, alphas-signed}
use Rattle.signing.proofs.Assembling.{packing_written}
use Rattle.signing.proofs.Rooted.{taken_size, shown_in_signature, back_size, back_circuit, back_challenges, back_leaves}
use Rattle.signing.proofs.Sizes.{sections}

-- ---- the signature

-- the section that is lent for what is shown
pub shown_size : (P : Params) (x : List ℕ) (a b : ℕ) → length x ≡ signature_length P → a ≡ head_length P → b ≡ packing_at P → length (take (b - a) (drop a x)) ≡ P.tau * (P.l * S P + 2 * S P)
shown_size P x a b size head body =
    let s = sections P in
    let g = s.body in
    let h = s.whole in
    length-lent x a b (omega arith) (omega arith) ∙ (let n : b - a ≡ P.tau * (P.l * S P + 2 * S P) = omega arith in n)

module _ (P : Params) (x o : List ℕ) (a b e : ℕ) (size : length x ≡ signature_length P) (head : a ≡ head_length P) (body : b ≡ packing_at P) (end : e ≡ length x)
    (section : length o ≡ P.tau * (P.l * S P + 2 * S P)) where
  shown_in : List ℕ
  shown_in = take a x ++ (o ++ drop (b - a) (drop a x))

  -- the sections as numbers
  record Ends : Type 0 where
    shows : b ≡ a + length o
    packs : e ≡ b + packed_length (vector_count P)

  ends : Ends
  ends =
      let s = sections P in
      let g = s.body in
      let h = s.whole in
      record { shows = omega arith; packs = omega arith }

  shown_in_put : shown_in ≡ put x a o
  unfolding shown_in
  shown_in_put = let s = ends.shows in lent-put x a b o (omega arith)

  fits : a + length o ≤ length x
  fits = let s = ends.shows in let p = ends.packs in omega arith

  shown_in_size : length shown_in ≡ length x
  shown_in_size = ap length shown_in_put ∙ length-put x a o fits

  behind : drop b shown_in ≡ drop b x
  behind = ap₂ drop ends.shows shown_in_put ∙ drop-put x a o fits ∙ ap (λ (k : ℕ). drop k x) (sym ends.shows)

  -- the packing that is lent is the one that was there
  lent_packing : take (e - b) (drop b (take a x ++ (o ++ drop (b - a) (drop a x)))) ≡ drop (packing_at P) x
  unfolding shown_in
  lent_packing =
      take_all (e - b) (drop b shown_in) (let l = ap length behind ∙ length-drop b x in let p = ends.packs in omega arith) ∙ behind ∙ ap (λ (k : ℕ). drop k x) body

  lent_packing_size : length (take (e - b) (drop b (take a x ++ (o ++ drop (b - a) (drop a x))))) ≡ packed_length (vector_count P)
  unfolding shown_in
  lent_packing_size =
      let p = ends.packs in
      let n = shown_in_size in
      length-lent shown_in b e (omega arith) (omega arith) ∙ (let t : e - b ≡ packed_length (vector_count P) = omega arith in t)

  module _ (q : List ℕ) (kept : length q ≡ packed_length (vector_count P)) where
    whole : List ℕ
    whole = take b shown_in ++ (q ++ drop (e - b) (drop b shown_in))

    nothing_behind : drop (e - b) (drop b shown_in) ≡ []
    nothing_behind = let p = ends.packs in let n = shown_in_size in drop-drop (e - b) b shown_in ∙ drop_of_length-le shown_in {i = b + (e - b)} (omega arith)

    front : take b shown_in ≡ take a x ++ o
    unfolding shown_in
    front =
        let s = ends.shows in
        let p = ends.packs in
        let n : length (take a x) ≡ a = length-take-le a x (omega arith) in
        ap (take b) (sym (append_assoc (take a x) o (drop (b - a) (drop a x))))
        ∙ take_at (take a x ++ o) _ b (length-append (take a x) o ∙ ap (λ (k : ℕ). k + length o) n ∙ sym s)

    -- the three parts
    three_sections : take b (take a x ++ (o ++ drop (b - a) (drop a x))) ++ (q ++ drop (e - b) (drop b (take a x ++ (o ++ drop (b - a) (drop a x))))) ≡ take (head_length P) x ++ (o ++ q)
    unfolding shown_in whole
    three_sections =
        ap₂ (λ (u v : List ℕ). u ++ (q ++ v)) front nothing_behind
        ∙ ap (λ (v : List ℕ). (take a x ++ o) ++ v) (append-nil q)
        ∙ append_assoc (take a x) o q
        ∙ ap (λ (k : ℕ). take k x ++ (o ++ q)) head

    packing_in_whole : drop b whole ≡ q
    unfolding whole
    packing_in_whole =
        let p = ends.packs in
        let n = shown_in_size in
        drop_at (take b shown_in) _ b (length-take-le b shown_in (omega arith)) ∙ ap (λ (v : List ℕ). q ++ v) nothing_behind ∙ append-nil q

    -- the packing is of bytes, since the signature is
    packing_bytes : Bytes (take b (take a x ++ (o ++ drop (b - a) (drop a x))) ++ (q ++ drop (e - b) (drop b (take a x ++ (o ++ drop (b - a) (drop a x)))))) → Bytes q
    unfolding shown_in whole
    packing_bytes h i = subst (λ (k : ℕ). k < 256) (sym (get_or-drop b whole i 0) ∙ ap (λ (l : List ℕ). get_or l i 0) packing_in_whole) (h (b + i))

    packing_signed : (signer : Signer) (msg : List ℕ) → Fits P
        → Bytes (take b (take a x ++ (o ++ drop (b - a) (drop a x))) ++ (q ++ drop (e - b) (drop b (take a x ++ (o ++ drop (b - a) (drop a x))))))
        → HoldsCorrections P signer P.tau q → HoldsAlphas P signer msg P.tau q → q ≡ pack (vectors P (signed P signer msg))
    unfolding HoldsCorrections HoldsAlphas alpha_at signed opening
    packing_signed signer msg f bytes corrections alphas = packing_written P (signed P signer msg) q kept (packing_bytes bytes) f.even corrections alphas

-- ---- all together

module _ (P : Params) (fits : Fits P) (x w salt secret hidden l o : List ℕ) (a b c d e : ℕ) (size : length x ≡ signature_length P) (room-size : length w ≡ work_length)
    (head : a ≡ head_length P) (body : b ≡ packing_at P) (end : e ≡ length x) (at : c ≡ roots_at P) (to : d ≡ challenges_at P)
    (shows : o ≡ repeated P.tau (shown_of P salt hidden (take (d - c) (drop c w)))) (leaves : l ≡ repeated P.tau (leaf_of P salt hidden (take (d - c) (drop c w)))) where
  shows_size : length o ≡ P.tau * (P.l * S P + 2 * S P)
  shows_size = ap length shows ∙ length_all_shown P salt hidden (take (d - c) (drop c w)) P.tau

  leaves_size : length l ≡ P.tau * S P
  leaves_size = ap length leaves ∙ length_all_leaves P salt hidden (take (d - c) (drop c w)) (taken_size P fits w room-size c d at to) P.tau (omega arith)

  pub packing_sized : length (take (e - b) (drop b (take a x ++ (o ++ drop (b - a) (drop a x))))) ≡ packed_length (vector_count P)
  packing_sized = lent_packing_size P x o a b e size head body end shows_size

  pub work-sized : length (take c w ++ (l ++ drop (d - c) (drop c w))) ≡ work_length
  work-sized = back_size P fits w room-size c d at to l leaves_size

  -- the signer has what the pass asks for
  challenged_back : (signer : Signer) (msg : List ℕ) → Challenged P signer msg salt secret (drop (packing_at P) x) w
      → Challenged P signer msg salt secret (take (e - b) (drop b (take a x ++ (o ++ drop (b - a) (drop a x))))) (take c w ++ (l ++ drop (d - c) (drop c w)))
  challenged_back signer msg known = record {
    held = known.held;
    circuit = subst (HoldsCircuit P.n P.m (f P signer)) (sym (back_circuit P fits w room-size c d at to l leaves_size)) known.circuit;
    challenges = subst (HoldsChallenges P signer msg) (sym (back_challenges P fits w room-size c d at to l leaves_size)) known.challenges;
    corrections = subst (HoldsCorrections P signer P.tau) (sym (lent_packing P x o a b e size head body end shows_size)) known.corrections;
  }

  pub opened : length secret ≡ P.n + P.m + P.m → (q : List ℕ) → length q ≡ length (take (e - b) (drop b (take a x ++ (o ++ drop (b - a) (drop a x)))))
      → ShownTo P salt secret hidden (take c w ++ (l ++ drop (d - c) (drop c w))) P.tau (take (e - b) (drop b (take a x ++ (o ++ drop (b - a) (drop a x))))) q
      → Bytes (take b (take a x ++ (o ++ drop (b - a) (drop a x))) ++ (q ++ drop (e - b) (drop b (take a x ++ (o ++ drop (b - a) (drop a x))))))
      → (signer : Signer) (msg : List ℕ) → Challenged P signer msg salt secret (drop (packing_at P) x) w → HoldsRoots P signer (drop (roots_at P) w) → HoldsHidden P signer msg hidden
      → take b (take a x ++ (o ++ drop (b - a) (drop a x))) ++ (q ++ drop (e - b) (drop b (take a x ++ (o ++ drop (b - a) (drop a x)))))
      ≡ take (head_length P) x ++ (repeated P.tau (λ e. shown ((signed P signer msg).opening e)) ++ pack (vectors P (signed P signer msg)))
  opened elements q kept shown bytes signer msg known roots hides =
      let salted = known.held.salted in
      let back = challenged_back signer msg known in
      let work = take c w ++ (l ++ drop (d - c) (drop c w)) in
      let lent = take (e - b) (drop b (take a x ++ (o ++ drop (b - a) (drop a x)))) in
      let alphas = alphas-signed P salt secret hidden work lent q packing_sized shown elements signer msg back hides (back_leaves P fits w room-size c d at to l leaves_size signer msg salt hidden salted hides roots leaves) in
      let stay = (challenged-below P signer msg salt secret lent q work (below-shown P salt secret hidden work lent q packing_sized shown) back).corrections in
      three_sections P x o a b e size head body end shows_size q (kept ∙ packing_sized)
      ∙ ap₂ (λ (u v : List ℕ). take (head_length P) x ++ (u ++ v))
      (shown_in_signature P fits w room-size c d at to signer msg salt hidden salted hides roots o shows)
      (packing_signed P x o a b e size head body end shows_size q (kept ∙ packing_sized) signer msg fits bytes stay alphas)
