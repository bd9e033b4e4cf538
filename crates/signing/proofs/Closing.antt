-- Salt and hashes in front of what is opened: the signature is whole. Assumes nothing.
use mathlib.Core.Path.{◌≡◌, refl, sym, ap, ap₂, ◌∙◌, subst}
use mathlib.Core.List.{List, ◌++◌, append_assoc}
use Prim.Native.Nat.{ℕ, ◌+◌, ◌-◌, ◌*◌, ◌≤◌}
use native.Mathlib.Omega.{arith}
use lib.ListN.{length, take, drop, length-append}
use lib.Seq.{take_at, take_all}
use Rattle.memory.specs.Lists.{put}
use Rattle.memory.proofs.Parts.{length-put, from_put, lent-put, length-lent}
use Rattle.field.specs.Packing.{pack, packed_length}
use Rattle.sponge.specs.Sponge.{shake256}
use Rattle.sponge.proofs.Laws.{length-shake256}
use Rattle.sets.specs.Sets.{S, signature_length}
use Rattle.sets.specs.declared.Params.{Params}
use Rattle.biscuit.specs.Room.{Fits, roots_at}
use Rattle.biscuit.specs.Signature.{repeated, shown, vectors, vector_count, head_length, packing_at, written}
use Rattle.biscuit.specs.Sign.{Signer, h₁, h₂, signed}
use Rattle.biscuit.proofs.Parts.{drop-behind-put}
use Rattle.passes.specs.Passes.{HoldsRoots}
use Rattle.replies.specs.Replies.{Challenged, HoldsHidden}
use Rattle.replies.proofs.Expanded.{hidden_expanded}
use Rattle.signing.specs.Signing.{HoldsHashes}
use Rattle.signing.proofs.Assembling.{sections_written}
use Rattle.signing.proofs.Sizes.{sections}

module _ (P : Params) (fits : Fits P) where
  module _ (x salt h1 h2 : List ℕ) (size : length x ≡ signature_length P) (salts : length salt ≡ 2 * S P) (firsts : length h1 ≡ 2 * S P) (seconds : length h2 ≡ 2 * S P) where
    head_size : length (salt ++ (h1 ++ h2)) ≡ head_length P
    head_size = let s = (sections P).head in let a = length-append h1 h2 in let b = length-append salt (h1 ++ h2) in omega arith

    pub head_parts_fit : length salt + length h1 + length h2 ≤ length x
    head_parts_fit = let k = sections P in let s = k.head in let b = k.body in let w = k.whole in omega arith

    head_room : 0 + length (salt ++ (h1 ++ h2)) ≤ length x
    head_room = let k = sections P in let s = head_size in let b = k.body in let w = k.whole in omega arith

    packing_behind : drop (packing_at P) (put x 0 (salt ++ (h1 ++ h2))) ≡ drop (packing_at P) x
    packing_behind = let s = head_size in let b = (sections P).body in drop-behind-put x 0 (salt ++ (h1 ++ h2)) (packing_at P) head_room (omega arith)

    head_before : take (head_length P) (put x 0 (salt ++ (h1 ++ h2))) ≡ salt ++ (h1 ++ h2)
    head_before = ap (take (head_length P)) (from_put x 0 (salt ++ (h1 ++ h2)) head_room) ∙ take_at (salt ++ (h1 ++ h2)) _ (head_length P) head_size

    -- the sections one behind the other
    whole-written : (signer : Signer) (msg : List ℕ) → signer.salt ≡ salt → h1 ≡ h₁ P signer msg → h2 ≡ h₂ P signer msg
        → (salt ++ (h1 ++ h2)) ++ (repeated P.tau (λ e. shown ((signed P signer msg).opening e)) ++ pack (vectors P (signed P signer msg))) ≡ written P (signed P signer msg)
    unfolding signed
    whole-written signer msg salted first second =
        append_assoc salt (h1 ++ h2) _
        ∙ sections_written P (signed P signer msg) salt (h1 ++ h2) _ _ (sym salted) (ap₂ (λ (u v : List ℕ). u ++ v) first second) refl refl

    -- from the promise of the opening
    pub closed : (secret hidden w y z : List ℕ) (n : ℕ) → n ≡ P.tau → hidden ≡ shake256 h2 n → y ≡ put x 0 (salt ++ (h1 ++ h2))
        → ((signer : Signer) (msg : List ℕ) → Challenged P signer msg salt secret (drop (packing_at P) y) w → HoldsRoots P signer (drop (roots_at P) w) → HoldsHidden P signer msg hidden
        → z ≡ take (head_length P) y ++ (repeated P.tau (λ e. shown ((signed P signer msg).opening e)) ++ pack (vectors P (signed P signer msg))))
        → (signer : Signer) (msg : List ℕ) → HoldsHashes P signer msg salt secret h1 h2 (drop (packing_at P) x) w → z ≡ written P (signed P signer msg)
    closed secret hidden w y z n many tape headed opens signer msg known =
        let all = tape ∙ ap₂ shake256 known.second many in
        opens signer msg
        (subst (λ (q : List ℕ). Challenged P signer msg salt secret q w) (sym (ap (drop (packing_at P)) headed ∙ packing_behind)) known.challenged)
        known.rooted
        (hidden_expanded P fits signer msg hidden (ap (take P.tau) all ∙ take_all P.tau _ (let l = length-shake256 (h₂ P signer msg) P.tau in omega arith)))
        ∙ ap (λ (u : List ℕ). u ++ (repeated P.tau (λ e. shown ((signed P signer msg).opening e)) ++ pack (vectors P (signed P signer msg))))
        (ap (take (head_length P)) headed ∙ head_before)
        ∙ whole-written signer msg known.challenged.held.salted known.first known.second

-- ---- the corrections in the packing, before anything else is written

module _ (P : Params) (x : List ℕ) (size : length x ≡ signature_length P) (a e : ℕ) (at : a ≡ packing_at P) (end : e ≡ length x) where
  pub packing_part : length (take (e - a) (drop a x)) ≡ packed_length (vector_count P)
  packing_part =
      let w = (sections P).whole in
      length-lent x a e (omega arith) (omega arith) ∙ (let n : e - a ≡ packed_length (vector_count P) = omega arith in n)

  module _ (q : List ℕ) (kept : length q ≡ length (take (e - a) (drop a x))) where
    packed_put : take a x ++ (q ++ drop (e - a) (drop a x)) ≡ put x a q
    packed_put = let w = (sections P).whole in let n = packing_part in lent-put x a e q (omega arith)

    packed_room : a + length q ≤ length x
    packed_room = let w = (sections P).whole in let n = packing_part in omega arith

    pub packed_size : length (take a x ++ (q ++ drop (e - a) (drop a x))) ≡ signature_length P
    packed_size = ap length packed_put ∙ length-put x a q packed_room ∙ size
