-- The corrections do what they should: the corrected shares sum to the secret, and their helper is y times the mask.
-- Assumes nothing.
use mathlib.Core.Path.{◌≡◌, refl, sym, ap, ap₂, ◌∙◌, subst}
use mathlib.Core.List.{List, [], ◌∷◌, map}
use Prim.Native.Nat.{ℕ, suc, ◌+◌, ◌<◌, ◌≤◌}
use native.Mathlib.Omega.{arith}
use borrow.Author.Tests.{ne_eqb}
use lib.Bits.{bit_xor, xor_comm}
use lib.ListN.{length}
use lib.Seq.{ext_get_or}
use Rattle.memory.proofs.Bits.{xor_cancel}
use Rattle.field.specs.Packing.{packed_length}
use Rattle.field.specs.Vectors.{◌!◌, ◌⊕◌, ◌⊙◌, total}
use Rattle.field.proofs.Vectors.{⊕-at, ⊕-comm, ⊕-assoc, length_⊕, length_⊙}
use Rattle.sets.specs.declared.Params.{Params}
use Rattle.forms.proofs.Sampling.{length-sample_elements}
use Rattle.hashes.specs.Hashes.{tape_fields}
use Rattle.parties.specs.Parties.{Share, numbered, parties, secret, mask, helper, corrected}
use Rattle.parties.specs.Repetition.{raw_share, raws, delta_s, delta_c, shares}
use Rattle.parties.proofs.Numbered.{length-parties, numbered-same, numbered-map}
use Rattle.parties.proofs.Sizes.{Sized, AllSized, length-secret-le, length-mask, length-helper-le}

-- what is added and taken away again, where it is no longer than the rest
pub ⊕-back : (u v : List ℕ) → length v ≤ length u → v ⊕ (u ⊕ v) ≡ u
⊕-back u v h =
    ext_get_or 0 (v ⊕ (u ⊕ v)) u
    (let a = length_⊕ v (u ⊕ v) in let b = length_⊕ u v in omega arith)
    (λ i g. ⊕-at v (u ⊕ v) i ∙ ap (bit_xor (v ! i)) (⊕-at u v i ∙ xor_comm (u ! i) (v ! i)) ∙ xor_cancel (v ! i) (u ! i))

-- ---- the corrections, at any shares

corrected-first : (Δs Δc : List ℕ) (p : Share) → corrected Δs Δc 1 p ≡ record { s = p.s ⊕ Δs; a = p.a; c = p.c ⊕ Δc }
unfolding corrected
corrected-first Δs Δc p = refl

corrected_other : (Δs Δc : List ℕ) (i : ℕ) (p : Share) → 2 ≤ i → corrected Δs Δc i p ≡ p
unfolding corrected
corrected_other Δs Δc i p h = rw (ne_eqb i 1 (λ e. omega arith))

map_self : (ps : List Share) → map (λ p. p) ps ≡ ps
map_self [] = refl
map_self (p ∷ ps) = ap (λ (l : List Share). p ∷ l) (map_self ps)

-- party 1 takes the corrections, and the others stay as they are
pub corrected-parties : (Δs Δc : List ℕ) (p : Share) (ps : List Share)
    → parties (corrected Δs Δc) (p ∷ ps) ≡ record { s = p.s ⊕ Δs; a = p.a; c = p.c ⊕ Δc } ∷ ps
unfolding parties numbered
corrected-parties Δs Δc p ps =
    ap₂ (λ (q : Share) (l : List Share). q ∷ l) (corrected-first Δs Δc p)
    (numbered-same (corrected Δs Δc) (λ i q. q) 2 ps (λ i q h. corrected_other Δs Δc i q h) ∙ numbered-map (λ (q : Share). q) 2 ps ∙ map_self ps)

moved-last : (u v w : List ℕ) → (u ⊕ v) ⊕ w ≡ (u ⊕ w) ⊕ v
moved-last u v w = ⊕-assoc u v w ∙ ap (λ (x : List ℕ). u ⊕ x) (⊕-comm v w) ∙ sym (⊕-assoc u w v)

pub secret-corrected : (Δs Δc : List ℕ) (p : Share) (ps : List Share) → secret (parties (corrected Δs Δc) (p ∷ ps)) ≡ secret (p ∷ ps) ⊕ Δs
unfolding secret total
secret-corrected Δs Δc p ps = ap secret (corrected-parties Δs Δc p ps) ∙ moved-last p.s Δs (secret ps)

pub mask-corrected : (Δs Δc : List ℕ) (p : Share) (ps : List Share) → mask (parties (corrected Δs Δc) (p ∷ ps)) ≡ mask (p ∷ ps)
unfolding mask total
mask-corrected Δs Δc p ps = ap mask (corrected-parties Δs Δc p ps)

pub helper-corrected : (Δs Δc : List ℕ) (p : Share) (ps : List Share) → helper (parties (corrected Δs Δc) (p ∷ ps)) ≡ helper (p ∷ ps) ⊕ Δc
unfolding helper total
helper-corrected Δs Δc p ps = ap helper (corrected-parties Δs Δc p ps) ∙ moved-last p.c Δc (helper ps)

-- where Δs is s minus the secret, the corrected secret is s
secret-set_right : (n m : ℕ) (s Δc : List ℕ) (ps : List Share) → 0 < length ps → AllSized n m ps → length s ≡ n
    → secret (parties (corrected (s ⊕ secret ps) Δc) ps) ≡ s
secret-set_right n m s Δc [] h z e = absurd (omega arith)
secret-set_right n m s Δc (p ∷ ps) h z e =
    secret-corrected (s ⊕ secret (p ∷ ps)) Δc p ps
    ∙ ⊕-back s (secret (p ∷ ps)) (let l = length-secret-le n m (p ∷ ps) z in omega arith)

-- where Δc is y times the mask minus the helper, the corrected helper is y times the mask
helper-set_right : (n m : ℕ) (y Δs : List ℕ) (ps : List Share) → 0 < length ps → AllSized n m ps → length y ≡ m
    → helper (parties (corrected Δs (y ⊙ mask ps ⊕ helper ps)) ps) ≡ y ⊙ mask (parties (corrected Δs (y ⊙ mask ps ⊕ helper ps)) ps)
helper-set_right n m y Δs [] h z e = absurd (omega arith)
helper-set_right n m y Δs (p ∷ ps) h z e =
    let Δc = y ⊙ mask (p ∷ ps) ⊕ helper (p ∷ ps) in
    helper-corrected Δs Δc p ps
    ∙ ⊕-back (y ⊙ mask (p ∷ ps)) (helper (p ∷ ps))
    (let l = length-helper-le n m (p ∷ ps) z in let k = length-mask n m p ps z in let r = length_⊙ y (mask (p ∷ ps)) in omega arith)
    ∙ ap (λ (x : List ℕ). y ⊙ x) (sym (mask-corrected Δs Δc p ps))

-- the helper's correction has m entries
length-helper-set : (n m : ℕ) (y : List ℕ) (ps : List Share) → 0 < length ps → AllSized n m ps → length y ≡ m → length (y ⊙ mask ps ⊕ helper ps) ≡ m
length-helper-set n m y [] h z e = absurd (omega arith)
length-helper-set n m y (p ∷ ps) h z e =
    let a = length-mask n m p ps z in
    let b = length-helper-le n m (p ∷ ps) z in
    let c = length_⊙ y (mask (p ∷ ps)) in
    let d = length_⊕ (y ⊙ mask (p ∷ ps)) (helper (p ∷ ps)) in
    omega arith

-- corrections no longer than the shares leave their sizes as they are
corrected-sized : (n m : ℕ) (Δs Δc : List ℕ) (ps : List Share) → length Δs ≤ n → length Δc ≤ m → AllSized n m ps
    → AllSized n m (parties (corrected Δs Δc) ps)
unfolding parties numbered
corrected-sized n m Δs Δc [] hs hc z = tt
corrected-sized n m Δs Δc (p ∷ ps) hs hc z =
    subst (AllSized n m) (sym (corrected-parties Δs Δc p ps)) (
      record {
        s = (let e = z.0.s in let l = length_⊕ p.s Δs in omega arith);
        a = z.0.a;
        c = (let e = z.0.c in let l = length_⊕ p.c Δc in omega arith);
      },
      z.1,
    )

-- ---- the shares of a repetition

module _ (P : Params) (salt : List ℕ) (e : ℕ) where
  raw_share-sized : (i : ℕ) (seed : List ℕ) → Sized P.n P.m (raw_share P salt e i seed)
  unfolding raw_share
  raw_share-sized i seed = record {
    s = length-sample_elements (tape_fields salt e i seed) 0 P.n;
    a = length-sample_elements (tape_fields salt e i seed) (packed_length P.n) P.m;
    c = length-sample_elements (tape_fields salt e i seed) (packed_length P.n + packed_length P.m) P.m;
  }

  numbered-sized : (i : ℕ) (seeds : List (List ℕ)) → AllSized P.n P.m (numbered i (raw_share P salt e) seeds)
  unfolding numbered
  numbered-sized i [] = tt
  numbered-sized i (seed ∷ seeds) = (raw_share-sized i seed, numbered-sized (suc i) seeds)

  pub raws-sized : (seeds : List (List ℕ)) → AllSized P.n P.m (raws P salt e seeds)
  unfolding raws parties
  raws-sized seeds = numbered-sized 1 seeds

  length-raws : (seeds : List (List ℕ)) → length (raws P salt e seeds) ≡ length seeds
  unfolding raws
  length-raws seeds = length-parties (raw_share P salt e) seeds

  pub length-shares : (s y : List ℕ) (seeds : List (List ℕ)) → length (shares P salt e s y seeds) ≡ length seeds
  unfolding shares
  length-shares s y seeds = length-parties (corrected (delta_s P salt e s seeds) (delta_c P salt e y seeds)) (raws P salt e seeds) ∙ length-raws seeds

  -- The corrected shares sum to the secret.
  pub shares-sum_to_secret : (s y : List ℕ) (seeds : List (List ℕ)) → 0 < length seeds → length s ≡ P.n → secret (shares P salt e s y seeds) ≡ s
  unfolding shares delta_s
  shares-sum_to_secret s y seeds h n =
      secret-set_right P.n P.m s (delta_c P salt e y seeds) (raws P salt e seeds) (let l = length-raws seeds in omega arith) (raws-sized seeds) n

  -- The helper of the corrected shares is y times the mask.
  pub shares-helper : (s y : List ℕ) (seeds : List (List ℕ)) → 0 < length seeds → length y ≡ P.m
      → helper (shares P salt e s y seeds) ≡ y ⊙ mask (shares P salt e s y seeds)
  unfolding shares delta_c
  shares-helper s y seeds h m =
      helper-set_right P.n P.m y (delta_s P salt e s seeds) (raws P salt e seeds) (let l = length-raws seeds in omega arith) (raws-sized seeds) m

  pub length-delta_s : (s : List ℕ) (seeds : List (List ℕ)) → length s ≡ P.n → length (delta_s P salt e s seeds) ≡ P.n
  unfolding delta_s
  length-delta_s s seeds n =
      let l = length-secret-le P.n P.m (raws P salt e seeds) (raws-sized seeds) in
      let r = length_⊕ s (secret (raws P salt e seeds)) in
      omega arith

  length-delta_c-le : (y : List ℕ) (seeds : List (List ℕ)) → length y ≡ P.m → length (delta_c P salt e y seeds) ≤ P.m
  unfolding delta_c
  length-delta_c-le y seeds m =
      let l = length-helper-le P.n P.m (raws P salt e seeds) (raws-sized seeds) in
      let k = length_⊙ y (mask (raws P salt e seeds)) in
      let r = length_⊕ (y ⊙ mask (raws P salt e seeds)) (helper (raws P salt e seeds)) in
      omega arith

  pub length-delta_c : (y : List ℕ) (seeds : List (List ℕ)) → 0 < length seeds → length y ≡ P.m → length (delta_c P salt e y seeds) ≡ P.m
  unfolding delta_c
  length-delta_c y seeds h m =
      length-helper-set P.n P.m y (raws P salt e seeds) (let l = length-raws seeds in omega arith) (raws-sized seeds) m

  pub shares-sized : (s y : List ℕ) (seeds : List (List ℕ)) → length s ≡ P.n → length y ≡ P.m → AllSized P.n P.m (shares P salt e s y seeds)
  unfolding shares
  shares-sized s y seeds n m =
      corrected-sized P.n P.m (delta_s P salt e s seeds) (delta_c P salt e y seeds) (raws P salt e seeds)
      (let l = length-delta_s s seeds n in omega arith) (length-delta_c-le y seeds m) (raws-sized seeds)
