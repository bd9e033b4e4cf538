-- Shares, their sums, corrections, α and v are vectors of elements, so that packing loses nothing of them.
-- Assumes nothing.
use mathlib.Core.Path.{sym, subst}
use mathlib.Core.List.{List, [], ◌∷◌}
use Prim.Native.Nat.{ℕ, zero, suc, ◌+◌}
use lib.Dec.{lit<}
use lib.ListN.{get_or}
use Rattle.field.specs.Packing.{Elements, packed_length}
use Rattle.field.specs.Vectors.{◌⊕◌, ◌⊙◌, total}
use Rattle.field.proofs.Vectors.{⊕-elements, ⊙-elements}
use Rattle.sets.specs.declared.Params.{Params}
use Rattle.hashes.specs.Hashes.{tape_fields}
use Rattle.forms.specs.Circuit.{Circuit}
use Rattle.forms.proofs.Sampling.{sample_elements-elements}
use Rattle.parties.specs.Parties.{Share, numbered, parties, secret, mask, helper, corrected, x_of, y_of, z_of, alpha_of, v_of, alphas, vs}
use Rattle.parties.specs.Repetition.{raw_share, raws, delta_s, delta_c, shares}
use Rattle.parties.proofs.Corrections.{corrected-parties}

-- a share of elements
pub record ElementShare (p : Share) : Type 0 where
  pub s : Elements p.s
  pub a : Elements p.a
  pub c : Elements p.c

-- every party's share is of elements
abbrev pub AllElements : List Share → Type 0
AllElements [] = Unit {0}
AllElements (p ∷ ps) = ElementShare p × AllElements ps

nil-elements : Elements []
nil-elements i = lit< tt

-- ---- sums over the parties

pub secret-elements : (ps : List Share) → AllElements ps → Elements (secret ps)
unfolding secret total
secret-elements [] h = nil-elements
secret-elements (p ∷ ps) h = ⊕-elements p.s (secret ps) h.0.s (secret-elements ps h.1)

pub mask-elements : (ps : List Share) → AllElements ps → Elements (mask ps)
unfolding mask total
mask-elements [] h = nil-elements
mask-elements (p ∷ ps) h = ⊕-elements p.a (mask ps) h.0.a (mask-elements ps h.1)

pub helper-elements : (ps : List Share) → AllElements ps → Elements (helper ps)
unfolding helper total
helper-elements [] h = nil-elements
helper-elements (p ∷ ps) h = ⊕-elements p.c (helper ps) h.0.c (helper-elements ps h.1)

-- ---- α and v

pub alpha_of-elements : (f : Circuit) (ε : List ℕ) (i : ℕ) (p : Share) → Elements p.a → Elements (alpha_of f ε i p)
unfolding alpha_of
alpha_of-elements f ε i p h = ⊕-elements (x_of f i p ⊙ ε) p.a (⊙-elements (x_of f i p) ε) h

pub v_of-elements : (f : Circuit) (t ε α : List ℕ) (i : ℕ) (p : Share) → Elements p.c → Elements (v_of f t ε α i p)
unfolding v_of
v_of-elements f t ε α i p h =
    ⊕-elements (y_of f i p ⊙ α ⊕ z_of f t i p ⊙ ε) p.c
    (⊕-elements (y_of f i p ⊙ α) (z_of f t i p ⊙ ε) (⊙-elements (y_of f i p) α) (⊙-elements (z_of f t i p) ε)) h

numbered-elements : (g : ℕ → Share → List ℕ) → ((i : ℕ) (p : Share) → ElementShare p → Elements (g i p))
    → (i : ℕ) (ps : List Share) → AllElements ps → (k : ℕ) → Elements (get_or (numbered i g ps) k [])
unfolding numbered
numbered-elements g h i [] z k = nil-elements
numbered-elements g h i (p ∷ ps) z zero = h i p z.0
numbered-elements g h i (p ∷ ps) z (suc k) = numbered-elements g h (suc i) ps z.1 k

-- at every party, and past the last
pub alphas-elements : (f : Circuit) (ε : List ℕ) (ps : List Share) → AllElements ps → (k : ℕ) → Elements (get_or (alphas f ε ps) k [])
unfolding alphas parties
alphas-elements f ε ps z k = numbered-elements (alpha_of f ε) (λ i p h. alpha_of-elements f ε i p h.a) 1 ps z k

pub vs-elements : (f : Circuit) (t ε : List ℕ) (ps : List Share) → AllElements ps → (k : ℕ) → Elements (get_or (vs f t ε ps) k [])
unfolding vs parties
vs-elements f t ε ps z k = numbered-elements (v_of f t ε (total (alphas f ε ps))) (λ i p h. v_of-elements f t ε (total (alphas f ε ps)) i p h.c) 1 ps z k

-- ---- one repetition

pub corrected-elements : (Δs Δc : List ℕ) (ps : List Share) → Elements Δs → Elements Δc → AllElements ps → AllElements (parties (corrected Δs Δc) ps)
unfolding parties numbered
corrected-elements Δs Δc [] hs hc z = tt
corrected-elements Δs Δc (p ∷ ps) hs hc z =
    subst AllElements (sym (corrected-parties Δs Δc p ps)) (
      record { s = ⊕-elements p.s Δs z.0.s hs; a = z.0.a; c = ⊕-elements p.c Δc z.0.c hc },
      z.1,
    )

module _ (P : Params) (salt : List ℕ) (e : ℕ) where
  raw_share-elements : (i : ℕ) (seed : List ℕ) → ElementShare (raw_share P salt e i seed)
  unfolding raw_share
  raw_share-elements i seed = record {
    s = sample_elements-elements (tape_fields salt e i seed) 0 P.n;
    a = sample_elements-elements (tape_fields salt e i seed) (packed_length P.n) P.m;
    c = sample_elements-elements (tape_fields salt e i seed) (packed_length P.n + packed_length P.m) P.m;
  }

  numbered_raw : (i : ℕ) (seeds : List (List ℕ)) → AllElements (numbered i (raw_share P salt e) seeds)
  unfolding numbered
  numbered_raw i [] = tt
  numbered_raw i (seed ∷ seeds) = (raw_share-elements i seed, numbered_raw (suc i) seeds)

  pub raws-elements : (seeds : List (List ℕ)) → AllElements (raws P salt e seeds)
  unfolding raws parties
  raws-elements seeds = numbered_raw 1 seeds

  pub delta_s-elements : (s : List ℕ) (seeds : List (List ℕ)) → Elements s → Elements (delta_s P salt e s seeds)
  unfolding delta_s
  delta_s-elements s seeds h = ⊕-elements s (secret (raws P salt e seeds)) h (secret-elements (raws P salt e seeds) (raws-elements seeds))

  pub delta_c-elements : (y : List ℕ) (seeds : List (List ℕ)) → Elements (delta_c P salt e y seeds)
  unfolding delta_c
  delta_c-elements y seeds =
      ⊕-elements (y ⊙ mask (raws P salt e seeds)) (helper (raws P salt e seeds)) (⊙-elements y (mask (raws P salt e seeds)))
      (helper-elements (raws P salt e seeds) (raws-elements seeds))

  pub shares-elements : (s y : List ℕ) (seeds : List (List ℕ)) → Elements s → AllElements (shares P salt e s y seeds)
  unfolding shares
  shares-elements s y seeds h =
      corrected-elements (delta_s P salt e s seeds) (delta_c P salt e y seeds) (raws P salt e seeds) (delta_s-elements s seeds h) (delta_c-elements y seeds) (raws-elements seeds)
