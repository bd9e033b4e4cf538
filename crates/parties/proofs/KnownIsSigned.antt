-- Verifying with the honest path's seeds, all but the hidden one, absorbs what signing absorbed: commitments, α and v are the signer's. Here too is the second
-- half of demand 3's second corollary: the hidden v that verifying computes is the v that signing computed. Assumes nothing.
use mathlib.Core.Path.{◌≡◌, sym, ap, ap₂, ◌∙◌}
use mathlib.Core.List.{List, []}
use mathlib.Core.Option.{Option, map}
use Prim.Native.Nat.{ℕ, ◌-◌, ◌%◌, ◌≤◌}
use native.Mathlib.Omega.{arith}
use lib.ListN.{length, get_or, set}
use Rattle.field.specs.Vectors.{◌⊙◌, total}
use Rattle.sets.specs.declared.Params.{Params}
use Rattle.tree.specs.Tree.{filled}
use Rattle.forms.specs.Circuit.{Circuit, Consistent}
use Rattle.forms.proofs.Circuit.{Equations, length-target, length-second_form}
use Rattle.parties.specs.Parties.{Share, parties, secret, mask, helper, corrected, alpha_of, v_of, alphas, vs}
use Rattle.parties.specs.Repetition.{first, second, com_of, raw_share, coms, raws, delta_s, delta_c, shares, known_shares, known_coms, left_out, present, all_coms, all_alphas, known_vs, all_vs}
use Rattle.parties.proofs.Numbered.{numbered-numbered}
use Rattle.parties.proofs.Sizes.{AllSized, each_v, length-vs}
use Rattle.parties.proofs.Corrections.{length-shares, shares-sized, shares-sum_to_secret, shares-helper}
use Rattle.parties.proofs.LeftOut.{parties-left_out, filled-left_out, filled-own, filled_nobody}
use Rattle.parties.proofs.OthersSum.{total-present-left_out, hidden_is_sum_of_others}
use Rattle.parties.proofs.Honest.{honest_sum_is_zero}

-- ---- any shares, with party h left out

-- all α are the signer's, where the signature has the hidden one
pub all_alphas_lem : (f : Circuit) (ε : List ℕ) (h : ℕ) (ps : List Share) → all_alphas f ε (get_or (alphas f ε ps) (h - 1) []) (left_out h ps) ≡ alphas f ε ps
unfolding all_alphas alphas
all_alphas_lem f ε h ps =
    ap (filled (get_or (parties (alpha_of f ε) ps) (h - 1) [])) (parties-left_out (alpha_of f ε) h ps) ∙ filled-own h (parties (alpha_of f ε) ps)

-- the v of the known parties are the signer's
pub known_vs_lem : (f : Circuit) (t ε : List ℕ) (h : ℕ) (ps : List Share)
    → known_vs f t ε (get_or (alphas f ε ps) (h - 1) []) (left_out h ps) ≡ left_out h (vs f t ε ps)
unfolding known_vs vs
known_vs_lem f t ε h ps =
    ap (λ (αs : List (List ℕ)). parties (λ i. map (v_of f t ε (total αs) i)) (left_out h ps)) (all_alphas_lem f ε h ps)
    ∙ parties-left_out (v_of f t ε (total (alphas f ε ps))) h ps

-- signing: nobody is left out, and no α is given
pub nobody_alphas : (f : Circuit) (ε α : List ℕ) (ps : List Share) → all_alphas f ε α (left_out 0 ps) ≡ alphas f ε ps
unfolding all_alphas alphas
nobody_alphas f ε α ps = ap (filled α) (parties-left_out (alpha_of f ε) 0 ps) ∙ filled_nobody α (parties (alpha_of f ε) ps)

pub nobody_vs : (f : Circuit) (t ε α : List ℕ) (ps : List Share) → all_vs f t ε α (left_out 0 ps) ≡ vs f t ε ps
unfolding all_vs known_vs vs
nobody_vs f t ε α ps =
    ap (filled _)
    (ap (λ (αs : List (List ℕ)). parties (λ i. map (v_of f t ε (total αs) i)) (left_out 0 ps)) (nobody_alphas f ε α ps)
    ∙ parties-left_out (v_of f t ε (total (alphas f ε ps))) 0 ps)
    ∙ filled_nobody _ (parties (v_of f t ε (total (alphas f ε ps))) ps)

-- verifying, whatever path and α the signature has: the given α stands at party h, and so does minus the sum of the other v
pub any_alphas : (f : Circuit) (ε α : List ℕ) (h : ℕ) (ps : List Share) → 1 ≤ h → all_alphas f ε α (left_out h ps) ≡ set (alphas f ε ps) (h - 1) α
unfolding all_alphas alphas
any_alphas f ε α h ps g = ap (filled α) (parties-left_out (alpha_of f ε) h ps) ∙ filled-left_out α h (parties (alpha_of f ε) ps) g

pub any_vs : (f : Circuit) (t ε α : List ℕ) (h : ℕ) (ps : List Share) → 1 ≤ h →
    let all = parties (v_of f t ε (total (set (alphas f ε ps) (h - 1) α))) ps in
    all_vs f t ε α (left_out h ps) ≡ set all (h - 1) (total (set all (h - 1) []))
unfolding all_vs known_vs
any_vs f t ε α h ps g =
    let all = parties (v_of f t ε (total (set (alphas f ε ps) (h - 1) α))) ps in
    ap (λ (l : List (Option (List ℕ))). filled (total (present l)) l)
    (ap (λ (αs : List (List ℕ)). parties (λ i. map (v_of f t ε (total αs) i)) (left_out h ps)) (any_alphas f ε α h ps g)
    ∙ parties-left_out (v_of f t ε (total (set (alphas f ε ps) (h - 1) α))) h ps)
    ∙ filled-left_out (total (present (left_out h all))) h all g
    ∙ ap (set all (h - 1)) (total-present-left_out h all g)

module _ (n m : ℕ) (f : Circuit) (s t y ε : List ℕ) (h : ℕ) (ps : List Share)
    (from_one : 1 ≤ h) (among : h ≤ length ps) (even : length ps % 2 ≡ 0) (eqs : Equations m f) (sized : AllSized n m ps)
    (key : Consistent f s t y) (sum : secret ps ≡ s) (c : helper ps ≡ y ⊙ mask ps) where
  -- The hidden v that verifying computes, minus the sum of the others, is the v that signing computed.
  pub hidden_v_is_recomputed : total (present (known_vs f t ε (get_or (alphas f ε ps) (h - 1) []) (left_out h ps))) ≡ get_or (vs f t ε ps) (h - 1) []
  hidden_v_is_recomputed =
      let target = length-target m f s t y eqs key in
      let count = length-vs f t ε ps in
      ap (λ (l : List (Option (List ℕ))). total (present l)) (known_vs_lem f t ε h ps)
      ∙ hidden_is_sum_of_others m h (vs f t ε ps) from_one (omega arith) (omega arith) (each_v n m f t ε ps eqs target sized)
      (honest_sum_is_zero f s t y ε ps (omega arith) even key sum c)

  -- all v are the signer's
  pub all_vs_lem : all_vs f t ε (get_or (alphas f ε ps) (h - 1) []) (left_out h ps) ≡ vs f t ε ps
  unfolding all_vs
  all_vs_lem = ap₂ filled hidden_v_is_recomputed (known_vs_lem f t ε h ps) ∙ filled-own h (vs f t ε ps)

-- ---- one repetition

module _ (P : Params) (salt : List ℕ) (e : ℕ) where
  parties-raws : (g : ℕ → Share → Share) (seeds : List (List ℕ))
      → parties g (raws P salt e seeds) ≡ parties (λ i seed. g i (raw_share P salt e i seed)) seeds
  unfolding raws parties
  parties-raws g seeds = numbered-numbered g (raw_share P salt e) 1 seeds

  -- the known shares are the signer's
  pub known_shares_lem : (Δs Δc : List ℕ) (h : ℕ) (seeds : List (List ℕ))
      → known_shares P salt e Δs Δc (left_out h seeds) ≡ left_out h (parties (corrected Δs Δc) (raws P salt e seeds))
  unfolding known_shares
  known_shares_lem Δs Δc h seeds =
      parties-left_out (λ i seed. corrected Δs Δc i (raw_share P salt e i seed)) h seeds
      ∙ ap (left_out h) (sym (parties-raws (corrected Δs Δc) seeds))

  -- all commitments are the signer's, where the signature has the hidden one
  pub all_coms_lem : (h : ℕ) (seeds : List (List ℕ)) → all_coms P salt e (get_or (coms P salt e seeds) (h - 1) []) (left_out h seeds) ≡ coms P salt e seeds
  unfolding all_coms known_coms coms
  all_coms_lem h seeds =
      ap (filled (get_or (parties (com_of P salt e) seeds) (h - 1) [])) (parties-left_out (com_of P salt e) h seeds)
      ∙ filled-own h (parties (com_of P salt e) seeds)

  pub nobody_coms : (com' : List ℕ) (seeds : List (List ℕ)) → all_coms P salt e com' (left_out 0 seeds) ≡ coms P salt e seeds
  unfolding all_coms known_coms coms
  nobody_coms com' seeds = ap (filled com') (parties-left_out (com_of P salt e) 0 seeds) ∙ filled_nobody com' (parties (com_of P salt e) seeds)

  -- What verifying absorbs into the first hash for an honest repetition is what signing absorbed.
  pub first_is_signed : (Δs Δc : List ℕ) (h : ℕ) (seeds : List (List ℕ))
      → first (all_coms P salt e (get_or (coms P salt e seeds) (h - 1) []) (left_out h seeds)) Δs Δc ≡ first (coms P salt e seeds) Δs Δc
  first_is_signed Δs Δc h seeds = ap (λ (c : List (List ℕ)). first c Δs Δc) (all_coms_lem h seeds)

  module _ (f : Circuit) (s t y ε : List ℕ) (h : ℕ) (seeds : List (List ℕ))
      (from_one : 1 ≤ h) (among : h ≤ length seeds) (even : length seeds % 2 ≡ 0)
      (eqs : Equations P.m f) (key : Consistent f s t y) (n : length s ≡ P.n) where
    -- What verifying absorbs into the second hash for an honest repetition is what signing absorbed.
    pub second_is_signed :
        let signed = shares P salt e s y seeds in
        let α = get_or (alphas f ε signed) (h - 1) [] in
        let held = known_shares P salt e (delta_s P salt e s seeds) (delta_c P salt e y seeds) (left_out h seeds) in
        second (all_alphas f ε α held) (all_vs f t ε α held) ≡ second (alphas f ε signed) (vs f t ε signed)
    unfolding shares
    second_is_signed =
        let signed = shares P salt e s y seeds in
        let α = get_or (alphas f ε signed) (h - 1) [] in
        let count = length-shares P salt e s y seeds in
        let m = length-second_form P.m f s t y eqs key in
        ap (λ (held : List (Option Share)). second (all_alphas f ε α held) (all_vs f t ε α held))
        (known_shares_lem (delta_s P salt e s seeds) (delta_c P salt e y seeds) h seeds)
        ∙ ap₂ second (all_alphas_lem f ε h signed)
        (all_vs_lem P.n P.m f s t y ε h signed from_one (omega arith) (omega arith) eqs (shares-sized P salt e s y seeds n m) key
        (shares-sum_to_secret P salt e s y seeds (omega arith) n) (shares-helper P salt e s y seeds (omega arith) m))
