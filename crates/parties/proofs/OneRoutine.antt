-- Signing and verifying by one rule: at each party the computed value, and at party h the given one; with h = 0 nobody is left out. So one loop over the parties
-- serves both. All laws hold of every h, of any seeds, shares and given values, honest or not. Assumes nothing.
use mathlib.Core.Path.{◌≡◌, refl, ap, ap₂, ◌∙◌}
use mathlib.Core.Bool.{Bool, true, false, cond}
use mathlib.Core.List.{List, [], ◌∷◌, map}
use mathlib.Core.Option
use mathlib.Core.Option.{Option, none, some, get_or}
use Prim.Native.Nat.{ℕ, suc}
use lib.Dec.{eqb}
use Rattle.field.specs.Vectors.{total}
use Rattle.sets.specs.declared.Params.{Params}
use Rattle.tree.specs.Tree.{filled}
use Rattle.forms.specs.Circuit.{Circuit}
use Rattle.parties.specs.Parties.{Share, numbered, parties, alpha_of, v_of}
use Rattle.parties.specs.Repetition.{com_of, known_coms, given_at, left_out, present, all_coms, all_alphas, known_vs, all_vs}
use Rattle.parties.proofs.Numbered.{numbered-same, numbered-numbered}
use Rattle.parties.proofs.LeftOut.{parties-left_out}
use Rattle.parties.proofs.OthersSum.{total-present-filled}

parties-parties : {A B C : Type 0} (g : ℕ → B → C) (k : ℕ → A → B) (l : List A) → parties g (parties k l) ≡ parties (λ i x. g i (k i x)) l
unfolding parties
parties-parties g k l = numbered-numbered g k 1 l

map-numbered : {A B C : Type 0} (f : B → C) (g : ℕ → A → B) (i : ℕ) (l : List A) → map f (numbered i g l) ≡ numbered i (λ j x. f (g j x)) l
unfolding numbered
map-numbered f g i [] = refl
map-numbered {A} {B} {C} f g i (x ∷ l) = ap (λ (r : List C). f (g i x) ∷ r) (map-numbered f g (suc i) l)

filled_by_party : (d : List ℕ) (h : ℕ) (l : List (List ℕ)) → filled d (left_out h l) ≡ parties (λ i x. cond (eqb i h) d x) l
unfolding filled left_out parties
filled_by_party d h l =
    map-numbered (λ (o : Option (List ℕ)). get_or o d) (λ i x. cond (eqb i h) none (some x)) 1 l
    ∙ numbered-same (λ i x. get_or (cond (eqb i h) none (some x)) d) (λ i x. cond (eqb i h) d x) 1 l (λ i x k. by (eqb i h) x)
  where
    by : (b : Bool) (x : List ℕ) → get_or (cond b none (some x)) d ≡ cond b d x
    by true x = refl
    by false x = refl

-- a function at each party, filled again at party h
filled-parties : {A : Type 0} (d : List ℕ) (h : ℕ) (g : ℕ → A → List ℕ) (l : List A)
    → filled d (parties (λ i. Option.map (g i)) (left_out h l)) ≡ parties (given_at d h g) l
filled-parties d h g l =
    ap (filled d) (parties-left_out g h l) ∙ filled_by_party d h (parties g l) ∙ parties-parties (λ i x. cond (eqb i h) d x) g l

-- the α of all parties
pub alphas_by_party : (f : Circuit) (ε α : List ℕ) (h : ℕ) (ps : List Share)
    → all_alphas f ε α (left_out h ps) ≡ parties (given_at α h (alpha_of f ε)) ps
unfolding all_alphas
alphas_by_party f ε α h ps = filled-parties α h (alpha_of f ε) ps

-- the hidden v: the sum of the others, nothing being added at party h
pub hidden_v_by_party : (f : Circuit) (t ε α : List ℕ) (h : ℕ) (ps : List Share)
    → total (present (known_vs f t ε α (left_out h ps)))
    ≡ total (parties (given_at [] h (v_of f t ε (total (parties (given_at α h (alpha_of f ε)) ps)))) ps)
unfolding known_vs
hidden_v_by_party f t ε α h ps =
    ap (λ (αs : List (List ℕ)). total (present (parties (λ i. Option.map (v_of f t ε (total αs) i)) (left_out h ps)))) (alphas_by_party f ε α h ps)
    ∙ total-present-filled (parties (λ i. Option.map (v_of f t ε (total (parties (given_at α h (alpha_of f ε)) ps)) i)) (left_out h ps))
    ∙ ap total (filled-parties [] h (v_of f t ε (total (parties (given_at α h (alpha_of f ε)) ps))) ps)

-- the v of all parties
pub vs_by_party : (f : Circuit) (t ε α : List ℕ) (h : ℕ) (ps : List Share) →
    let v = v_of f t ε (total (parties (given_at α h (alpha_of f ε)) ps)) in
    all_vs f t ε α (left_out h ps) ≡ parties (given_at (total (parties (given_at [] h v) ps)) h v) ps
unfolding all_vs known_vs
vs_by_party f t ε α h ps =
    let v = v_of f t ε (total (parties (given_at α h (alpha_of f ε)) ps)) in
    ap₂ filled (hidden_v_by_party f t ε α h ps)
    (ap (λ (αs : List (List ℕ)). parties (λ i. Option.map (v_of f t ε (total αs) i)) (left_out h ps)) (alphas_by_party f ε α h ps))
    ∙ filled-parties (total (parties (given_at [] h v) ps)) h v ps

-- the commitments of all parties
pub coms_by_party : (P : Params) (salt : List ℕ) (e : ℕ) (hidden : List ℕ) (h : ℕ) (seeds : List (List ℕ))
    → all_coms P salt e hidden (left_out h seeds) ≡ parties (given_at hidden h (com_of P salt e)) seeds
unfolding all_coms known_coms
coms_by_party P salt e hidden h seeds = filled-parties hidden h (com_of P salt e) seeds
