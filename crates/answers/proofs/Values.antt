-- Every v from y and z·ε + c: the hidden v is the sum of the others, and all α and all v together are what the second hash absorbs. Assumes nothing.
use mathlib.Core.Bool.{Bool, true, false, cond}
use mathlib.Core.List.{List, [], ◌++◌, flatten}
use mathlib.Core.Path.{◌≡◌, refl, sym, ap, ap₂, ◌∙◌}
use Prim.Native.Nat.{ℕ, suc, ◌*◌, ◌≤◌, ◌<◌}
use native.Mathlib.Nat.{mul-zero, mul-one}
use native.Mathlib.Decide.{ℕ_discrete}
use native.Mathlib.Omega.{arith}
use borrow.Author.Tests.{ne_eqb}
use lib.Bits.{bit_xor, xor_zero_l, xor_zero_r}
use lib.Dec.{eqb}
use lib.ListN.{length, get_or}
use Rattle.field.specs.Field.{mul}
use Rattle.field.specs.Packing.{pack}
use Rattle.field.specs.Vectors.{◌!◌, ◌⊕◌, ◌⊙◌, total}
use Rattle.field.proofs.Laws.{mul-zero_l}
use Rattle.field.proofs.Vectors.{⊕-at, ⊙-at, ⊕-assoc}
use Rattle.sets.specs.declared.Params.{Params}
use Rattle.sponge.specs.declared.Sponge.{Sponge}
use Rattle.sponge.specs.Steps.{absorbed}
use Rattle.sponge.proofs.Laws.{absorbed-append}
use Rattle.forms.specs.Circuit.{Circuit}
use Rattle.forms.specs.Room.{circuit_in, HoldsCircuit}
use Rattle.parties.specs.Parties.{Share, numbered, parties, y_of, z_of, v_of}
use Rattle.parties.specs.Repetition.{given_at, second}
use Rattle.parties.proofs.Numbered.{numbered-same}
use Rattle.parties.proofs.Totals.{total_⊕, total_⊙}
use Rattle.parties.proofs.Sizes.{length-v_of}
use Rattle.parties.proofs.OneRoutine.{alphas_by_party, vs_by_party}
use Rattle.group.specs.declared.Rep.{Rep}
use Rattle.group.specs.Shares.{values_length, epsilon, target, alpha_given, params_in, share_at, rest_of}
use Rattle.answers.specs.Answers.{shares_of, answered}
use Rattle.answers.specs.Passes.{alphas_of, second_forms_of, rests_of, Passed, v_at, VsOf, Folded}
use Rattle.answers.proofs.Passing.{Sums, passed_sums}
use Rattle.answers.proofs.Sizes.{equations_in, shares-same, share_c, length-target, entry_of, length_of, length-alphas, length-total-le, entry-le-total}

module _ (f : Circuit) (t ε : List ℕ) (h : ℕ) (α : List ℕ) where
  -- a party's v by its y and the rest, with nothing at the hidden party
  v_split : (i : ℕ) (p : Share) → given_at [] h (v_of f t ε α) i p ≡ cond (eqb i h) [] (y_of f i p) ⊙ α ⊕ cond (eqb i h) [] (rest_of f t ε i p)
  unfolding v_of rest_of ◌⊙◌ ◌⊕◌
  v_split i p = by (eqb i h)
    where
      by : (b : Bool) → cond b [] (y_of f i p ⊙ α ⊕ z_of f t i p ⊙ ε ⊕ p.c) ≡ cond b [] (y_of f i p) ⊙ α ⊕ cond b [] (z_of f t i p ⊙ ε ⊕ p.c)
      by true = refl
      by false = ⊕-assoc (y_of f i p ⊙ α) (z_of f t i p ⊙ ε) p.c

  -- the hidden v
  pub hidden_v : (ps : List Share)
      → total (parties (given_at [] h (v_of f t ε α)) ps)
      ≡ total (parties (λ i p. cond (eqb i h) [] (y_of f i p)) ps) ⊙ α ⊕ total (parties (λ i p. cond (eqb i h) [] (rest_of f t ε i p)) ps)
  unfolding parties
  hidden_v ps =
      let y : ℕ → Share → List ℕ = λ i p. cond (eqb i h) [] (y_of f i p) in
      let w : ℕ → Share → List ℕ = λ i p. cond (eqb i h) [] (rest_of f t ε i p) in
      ap total (numbered-same (given_at [] h (v_of f t ε α)) (λ i p. y i p ⊙ α ⊕ w i p) 1 ps (λ i p l. v_split i p))
      ∙ total_⊕ (λ i p. y i p ⊙ α) w 1 ps
      ∙ ap (λ (u : List ℕ). u ⊕ total (numbered 1 w ps)) (total_⊙ y α 1 ps)

  -- a party's v at a place
  v_at_lem : (given : List ℕ) (i : ℕ) (p : Share) (k : ℕ)
      → given_at given h (v_of f t ε α) i p ! k ≡ v_at i h (α ! k) (given ! k) (cond (eqb i h) [] (y_of f i p) ! k) (cond (eqb i h) [] (rest_of f t ε i p) ! k)
  unfolding v_at v_of rest_of
  v_at_lem given i p k = by (eqb i h)
    where
      by : (b : Bool) → cond b given (y_of f i p ⊙ α ⊕ z_of f t i p ⊙ ε ⊕ p.c) ! k
          ≡ bit_xor (bit_xor (mul (cond b [] (y_of f i p) ! k) (α ! k)) (cond b [] (z_of f t i p ⊙ ε ⊕ p.c) ! k)) ((given ! k) * cond b 1 0)
      by true = sym (ap₂ bit_xor (ap (λ (x : ℕ). bit_xor x 0) (mul-zero_l (α ! k)) ∙ xor_zero_r 0) (mul-one (given ! k)) ∙ xor_zero_l (given ! k))
      by false =
          ap (λ (l : List ℕ). l ! k) (⊕-assoc (y_of f i p ⊙ α) (z_of f t i p ⊙ ε) p.c)
          ∙ ⊕-at (y_of f i p ⊙ α) (z_of f t i p ⊙ ε ⊕ p.c) k
          ∙ ap (λ (x : ℕ). bit_xor x ((z_of f t i p ⊙ ε ⊕ p.c) ! k)) (⊙-at (y_of f i p) α k)
          ∙ sym (ap (bit_xor (bit_xor (mul (y_of f i p ! k) (α ! k)) ((z_of f t i p ⊙ ε ⊕ p.c) ! k))) (mul-zero (given ! k)) ∙ xor_zero_r _)

module _ (rep : Rep) (circuit salt leaves v : List ℕ) (size : length v ≡ values_length rep) (some : 0 < rep.groups) where
  -- all v, and the hidden one
  unfoldable pub hidden_of : List ℕ
  hidden_of =
      total (parties (given_at [] rep.hidden (v_of (circuit_in rep.n rep.m circuit) (target rep v) (epsilon rep v) (total (alphas_of rep circuit salt leaves v))))
      (shares_of (params_in rep) rep salt leaves v))

  unfoldable pub vs_of : List (List ℕ)
  vs_of =
      parties (given_at hidden_of rep.hidden (v_of (circuit_in rep.n rep.m circuit) (target rep v) (epsilon rep v) (total (alphas_of rep circuit salt leaves v))))
      (shares_of (params_in rep) rep salt leaves v)

  length_v : (p : ℕ) → length (v_of (circuit_in rep.n rep.m circuit) (target rep v) (epsilon rep v) (total (alphas_of rep circuit salt leaves v)) (suc p) (share_at rep salt leaves v p)) ≡ rep.m
  length_v p =
      length-v_of rep.m (circuit_in rep.n rep.m circuit) (target rep v) (epsilon rep v) (total (alphas_of rep circuit salt leaves v)) (suc p) (share_at rep salt leaves v p)
      (equations_in rep.n rep.m circuit) (length-target rep salt leaves v size) (share_c rep salt leaves v size p)

  -- the others' vectors have m elements, and there is one
  length-hidden : length hidden_of ≡ rep.m
  unfolding hidden_of
  length-hidden =
      let g = given_at [] rep.hidden (v_of (circuit_in rep.n rep.m circuit) (target rep v) (epsilon rep v) (total (alphas_of rep circuit salt leaves v))) in
      let l = parties g (shares_of (params_in rep) rep salt leaves v) in
      let n = length_of rep salt leaves v size g in
      let most = length-total-le rep.m l (λ p h. let e = ap length (entry_of rep salt leaves v size g p (omega arith)) in let b = bounded p (eqb (suc p) rep.hidden) in omega arith) in
      let least : rep.m ≤ length (total l) =
      elim (ℕ_discrete 1 rep.hidden) as (λ d. rep.m ≤ length (total l)) [
        | yes y ↦ (let e = ap length (entry_of rep salt leaves v size g 1 (omega arith)) in let o = other 1 (λ z. omega arith) in let u = entry-le-total l 1 (omega arith) in omega arith)
        | no y ↦ (let e = ap length (entry_of rep salt leaves v size g 0 (omega arith)) in let o = other 0 y in let u = entry-le-total l 0 (omega arith) in omega arith)
      ] in
      omega arith
    where
      bounded : (p : ℕ) (b : Bool) → length (cond b [] (v_of (circuit_in rep.n rep.m circuit) (target rep v) (epsilon rep v) (total (alphas_of rep circuit salt leaves v)) (suc p) (share_at rep salt leaves v p))) ≤ rep.m
      bounded p true = omega arith
      bounded p false = let e = length_v p in omega arith

      other : (p : ℕ) → (suc p ≡ rep.hidden → ⊥) → length (given_at [] rep.hidden (v_of (circuit_in rep.n rep.m circuit) (target rep v) (epsilon rep v) (total (alphas_of rep circuit salt leaves v))) (suc p) (share_at rep salt leaves v p)) ≡ rep.m
      other p h = rw (ne_eqb (suc p) rep.hidden h) (length_v p)

  length_value : (p : ℕ) (b : Bool) → length (cond b hidden_of (v_of (circuit_in rep.n rep.m circuit) (target rep v) (epsilon rep v) (total (alphas_of rep circuit salt leaves v)) (suc p) (share_at rep salt leaves v p))) ≡ rep.m
  length_value p true = length-hidden
  length_value p false = length_v p

  y-entry : (p : ℕ) → p < 16 * rep.groups → get_or (second_forms_of rep circuit salt leaves v) p [] ≡ cond (eqb (suc p) rep.hidden) [] (y_of (circuit_in rep.n rep.m circuit) (suc p) (share_at rep salt leaves v p))
  unfolding second_forms_of
  y-entry p h = entry_of rep salt leaves v size (λ i p. cond (eqb i rep.hidden) [] (y_of (circuit_in rep.n rep.m circuit) i p)) p h

  w_entry : (p : ℕ) → p < 16 * rep.groups
      → get_or (rests_of rep circuit salt leaves v) p [] ≡ cond (eqb (suc p) rep.hidden) [] (rest_of (circuit_in rep.n rep.m circuit) (target rep v) (epsilon rep v) (suc p) (share_at rep salt leaves v p))
  unfolding rests_of
  w_entry p h = entry_of rep salt leaves v size (λ i p. cond (eqb i rep.hidden) [] (rest_of (circuit_in rep.n rep.m circuit) (target rep v) (epsilon rep v) i p)) p h

  pub length_ys : length (second_forms_of rep circuit salt leaves v) ≡ 16 * rep.groups
  unfolding second_forms_of
  length_ys = length_of rep salt leaves v size _

  pub length_ws : length (rests_of rep circuit salt leaves v) ≡ 16 * rep.groups
  unfolding rests_of
  length_ws = length_of rep salt leaves v size _

  -- the hidden v at a place, from the sums of y and of the rest
  hidden_at : (k : ℕ) → hidden_of ! k
      ≡ bit_xor (mul (total (second_forms_of rep circuit salt leaves v) ! k) (total (alphas_of rep circuit salt leaves v) ! k)) (total (rests_of rep circuit salt leaves v) ! k)
  unfolding hidden_of second_forms_of rests_of
  hidden_at k =
      let α = total (alphas_of rep circuit salt leaves v) in
      let ps = shares_of (params_in rep) rep salt leaves v in
      let fs = circuit_in rep.n rep.m circuit in
      let ys = parties (λ i p. cond (eqb i rep.hidden) [] (y_of fs i p)) ps in
      let ws = parties (λ i p. cond (eqb i rep.hidden) [] (rest_of fs (target rep v) (epsilon rep v) i p)) ps in
      ap (λ (u : List ℕ). u ! k) (hidden_v fs (target rep v) (epsilon rep v) rep.hidden α ps)
      ∙ ⊕-at (total ys ⊙ α) (total ws) k
      ∙ ap (λ (x : ℕ). bit_xor x (total ws ! k)) (⊙-at (total ys) α k)

  pub sums_passed : (sa sy sw all : List ℕ)
      → Passed rep.groups rep.m (alphas_of rep circuit salt leaves v) (second_forms_of rep circuit salt leaves v) (rests_of rep circuit salt leaves v) sa sy sw all
      → Sums rep.m (alphas_of rep circuit salt leaves v) (second_forms_of rep circuit salt leaves v) (rests_of rep circuit salt leaves v) sa sy sw
  sums_passed sa sy sw all passed = passed_sums rep.groups rep.m _ _ _ sa sy sw all (length-alphas rep salt leaves v size circuit) length_ys length_ws passed

  module _ (alpha given sa sy sw : List ℕ)
      (sums : Sums rep.m (alphas_of rep circuit salt leaves v) (second_forms_of rep circuit salt leaves v) (rests_of rep circuit salt leaves v) sa sy sw)
      (folded : Folded rep.m sa sy sw alpha given) where
    alpha-place : (k : ℕ) → k < rep.m → alpha ! k ≡ total (alphas_of rep circuit salt leaves v) ! k
    alpha-place k l = folded.alpha_sum k l ∙ sums.alpha k l

    given-place : (k : ℕ) → k < rep.m → given ! k ≡ hidden_of ! k
    given-place k l =
        folded.given_sum k l
        ∙ ap₂ bit_xor
        (ap₂ mul (sums.second_form k l) (sums.alpha k l))
        (sums.rest k l)
        ∙ sym (hidden_at k)

    -- what the passes hand on is every v
    pub vs_of_lem : VsOf rep alpha given (second_forms_of rep circuit salt leaves v) (rests_of rep circuit salt leaves v) vs_of
    unfolding vs_of
    vs_of_lem = record {
      count = length_of rep salt leaves v size _;
      sized = λ p h.
          ap length (entry_of rep salt leaves v size (given_at hidden_of rep.hidden (v_of (circuit_in rep.n rep.m circuit) (target rep v) (epsilon rep v) (total (alphas_of rep circuit salt leaves v)))) p h)
          ∙ length_value p (eqb (suc p) rep.hidden);
      entry = λ p k h l.
          ap (λ (u : List ℕ). u ! k) (entry_of rep salt leaves v size (given_at hidden_of rep.hidden (v_of (circuit_in rep.n rep.m circuit) (target rep v) (epsilon rep v) (total (alphas_of rep circuit salt leaves v)))) p h)
          ∙ v_at_lem (circuit_in rep.n rep.m circuit) (target rep v) (epsilon rep v) rep.hidden (total (alphas_of rep circuit salt leaves v)) hidden_of (suc p) (share_at rep salt leaves v p) k
          ∙ ap₂ (λ (a b : ℕ). v_at (suc p) rep.hidden a b (cond (eqb (suc p) rep.hidden) [] (y_of (circuit_in rep.n rep.m circuit) (suc p) (share_at rep salt leaves v p)) ! k)
          (cond (eqb (suc p) rep.hidden) [] (rest_of (circuit_in rep.n rep.m circuit) (target rep v) (epsilon rep v) (suc p) (share_at rep salt leaves v p)) ! k)) (sym (alpha-place k l)) (sym (given-place k l))
          ∙ ap₂ (λ (a b : List ℕ). v_at (suc p) rep.hidden (alpha ! k) (given ! k) (a ! k) (b ! k)) (sym (y-entry p h)) (sym (w_entry p h));
    }

  -- all α and then all v, as the document has them
  pub all_answers : (s first r : Sponge) → first ≡ absorbed s (pack (flatten (alphas_of rep circuit salt leaves v))) → r ≡ absorbed first (pack (flatten vs_of))
      → (P : Params) (f : Circuit) → P.n ≡ rep.n → P.m ≡ rep.m → HoldsCircuit rep.n rep.m f circuit
      → r ≡ absorbed s (answered f rep v (shares_of P rep salt leaves v))
  unfolding answered second alphas_of vs_of hidden_of HoldsCircuit
  all_answers s first r ef er P f en em ec =
      let ps = shares_of (params_in rep) rep salt leaves v in
      let fs = circuit_in rep.n rep.m circuit in
      er
      ∙ ap (λ (t : Sponge). absorbed t (pack (flatten vs_of))) ef
      ∙ absorbed-append s (pack (flatten (alphas_of rep circuit salt leaves v))) (pack (flatten vs_of))
      ∙ ap₂ (λ (a b : List (List ℕ)). absorbed s (pack (flatten a) ++ pack (flatten b))) (sym (alphas_by_party fs (epsilon rep v) (alpha_given rep v) rep.hidden ps))
      (sym (vs_by_party fs (target rep v) (epsilon rep v) (alpha_given rep v) rep.hidden ps))
      ∙ ap₂ (λ (c : Circuit) (l : List Share). absorbed s (answered c rep v l)) ec (sym (shares-same P (params_in rep) rep salt leaves v en em))
