-- The vectors of all parties: their entries, and that each α and each v has m elements. Assumes nothing.
use mathlib.Core.Bool.{Bool, true, false, cond}
use mathlib.Core.List.{List, [], ◌∷◌}
use mathlib.Core.Path.{◌≡◌, refl, sym, ap, fun_ext, ◌∙◌}
use Prim.Native.Nat.{ℕ, zero, suc, ◌+◌, ◌*◌, ◌≤◌, ◌<◌}
use native.Mathlib.Omega.{arith}
use lib.Dec.{eqb}
use lib.ListN.{length, get_or, take, drop, length-drop}
use lib.Seq.{length-take-le}
use Rattle.memory.specs.Sections.{pieces}
use Rattle.memory.proofs.Sections.{length-pieces, get_or-pieces}
use Rattle.field.specs.Vectors.{◌!◌, ◌⊕◌, total}
use Rattle.field.proofs.Vectors.{length_⊕}
use Rattle.lanes.specs.Lanes.{Holds}
use Rattle.sets.specs.declared.Params.{Params}
use Rattle.forms.specs.Room.{circuit_in}
use Rattle.forms.proofs.Sampling.{length-sample_elements}
use Rattle.forms.proofs.Circuit.{Equations}
use Rattle.forms.proofs.Evaluated.{forms_in}
use Rattle.parties.specs.Parties.{Share, parties, corrected, alpha_of, y_of}
use Rattle.parties.specs.Repetition.{raw_share}
use Rattle.parties.proofs.Numbered.{length-parties, get_or-parties}
use Rattle.parties.proofs.Sizes.{length-alpha_of}
use Rattle.group.specs.declared.Rep.{Rep}
use Rattle.group.specs.Shares.{values_length, delta_s, delta_c, epsilon, target, alpha_given, params_in, share_at, rest_of, HoldsAnswers}
use Rattle.group.proofs.Shares.{raw_same}
use Rattle.answers.specs.Answers.{shares_of}
use Rattle.answers.specs.Passes.{alphas_of, second_forms_of, rests_of, InLanes}
use Rattle.answers.proofs.Absorbing.{Vectors}

-- ---- a circuit in bytes has m equations

pub equations_in : (n m : ℕ) (bytes : List ℕ) → Equations m (circuit_in n m bytes)
unfolding circuit_in
equations_in n m bytes = record { A0 = forms_in n m _; A1 = forms_in n m _; A2 = forms_in n m _ }

-- ---- the shares

pub shares-same : (P Q : Params) (rep : Rep) (salt leaves v : List ℕ) → P.n ≡ Q.n → P.m ≡ Q.m → shares_of P rep salt leaves v ≡ shares_of Q rep salt leaves v
unfolding shares_of
shares-same P Q rep salt leaves v en em =
    ap (λ (g : ℕ → List ℕ → Share). parties g (pieces rep.s (16 * rep.groups) leaves))
    (fun_ext (λ i. fun_ext (λ seed. ap (corrected (delta_s rep v) (delta_c rep v) i) (raw_same P Q salt rep.e i seed en em))))

module _ (rep : Rep) (salt leaves v : List ℕ) where
  pub length-shares : length (shares_of (params_in rep) rep salt leaves v) ≡ 16 * rep.groups
  unfolding shares_of
  length-shares = length-parties _ (pieces rep.s (16 * rep.groups) leaves) ∙ length-pieces rep.s (16 * rep.groups) leaves

  pub share_entry : (p : ℕ) (d : Share) → p < 16 * rep.groups → get_or (shares_of (params_in rep) rep salt leaves v) p d ≡ share_at rep salt leaves v p
  unfolding shares_of share_at
  share_entry p d h =
      let l = length-pieces rep.s (16 * rep.groups) leaves in
      get_or-parties (λ i seed. corrected (delta_s rep v) (delta_c rep v) i (raw_share (params_in rep) salt rep.e i seed)) (pieces rep.s (16 * rep.groups) leaves) p [] d (omega arith)
      ∙ ap (λ (seed : List ℕ). corrected (delta_s rep v) (delta_c rep v) (suc p) (raw_share (params_in rep) salt rep.e (suc p) seed)) (get_or-pieces rep.s (16 * rep.groups) leaves p h)

  length_raw_a : (i : ℕ) (seed : List ℕ) → length (raw_share (params_in rep) salt rep.e i seed).a ≡ rep.m
  unfolding raw_share
  length_raw_a i seed = length-sample_elements _ _ rep.m

  length_raw_c : (i : ℕ) (seed : List ℕ) → length (raw_share (params_in rep) salt rep.e i seed).c ≡ rep.m
  unfolding raw_share
  length_raw_c i seed = length-sample_elements _ _ rep.m

  corrected-a-length : (Δs Δc : List ℕ) (i : ℕ) (p : Share) → length (corrected Δs Δc i p).a ≡ length p.a
  unfolding corrected
  corrected-a-length Δs Δc i p = by (eqb i 1)
    where
      by : (b : Bool) → length (cond b (record { s = p.s ⊕ Δs; a = p.a; c = p.c ⊕ Δc }) p).a ≡ length p.a
      by true = refl
      by false = refl

  corrected-c-length : (Δs Δc : List ℕ) (i : ℕ) (p : Share) → length Δc ≡ length p.c → length (corrected Δs Δc i p).c ≡ length p.c
  unfolding corrected
  corrected-c-length Δs Δc i p h = by (eqb i 1)
    where
      by : (b : Bool) → length (cond b (record { s = p.s ⊕ Δs; a = p.a; c = p.c ⊕ Δc }) p).c ≡ length p.c
      by true = let e = length_⊕ p.c Δc in omega arith
      by false = refl

  module _ (size : length v ≡ values_length rep) where
    length-delta_c : length (delta_c rep v) ≡ rep.m
    unfolding delta_c
    length-delta_c = length-take-le rep.m (drop rep.n v) (simp length-drop (omega arith))

    pub length-target : length (target rep v) ≡ rep.m
    unfolding target
    length-target = length-take-le rep.m (drop (rep.n + rep.m + rep.m) v) (simp length-drop (omega arith))

    length-given : length (alpha_given rep v) ≡ rep.m
    unfolding alpha_given
    length-given = length-take-le rep.m (drop (rep.n + rep.m + rep.m + rep.m) v) (simp length-drop (omega arith))

    pub share_a : (p : ℕ) → length (share_at rep salt leaves v p).a ≡ rep.m
    unfolding share_at
    share_a p = corrected-a-length (delta_s rep v) (delta_c rep v) (suc p) _ ∙ length_raw_a (suc p) _

    pub share_c : (p : ℕ) → length (share_at rep salt leaves v p).c ≡ rep.m
    unfolding share_at
    share_c p =
        let seed = take rep.s (drop (p * rep.s) leaves) in
        corrected-c-length (delta_s rep v) (delta_c rep v) (suc p) (raw_share (params_in rep) salt rep.e (suc p) seed) (length-delta_c ∙ sym (length_raw_c (suc p) seed)) ∙ length_raw_c (suc p) seed

    -- ---- an entry of a list with one for each party

    pub entry_of : (g : ℕ → Share → List ℕ) (p : ℕ) → p < 16 * rep.groups → get_or (parties g (shares_of (params_in rep) rep salt leaves v)) p [] ≡ g (suc p) (share_at rep salt leaves v p)
    entry_of g p h =
        let l = length-shares in
        get_or-parties g (shares_of (params_in rep) rep salt leaves v) p (share_at rep salt leaves v 0) [] (omega arith)
        ∙ ap (g (suc p)) (share_entry p (share_at rep salt leaves v 0) h)

    pub length_of : (g : ℕ → Share → List ℕ) → length (parties g (shares_of (params_in rep) rep salt leaves v)) ≡ 16 * rep.groups
    length_of g = length-parties g (shares_of (params_in rep) rep salt leaves v) ∙ length-shares

    module _ (circuit : List ℕ) where
      pub length-alphas : length (alphas_of rep circuit salt leaves v) ≡ 16 * rep.groups
      unfolding alphas_of
      length-alphas = length_of _

      given-or : (b : Bool) (u w : List ℕ) → length u ≡ rep.m → length w ≡ rep.m → length (cond b u w) ≡ rep.m
      given-or true u w e g = e
      given-or false u w e g = g

      pub alphas-vectors : Vectors rep.m (alphas_of rep circuit salt leaves v)
      unfolding Vectors alphas_of
      alphas-vectors p h =
          let l = length-alphas in
          let i : p < 16 * rep.groups = omega arith in
          ap length (entry_of (λ i p. cond (eqb i rep.hidden) (alpha_given rep v) (alpha_of (circuit_in rep.n rep.m circuit) (epsilon rep v) i p)) p i)
          ∙ given-or (eqb (suc p) rep.hidden) (alpha_given rep v) _ length-given
          (length-alpha_of rep.m (circuit_in rep.n rep.m circuit) (epsilon rep v) (suc p) (share_at rep salt leaves v p) (equations_in rep.n rep.m circuit) (share_a p))

      -- ---- what a group holds are entries of these lists

      module _ (g : ℕ) (x y z : List ℕ) (inside : g < rep.groups) (h : HoldsAnswers rep g (circuit_in rep.n rep.m circuit) v (λ q. share_at rep salt leaves v (16 * g + q)) x y z) where
        pub alphas_in : InLanes g (alphas_of rep circuit salt leaves v) x
        unfolding InLanes Holds alphas_of
        alphas_in k q hk hq =
            h.alpha k q hk hq
            ∙ ap (λ (l : List ℕ). l ! k) (sym (entry_of (λ i p. cond (eqb i rep.hidden) (alpha_given rep v) (alpha_of (circuit_in rep.n rep.m circuit) (epsilon rep v) i p)) (16 * g + q) (omega arith)))

        pub second_forms_in : InLanes g (second_forms_of rep circuit salt leaves v) y
        unfolding InLanes Holds second_forms_of
        second_forms_in k q hk hq =
            h.second_form k q hk hq
            ∙ ap (λ (l : List ℕ). l ! k) (sym (entry_of (λ i p. cond (eqb i rep.hidden) [] (y_of (circuit_in rep.n rep.m circuit) i p)) (16 * g + q) (omega arith)))

        pub rests_in : InLanes g (rests_of rep circuit salt leaves v) z
        unfolding InLanes Holds rests_of
        rests_in k q hk hq =
            h.rest k q hk hq
            ∙ ap (λ (l : List ℕ). l ! k) (sym (entry_of (λ i p. cond (eqb i rep.hidden) [] (rest_of (circuit_in rep.n rep.m circuit) (target rep v) (epsilon rep v) i p)) (16 * g + q) (omega arith)))

-- ---- lengths of sums

pub length-total-le : (m : ℕ) (l : List (List ℕ)) → ((p : ℕ) → p < length l → length (get_or l p []) ≤ m) → length (total l) ≤ m
unfolding total
length-total-le m [] h = omega arith
length-total-le m (v ∷ l) h =
    let a = length_⊕ v (total l) in
    let b : length v ≤ m = h 0 (omega arith) in
    let c = length-total-le m l (λ p g. h (suc p) (omega arith)) in
    omega arith

pub entry-le-total : (l : List (List ℕ)) (p : ℕ) → p < length l → length (get_or l p []) ≤ length (total l)
unfolding total
entry-le-total [] p h = absurd (omega arith)
entry-le-total (v ∷ l) zero h = let a = length_⊕ v (total l) in omega arith
entry-le-total (v ∷ l) (suc p) h = let a = length_⊕ v (total l) in let b = entry-le-total l p (omega arith) in omega arith
