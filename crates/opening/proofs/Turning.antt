-- Repetition by repetition: the sections written so far stand in front, and one more follows.
-- Assumes nothing.
use mathlib.Core.Path.{◌≡◌, sym, ap, ap₂, ◌∙◌}
use mathlib.Core.List.{List, ◌++◌, append-nil}
use Prim.Native.Nat.{ℕ, ◌+◌, ◌-◌, ◌*◌, ◌≤◌, ◌<◌}
use native.Mathlib.Nat.{zero-mul, suc-mul}
use native.Mathlib.Numerals.{add-one}
use native.Mathlib.Omega.{arith}
use lib.ListN.{length, take, drop, drop_of_length-le}
use lib.Seq.{drop_at}
use Rattle.memory.specs.Lists.{put}
use Rattle.memory.proofs.Parts.{put_section}
use Rattle.sets.specs.Sets.{S}
use Rattle.sets.specs.declared.Params.{Params}
use Rattle.tree.specs.Tree.{children}
use Rattle.tree.proofs.Laying.{each_get_seeds}
use Rattle.tree.proofs.Theorems.{length-get_seeds}
use Rattle.forms.specs.Room.{hidden_in}
use Rattle.parties.proofs.Sizes.{length-entry}
use Rattle.biscuit.specs.Room.{root_in}
use Rattle.biscuit.specs.Signature.{repeated}
use Rattle.biscuit.proofs.Repeated.{length-repeated, repeated_more}
use Rattle.biscuit.proofs.Room.{length-root_in, hidden_from_one, hidden-within}
use Rattle.opening.specs.Shown.{leaf_under, shown_under, leaf_of, shown_of}
use Rattle.opening.proofs.Showing.{length-shown_under}

-- ---- sections of w bytes each, the first i of them written over the start of x

module _ (f : ℕ → List ℕ) (w : ℕ) (x : List ℕ) where
  pub sections_none : x ≡ repeated 0 f ++ drop (0 * w) x
  unfolding repeated
  sections_none = ap (λ (n : ℕ). drop n x) (sym (zero-mul w))

  pub sections_turn : (i : ℕ) (cur new own : List ℕ) → length (repeated i f) ≡ i * w → length (f (i + 1)) ≡ w → cur ≡ repeated i f ++ drop (i * w) x → own ≡ f (i + 1)
      → new ≡ put cur (i * w) own → new ≡ repeated (i + 1) f ++ drop ((i + 1) * w) x
  sections_turn i cur new own n m c o t =
      t
      ∙ ap₂ (λ (y z : List ℕ). put y (i * w) z) c o
      ∙ put_section (repeated i f) x (i * w) (f (i + 1)) n
      ∙ ap₂ (λ (y : List ℕ) (k : ℕ). y ++ drop k x)
      (repeated_more i f)
      (ap (λ (k : ℕ). i * w + k) m ∙ sym (suc-mul i w) ∙ ap (λ (j : ℕ). j * w) (sym (add-one i)))

  pub sections_whole : (i n : ℕ) (cur : List ℕ) → i ≡ n → length x ≡ n * w → cur ≡ repeated i f ++ drop (i * w) x → cur ≡ repeated n f
  sections_whole i n cur e h c =
      c
      ∙ ap (λ (j : ℕ). repeated j f ++ drop (j * w) x) e
      ∙ ap (λ (y : List ℕ). repeated n f ++ y) (drop_of_length-le x {i = n * w} (omega arith))
      ∙ append-nil (repeated n f)

-- ---- the sections of paths and commitments, and those of leaves

module _ (P : Params) (salt hidden roots : List ℕ) where
  pub length-shown_of : (e : ℕ) → length (shown_of P salt hidden roots e) ≡ P.l * S P + 2 * S P
  unfolding shown_of
  length-shown_of e = length-shown_under (S P) salt e P.l (root_in (S P) roots e) (hidden_in P.l hidden e)

  pub length_all_shown : (i : ℕ) → length (repeated i (shown_of P salt hidden roots)) ≡ i * (P.l * S P + 2 * S P)
  length_all_shown i = length-repeated i (shown_of P salt hidden roots) (P.l * S P + 2 * S P) (λ e a b. length-shown_of e)

  module _ (sized : length roots ≡ P.tau * S P) where
    pub length-leaf_of : (e : ℕ) → 1 ≤ e → e ≤ P.tau → length (leaf_of P salt hidden roots e) ≡ S P
    unfolding leaf_of leaf_under
    length-leaf_of e a b =
        let n = length-get_seeds (children (S P) salt e) P.l (root_in (S P) roots e) in
        let f = hidden_from_one P.l hidden e in
        let t = hidden-within P.l hidden e in
        length-entry (hidden_in P.l hidden e - 1) (omega arith) (each_get_seeds (S P) salt e P.l (root_in (S P) roots e) (length-root_in (S P) roots e P.tau a b (omega arith)))

    pub length_all_leaves : (i : ℕ) → i ≤ P.tau → length (repeated i (leaf_of P salt hidden roots)) ≡ i * S P
    length_all_leaves i h = length-repeated i (leaf_of P salt hidden roots) (S P) (λ e a b. length-leaf_of e a (omega arith))

    -- the next root still stands behind the leaves
    pub root_left : (i : ℕ) (cur : List ℕ) → i ≤ P.tau → cur ≡ repeated i (leaf_of P salt hidden roots) ++ drop (i * S P) roots
        → take (S P) (drop (i * S P) cur) ≡ root_in (S P) roots (i + 1)
    unfolding root_in
    root_left i cur h c =
        ap (λ (x : List ℕ). take (S P) (drop (i * S P) x)) c
        ∙ ap (take (S P)) (drop_at (repeated i (leaf_of P salt hidden roots)) (drop (i * S P) roots) (i * S P) (length_all_leaves i h))
        ∙ ap (λ (j : ℕ). take (S P) (drop (j * S P) roots)) (let e : i ≡ i + 1 - 1 = omega arith in e)

    -- the turn that shows one repetition more
    pub shown_turn : (i : ℕ) (cur x out new : List ℕ) → i < P.tau → cur ≡ repeated i (leaf_of P salt hidden roots) ++ drop (i * S P) roots
        → out ≡ repeated i (shown_of P salt hidden roots) ++ drop (i * (P.l * S P + 2 * S P)) x
        → new ≡ put out (i * (P.l * S P + 2 * S P)) (shown_under (S P) salt (i + 1) P.l (take (S P) (drop (i * S P) cur)) (hidden_in P.l hidden (i + 1)))
        → new ≡ repeated (i + 1) (shown_of P salt hidden roots) ++ drop ((i + 1) * (P.l * S P + 2 * S P)) x
    unfolding shown_of
    shown_turn i cur x out new h c o =
        sections_turn (shown_of P salt hidden roots) (P.l * S P + 2 * S P) x i out new
        (shown_under (S P) salt (i + 1) P.l (take (S P) (drop (i * S P) cur)) (hidden_in P.l hidden (i + 1))) (length_all_shown i) (length-shown_of (i + 1)) o
        (ap (λ (r : List ℕ). shown_under (S P) salt (i + 1) P.l r (hidden_in P.l hidden (i + 1))) (root_left i cur (omega arith) c))

    pub leaves_turn : (i : ℕ) (cur new : List ℕ) → i < P.tau → cur ≡ repeated i (leaf_of P salt hidden roots) ++ drop (i * S P) roots
        → new ≡ put cur (i * S P) (leaf_under (S P) salt (i + 1) P.l (take (S P) (drop (i * S P) cur)) (hidden_in P.l hidden (i + 1)))
        → new ≡ repeated (i + 1) (leaf_of P salt hidden roots) ++ drop ((i + 1) * S P) roots
    unfolding leaf_of
    leaves_turn i cur new h c =
        sections_turn (leaf_of P salt hidden roots) (S P) roots i cur new
        (leaf_under (S P) salt (i + 1) P.l (take (S P) (drop (i * S P) cur)) (hidden_in P.l hidden (i + 1))) (length_all_leaves i (omega arith)) (length-leaf_of (i + 1) (omega arith) (omega arith)) c
        (ap (λ (r : List ℕ). leaf_under (S P) salt (i + 1) P.l r (hidden_in P.l hidden (i + 1))) (root_left i cur (omega arith) c))
