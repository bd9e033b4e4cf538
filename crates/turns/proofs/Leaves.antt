-- The leaves that a path gives, with zeros in the hidden party's place: cut into seeds again and with that party left out they are what algorithm 5 gives, of any path, honest or not.
-- So the zeros do not matter. Assumes nothing.
use mathlib.Core.Path.{◌≡◌, sym, ap, ◌∙◌}
use mathlib.Core.List.{List, [], append-nil, flatten}
use Prim.Native.Nat.{ℕ, zero, suc, ◌-◌, ◌*◌, ◌^◌, ◌≤◌, ◌<◌}
use native.Mathlib.Omega.{arith}
use lib.ListN.{length, get_or, replicate, length-replicate}
use Rattle.memory.specs.Sections.{pieces}
use Rattle.memory.proofs.Lists.{room}
use Rattle.memory.proofs.Sections.{Each, no_section, one_more, length-flatten, pieces-flatten, get_or-pieces}
use Rattle.memory.proofs.Xors.{length_part}
use Rattle.tree.specs.Tree.{children, position, get_path_seeds, filled}
use Rattle.tree.proofs.Coded.{coded_at, coded}
use Rattle.tree.proofs.Laying.{children-sized}
use Rattle.tree.proofs.Around.{each_around}
use Rattle.tree.proofs.Theorems.{filled-get_path_seeds, length_coded}
use Rattle.parties.specs.Repetition.{left_out}
use Rattle.parties.proofs.PathSeeds.{any_path-seeds}

module _ (S : ℕ) (salt : List ℕ) (e L : ℕ) (path : List (List ℕ)) (h : ℕ) (sized : (k : ℕ) → k < L → length (get_or path k []) ≡ S) where
  each_coded_at : (k : ℕ) → k ≤ L → Each S (coded_at (children S salt e) L path h (replicate S 0) k)
  unfolding coded_at
  each_coded_at zero g = one_more (length-replicate {A = ℕ} S 0) no_section
  each_coded_at (suc k) g =
      each_around S (children S salt e k) (children-sized S salt e k) (position L h (suc k)) (get_or path k []) (replicate S 0)
      (coded_at (children S salt e) L path h (replicate S 0) k) (sized k (omega arith)) (length-replicate {A = ℕ} S 0)

  each_coded : Each S (coded (children S salt e) L path h (replicate S 0))
  unfolding coded
  each_coded = each_coded_at L (omega arith)

  module _ (legal : h - 1 < 2 ^ L) (from_one : 1 ≤ h) where
    leaves_cut : pieces S (2 ^ L) (flatten (filled (replicate S 0) (get_path_seeds (children S salt e) L path h))) ≡ coded (children S salt e) L path h (replicate S 0)
    leaves_cut =
        let l = coded (children S salt e) L path h (replicate S 0) in
        ap (λ (x : List (List ℕ)). pieces S (2 ^ L) (flatten x)) (filled-get_path_seeds (children S salt e) L h legal path (replicate S 0))
        ∙ ap (λ (n : ℕ). pieces S n (flatten l)) (sym (length_coded (children S salt e) L h legal path (replicate S 0)))
        ∙ ap (pieces S (length l)) (sym (append-nil (flatten l)))
        ∙ pieces-flatten each_coded []

    pub length-filled : length (flatten (filled (replicate S 0) (get_path_seeds (children S salt e) L path h))) ≡ 2 ^ L * S
    length-filled =
        ap (λ (x : List (List ℕ)). length (flatten x)) (filled-get_path_seeds (children S salt e) L h legal path (replicate S 0))
        ∙ length-flatten each_coded
        ∙ ap (λ (n : ℕ). n * S) (length_coded (children S salt e) L h legal path (replicate S 0))

    -- the leaves, cut into seeds, with the hidden party left out
    pub leaves_left_out : get_path_seeds (children S salt e) L path h ≡ left_out h (pieces S (2 ^ L) (flatten (filled (replicate S 0) (get_path_seeds (children S salt e) L path h))))
    leaves_left_out = any_path-seeds (children S salt e) L h legal from_one path (replicate S 0) ∙ ap (left_out h) (sym leaves_cut)

-- the seeds of a path that is cut from bytes
pub path-sized : (S L : ℕ) (x : List ℕ) → L * S ≤ length x → (k : ℕ) → k < L → length (get_or (pieces S L x) k []) ≡ S
path-sized S L x h k g =
    let r = room k L S g in
    ap length (get_or-pieces S L x k g) ∙ length_part x (k * S) S (omega arith)
