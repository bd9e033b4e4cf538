-- The theorems of the seed tree, for every function of child seeds, every L and every hidden party: how many leaves and how long, that the path holds the
-- siblings, that a path rebuilds exactly the other leaves, and what any path, honest or not, makes of a tree.
-- Assumes nothing.
use mathlib.Core.Path.{◌≡◌, refl, sym, ap, ap₂, ◌∙◌}
use mathlib.Core.List.{List, [], ◌∷◌, ◌++◌}
use mathlib.Core.Option.{Option}
use Prim.Native.Nat.{ℕ, zero, suc, ◌-◌, ◌*◌, ◌/◌, ◌^◌, ◌≤◌, ◌<◌}
use native.Mathlib.Nat.{pow-succ'}
use native.Mathlib.Decide.{dec_lt}
use native.Mathlib.Omega.{arith}
use lib.ListN.{length, get_or, length-append, get_or-append}
use lib.Seq.{get_or_at}
use Rattle.tree.specs.Tree.{Children, seeds_at, get_seeds, position, sibling, towards, beside, on_way, path_at, get_path, new_known, known_at, get_path_seeds, hide, filled}
use Rattle.tree.proofs.Coded.{coded_at, coded}
use Rattle.tree.proofs.Positions.{position-last, position_half, position-lt, position-zero}
use Rattle.tree.proofs.Levels.{length-new_seeds, get_or-new_seeds, get_or-new_seeds-sibling}
use Rattle.tree.proofs.Hiding.{length-around, new_known-around, filled-new_known, around-own}

pub length-seeds_at : (kids : Children) (root : List ℕ) (k : ℕ) → length (seeds_at kids root k) ≡ 2 ^ k
unfolding seeds_at
length-seeds_at kids root zero = refl
length-seeds_at kids root (suc k) = length-new_seeds (kids k) 0 (seeds_at kids root k) ∙ ap (λ (n : ℕ). 2 * n) (length-seeds_at kids root k) ∙ sym (pow-succ' 2 k)

-- 2 to the L leaves
pub length-get_seeds : (kids : Children) (L : ℕ) (root : List ℕ) → length (get_seeds kids L root) ≡ 2 ^ L
unfolding get_seeds
length-get_seeds kids L root = length-seeds_at kids root L

module _ (kids : Children) (L : ℕ) (root : List ℕ) (h : ℕ) where
  pub length-path_at : (k : ℕ) → length (path_at kids L root h k) ≡ k
  unfolding path_at
  length-path_at zero = refl
  length-path_at (suc k) = let e = length-path_at k in simp length-append (omega arith)

  -- a path of L seeds
  pub length-get_path : length (get_path kids L root h) ≡ L
  unfolding get_path
  length-get_path = length-path_at L

  -- what turn k adds to the path stays there
  pub get_or-path_at : (n k : ℕ) → k < n → get_or (path_at kids L root h n) k []
      ≡ beside (position L h (suc k)) (kids k (position L h (suc k) / 2) (on_way kids L root h k))
  unfolding path_at
  get_or-path_at zero k g = absurd (omega arith)
  get_or-path_at (suc n) k g =
      elim (dec_lt k n) as (λ d. get_or (path_at kids L root h n ++ (beside (position L h (suc n)) (kids n (position L h (suc n) / 2) (on_way kids L root h n)) ∷ [])) k [] ≡ beside (position L h (suc k)) (kids k (position L h (suc k) / 2) (on_way kids L root h k))) [
        | yes y ↦ get_or-append (path_at kids L root h n) _ [] k (let e = length-path_at n in omega arith) ∙ get_or-path_at n k y
        | no y ↦ (let e : n ≡ k = omega arith in
            get_or_at (path_at kids L root h n) _ [] [] k (length-path_at n ∙ e)
            ∙ ap (λ (m : ℕ). beside (position L h (suc m)) (kids m (position L h (suc m) / 2) (on_way kids L root h m))) e)
      ]

-- ---- what any path, honest or not, makes of a tree

module _ (kids : Children) (L h : ℕ) (legal : h - 1 < 2 ^ L) where
  -- the parent of the hidden leaf's position lies on the level above
  parent_inside : (l : List (List ℕ)) (k : ℕ) → length l ≡ 2 ^ k → suc k ≤ L → position L h (suc k) / 2 < length l
  parent_inside l k e g = let a = position_half L h k g in let b = position-lt L h legal k (omega arith) in omega arith

  module _ (path : List (List ℕ)) (blank : List ℕ) where
    pub length_coded_at : (k : ℕ) → k ≤ L → length (coded_at kids L path h blank k) ≡ 2 ^ k
    unfolding coded_at
    length_coded_at zero g = refl
    length_coded_at (suc k) g =
        let e = length_coded_at k (omega arith) in
        length-around (kids k) (position L h (suc k)) (get_or path k []) blank (coded_at kids L path h blank k) (parent_inside (coded_at kids L path h blank k) k e g)
        ∙ ap (λ (n : ℕ). 2 * n) e ∙ sym (pow-succ' 2 k)

    known_at_coded_at : (k : ℕ) → k ≤ L → known_at kids L path h k ≡ hide (position L h k) (coded_at kids L path h blank k)
    unfolding known_at coded_at hide
    known_at_coded_at zero g = ap (λ (p : ℕ). hide p (blank ∷ [])) (sym (position-zero L h legal))
    known_at_coded_at (suc k) g =
        ap (new_known (kids k) (position L h (suc k)) (get_or path k []) 0)
        (known_at_coded_at k (omega arith) ∙ ap (λ (p : ℕ). hide p (coded_at kids L path h blank k)) (sym (position_half L h k g)))
        ∙ new_known-around (kids k) (position L h (suc k)) (get_or path k []) blank (coded_at kids L path h blank k)
        (parent_inside (coded_at kids L path h blank k) k (length_coded_at k (omega arith)) g)

    filled-known_at : (k : ℕ) → k ≤ L → filled blank (known_at kids L path h k) ≡ coded_at kids L path h blank k
    unfolding known_at coded_at filled
    filled-known_at zero g = refl
    filled-known_at (suc k) g =
        ap (λ (l : List (Option (List ℕ))). filled blank (new_known (kids k) (position L h (suc k)) (get_or path k []) 0 l))
        (known_at_coded_at k (omega arith) ∙ ap (λ (p : ℕ). hide p (coded_at kids L path h blank k)) (sym (position_half L h k g)))
        ∙ filled-new_known (kids k) (position L h (suc k)) (get_or path k []) blank (coded_at kids L path h blank k)
        (parent_inside (coded_at kids L path h blank k) k (length_coded_at k (omega arith)) g)

    -- any path makes a tree with exactly one place unknown, the hidden party's
    pub any_path_hides_one : get_path_seeds kids L path h ≡ hide (h - 1) (coded kids L path h blank)
    unfolding get_path_seeds coded
    any_path_hides_one = known_at_coded_at L (omega arith) ∙ ap (λ (p : ℕ). hide p (coded_at kids L path h blank L)) (position-last L h)

    -- and with a blank there it is a list of 2 to the L seeds
    pub filled-get_path_seeds : filled blank (get_path_seeds kids L path h) ≡ coded kids L path h blank
    unfolding get_path_seeds coded
    filled-get_path_seeds = filled-known_at L (omega arith)

    pub length_coded : length (coded kids L path h blank) ≡ 2 ^ L
    unfolding coded
    length_coded = length_coded_at L (omega arith)

  -- ---- the path of a root

  module _ (root : List ℕ) where
    -- s of algorithm 4 is the seed at the hidden leaf's position
    pub on_way-seeds_at : (k : ℕ) → k ≤ L → on_way kids L root h k ≡ get_or (seeds_at kids root k) (position L h k) []
    unfolding on_way seeds_at
    on_way-seeds_at zero g = ap (λ (p : ℕ). get_or (root ∷ []) p []) (sym (position-zero L h legal))
    on_way-seeds_at (suc k) g =
        ap (λ (s : List ℕ). towards (position L h (suc k)) (kids k (position L h (suc k) / 2) s))
        (on_way-seeds_at k (omega arith) ∙ ap (λ (p : ℕ). get_or (seeds_at kids root k) p []) (sym (position_half L h k g)))
        ∙ sym (get_or-new_seeds (kids k) (seeds_at kids root k) (position L h (suc k)) (parent_inside (seeds_at kids root k) k (length-seeds_at kids root k) g))

    -- the seed that turn k gives for the path, by the level above it
    own-seeds_at : (k : ℕ) → suc k ≤ L → get_or (get_path kids L root h) k []
        ≡ beside (position L h (suc k)) (kids k (position L h (suc k) / 2) (get_or (seeds_at kids root k) (position L h (suc k) / 2) []))
    unfolding get_path
    own-seeds_at k g =
        get_or-path_at kids L root h L k (omega arith)
        ∙ ap (λ (s : List ℕ). beside (position L h (suc k)) (kids k (position L h (suc k) / 2) s))
        (on_way-seeds_at k (omega arith) ∙ ap (λ (p : ℕ). get_or (seeds_at kids root k) p []) (sym (position_half L h k g)))

    -- the path holds at each level the seed at the sibling's position
    pub path_holds_siblings : (k : ℕ) → suc k ≤ L → get_or (get_path kids L root h) k [] ≡ get_or (seeds_at kids root (suc k)) (sibling (position L h (suc k))) []
    unfolding seeds_at
    path_holds_siblings k g =
        own-seeds_at k g
        ∙ sym (get_or-new_seeds-sibling (kids k) (seeds_at kids root k) (position L h (suc k)) (parent_inside (seeds_at kids root k) k (length-seeds_at kids root k) g))

    known_at-seeds_at : (k : ℕ) → k ≤ L → known_at kids L (get_path kids L root h) h k ≡ hide (position L h k) (seeds_at kids root k)
    unfolding known_at seeds_at hide
    known_at-seeds_at zero g = ap (λ (p : ℕ). hide p (root ∷ [])) (sym (position-zero L h legal))
    known_at-seeds_at (suc k) g =
        let p = position L h (suc k) in
        let l = seeds_at kids root k in
        let c = kids k (p / 2) (get_or l (p / 2) []) in
        let i = parent_inside l k (length-seeds_at kids root k) g in
        ap₂ (λ (own : List ℕ) (known : List (Option (List ℕ))). new_known (kids k) p own 0 known) (own-seeds_at k g)
        (known_at-seeds_at k (omega arith) ∙ ap (λ (q : ℕ). hide q l) (sym (position_half L h k g)))
        ∙ new_known-around (kids k) p (beside p c) (towards p c) l i
        ∙ ap (hide p) (around-own (kids k) p l i)

    -- the path of a root and h rebuild exactly the other leaves, at their places
    pub path_rebuilds_the_others : get_path_seeds kids L (get_path kids L root h) h ≡ hide (h - 1) (get_seeds kids L root)
    unfolding get_path_seeds get_seeds
    path_rebuilds_the_others = known_at-seeds_at L (omega arith) ∙ ap (λ (p : ℕ). hide p (seeds_at kids root L)) (position-last L h)
