-- The path as bytes: one step of the walk, the path so far at the start of what is written, and the leaf at which the walk ends.
-- Assumes nothing.
use mathlib.Core.Path.{◌≡◌, refl, sym, ap, ap₂, ◌∙◌}
use mathlib.Core.Bool.{Bool, cond}
use mathlib.Core.List.{List, [], ◌∷◌, ◌++◌, append-nil, flatten}
use Prim.Native.Nat.{ℕ, zero, suc, ◌+◌, ◌-◌, ◌*◌, ◌/◌, ◌%◌, ◌^◌, ◌≤◌, ◌<◌}
use native.Mathlib.Nat.{zero-mul, one-mul, suc-mul, sub-zero, sub_self}
use native.Mathlib.Numerals.{add-one}
use native.Mathlib.Omega.{arith}
use lib.ListN.{length, get_or, take, drop, length-drop, drop_of_length-le}
use lib.Seq.{length-take-le, take_all, take_at}
use Rattle.memory.specs.Lists.{over, put}
use Rattle.memory.specs.Sections.{pieces}
use Rattle.memory.proofs.Parts.{over_fits, over-put, put_section, put_whole}
use Rattle.memory.proofs.Sections.{Each, no_section, one_more, each_append, part_in_put, copied_part, length-flatten, flatten-append, pieces-flatten}
use Rattle.memory.proofs.Xors.{part-sized, length_part}
use Rattle.hashes.specs.Hashes.{child_seeds}
use Rattle.hashes.proofs.Laws.{length-child_seeds}
use Rattle.tree.specs.Tree.{children, seeds_at, get_seeds, position, towards, beside, on_way, path_at, get_path}
use Rattle.tree.proofs.Positions.{Bit, even, odd, bit, position-last}
use Rattle.tree.proofs.Levels.{Kids}
use Rattle.tree.proofs.Laying.{Sized, children-sized}
use Rattle.tree.proofs.Theorems.{length-path_at, length-get_path, on_way-seeds_at}

module _ (S : ℕ) (salt : List ℕ) (e k j : ℕ) (s pair : List ℕ) (p : ℕ) (fits : 2 * S ≤ length pair) where
  first_in_lem : take S (drop 0 (put pair 0 (child_seeds S salt e k j s))) ≡ (children S salt e k j s).seed₁
  unfolding children
  first_in_lem = part_in_put pair (child_seeds S salt e k j s) 0 S (omega (arith, length-child_seeds S salt e k j s))

  second_in : take S (drop S (put pair 0 (child_seeds S salt e k j s))) ≡ (children S salt e k j s).seed₂
  unfolding children
  second_in =
      part_in_put pair (child_seeds S salt e k j s) S S (omega (arith, length-child_seeds S salt e k j s))
      ∙ take_all S (drop S (child_seeds S salt e k j s)) (simp length-drop (omega (arith, length-child_seeds S salt e k j s)))

  -- of the two children, the one on the way to p and the one beside it
  pub towards_in : take S (drop (p % 2 * S) (put pair 0 (child_seeds S salt e k j s))) ≡ towards p (children S salt e k j s)
  unfolding towards
  towards_in = by_bit (bit p)
    where
      by_bit : Bit p → take S (drop (p % 2 * S) (put pair 0 (child_seeds S salt e k j s))) ≡ towards p (children S salt e k j s)
      by_bit (even t z g) =
          ap (λ (n : ℕ). take S (drop n (put pair 0 (child_seeds S salt e k j s)))) (ap (λ (n : ℕ). n * S) z ∙ zero-mul S) ∙ first_in_lem
          ∙ ap (λ (b : Bool). cond b (children S salt e k j s).seed₂ (children S salt e k j s).seed₁) (sym t)
      by_bit (odd t z g) =
          ap (λ (n : ℕ). take S (drop n (put pair 0 (child_seeds S salt e k j s)))) (ap (λ (n : ℕ). n * S) z ∙ one-mul S) ∙ second_in
          ∙ ap (λ (b : Bool). cond b (children S salt e k j s).seed₂ (children S salt e k j s).seed₁) (sym t)

  pub beside_in : take S (drop (S - p % 2 * S) (put pair 0 (child_seeds S salt e k j s))) ≡ beside p (children S salt e k j s)
  unfolding beside
  beside_in = by_bit (bit p)
    where
      by_bit : Bit p → take S (drop (S - p % 2 * S) (put pair 0 (child_seeds S salt e k j s))) ≡ beside p (children S salt e k j s)
      by_bit (even t z g) =
          ap (λ (n : ℕ). take S (drop (S - n) (put pair 0 (child_seeds S salt e k j s)))) (ap (λ (n : ℕ). n * S) z ∙ zero-mul S)
          ∙ ap (λ (n : ℕ). take S (drop n (put pair 0 (child_seeds S salt e k j s)))) (sub-zero S) ∙ second_in
          ∙ ap (λ (b : Bool). cond b (children S salt e k j s).seed₁ (children S salt e k j s).seed₂) (sym t)
      by_bit (odd t z g) =
          ap (λ (n : ℕ). take S (drop (S - n) (put pair 0 (child_seeds S salt e k j s)))) (ap (λ (n : ℕ). n * S) z ∙ one-mul S)
          ∙ ap (λ (n : ℕ). take S (drop n (put pair 0 (child_seeds S salt e k j s)))) (sub_self S) ∙ first_in_lem
          ∙ ap (λ (b : Bool). cond b (children S salt e k j s).seed₁ (children S salt e k j s).seed₂) (sym t)

-- the place of the right child is the seed's length or 0
pub right_le : (p S : ℕ) → p % 2 * S ≤ S
right_le p S = by_bit (bit p)
  where
    by_bit : Bit p → p % 2 * S ≤ S
    by_bit (even t z g) = let a = ap (λ (n : ℕ). n * S) z in let b = zero-mul S in omega arith
    by_bit (odd t z g) = let a = ap (λ (n : ℕ). n * S) z in let b = one-mul S in omega arith

-- the seed beside the way, copied to its place in the path
pub besides_copied : (S : ℕ) (salt : List ℕ) (e k j : ℕ) (s pair pair' out last : List ℕ) (p : ℕ) → 2 * S ≤ length pair → length pair' ≡ length pair → k * S + S ≤ length out →
    pair' ≡ put pair 0 (child_seeds S salt e k j s) →
    last ≡ over (take (S - p % 2 * S + S - (S - p % 2 * S)) (drop (S - p % 2 * S) pair')) (take (k * S + S - k * S) (drop (k * S) out)) →
    take (k * S) out ++ (last ++ drop (k * S + S - k * S) (drop (k * S) out)) ≡ put out (k * S) (beside p (children S salt e k j s))
besides_copied S salt e k j s pair pair' out last p f n h q r =
    copied_part out (k * S) (k * S + S) part last size h (omega arith) r
    ∙ ap (put out (k * S))
    (ap₂ (λ (m : ℕ) (x : List ℕ). take m (drop (S - p % 2 * S) x)) (let t : S - p % 2 * S + S - (S - p % 2 * S) ≡ S = omega arith in t) q
    ∙ beside_in S salt e k j s pair p f)
  where
    part : List ℕ
    part = take (S - p % 2 * S + S - (S - p % 2 * S)) (drop (S - p % 2 * S) pair')

    size : length part ≡ k * S + S - k * S
    size =
        length-take-le (S - p % 2 * S + S - (S - p % 2 * S)) (drop (S - p % 2 * S) pair') (simp length-drop (omega arith))
        ∙ (let t : S - p % 2 * S + S - (S - p % 2 * S) ≡ k * S + S - k * S = omega arith in t)

-- ---- the path so far

length-beside : (S : ℕ) (kids : Kids) → Sized S kids → (p j : ℕ) (s : List ℕ) → length (beside p (kids j s)) ≡ S
unfolding beside
length-beside S kids z p j s = by_bit (bit p)
  where
    by_bit : Bit p → length (beside p (kids j s)) ≡ S
    by_bit (even t y g) = ap (λ (b : Bool). length (cond b (kids j s).seed₁ (kids j s).seed₂)) t ∙ z.second j s
    by_bit (odd t y g) = ap (λ (b : Bool). length (cond b (kids j s).seed₁ (kids j s).seed₂)) t ∙ z.first j s

module _ (S : ℕ) (salt : List ℕ) (e L : ℕ) (root : List ℕ) (h : ℕ) where
  -- each seed of the path has S bytes
  pub each_path_at : (k : ℕ) → Each S (path_at (children S salt e) L root h k)
  unfolding path_at
  each_path_at zero = no_section
  each_path_at (suc k) =
      each_append (each_path_at k)
      (one_more (length-beside S (children S salt e k) (children-sized S salt e k) (position L h (suc k)) (position L h (suc k) / 2) (on_way (children S salt e) L root h k)) no_section)

  pub length-path-bytes : (k : ℕ) → length (flatten (path_at (children S salt e) L root h k)) ≡ k * S
  length-path-bytes k = length-flatten (each_path_at k) ∙ ap (λ (n : ℕ). n * S) (length-path_at (children S salt e) L root h k)

  -- a path of L seeds of S bytes each, which its bytes give back
  pub each_get_path : Each S (get_path (children S salt e) L root h)
  unfolding get_path
  each_get_path = each_path_at L

  pub length-path : length (flatten (get_path (children S salt e) L root h)) ≡ L * S
  unfolding get_path
  length-path = length-path-bytes L

  pub pieces-path : pieces S L (flatten (get_path (children S salt e) L root h)) ≡ get_path (children S salt e) L root h
  pieces-path =
      ap₂ (pieces S) (sym (length-get_path (children S salt e) L root h)) (sym (append-nil (flatten (get_path (children S salt e) L root h))))
      ∙ pieces-flatten each_get_path []

  -- the seed on the way, and the path with one seed more
  pub on_way_turn : (k p : ℕ) (s : List ℕ) → p ≡ position L h (suc k) → s ≡ on_way (children S salt e) L root h k →
      towards p (children S salt e k (p / 2) s) ≡ on_way (children S salt e) L root h (k + 1)
  unfolding on_way
  on_way_turn k p s f g =
      ap₂ (λ (i : ℕ) (x : List ℕ). towards i (children S salt e k (i / 2) x)) f g ∙ ap (on_way (children S salt e) L root h) (sym (add-one k))

  pub path_turn : (k p : ℕ) (s x out out' : List ℕ) → p ≡ position L h (suc k) → s ≡ on_way (children S salt e) L root h k →
      out ≡ flatten (path_at (children S salt e) L root h k) ++ drop (k * S) x → out' ≡ put out (k * S) (beside p (children S salt e k (p / 2) s)) →
      out' ≡ flatten (path_at (children S salt e) L root h (k + 1)) ++ drop ((k + 1) * S) x
  unfolding path_at flatten
  path_turn k p s x out out' f g o r =
      r ∙ ap (λ (l : List ℕ). put l (k * S) own) o
      ∙ put_section sofar x (k * S) own (length-path-bytes k)
      ∙ ap₂ (λ (l : List ℕ) (n : ℕ). l ++ drop n x)
      (ap (λ (l : List ℕ). sofar ++ l) (sym (append-nil own) ∙ ap (λ (l : List ℕ). l ++ []) same)
      ∙ sym (flatten-append (path_at (children S salt e) L root h k) (beside (position L h (suc k)) (children S salt e k (position L h (suc k) / 2) (on_way (children S salt e) L root h k)) ∷ [])))
      (let n = length-beside S (children S salt e k) (children-sized S salt e k) p (p / 2) s in let m = suc-mul k S in let t : k * S + length own ≡ suc k * S = omega arith in t)
      ∙ ap (λ (n : ℕ). flatten (path_at (children S salt e) L root h n) ++ drop (n * S) x) (sym (add-one k))
    where
      own : List ℕ
      own = beside p (children S salt e k (p / 2) s)

      sofar : List ℕ
      sofar = flatten (path_at (children S salt e) L root h k)

      same : own ≡ beside (position L h (suc k)) (children S salt e k (position L h (suc k) / 2) (on_way (children S salt e) L root h k))
      same = ap₂ (λ (i : ℕ) (y : List ℕ). beside i (children S salt e k (i / 2) y)) f g

  -- the whole path fills what has its length
  pub path-whole : (k : ℕ) (x out : List ℕ) → k ≡ L → length x ≡ L * S → out ≡ flatten (path_at (children S salt e) L root h k) ++ drop (k * S) x →
      out ≡ flatten (get_path (children S salt e) L root h)
  unfolding get_path
  path-whole k x out f n o =
      o ∙ ap (λ (i : ℕ). flatten (path_at (children S salt e) L root h i) ++ drop (i * S) x) f
      ∙ ap (λ (l : List ℕ). flatten (path_at (children S salt e) L root h L) ++ l) (drop_of_length-le x {i = L * S} (omega arith))
      ∙ append-nil (flatten (path_at (children S salt e) L root h L))

  -- the seed on the way after all steps, copied, is the hidden party's leaf
  pub leaf_copied : (k at : ℕ) (pair x leaf : List ℕ) → k ≡ L → h - 1 < 2 ^ L → at + S ≤ length pair → length x ≡ S →
      take S (drop at pair) ≡ on_way (children S salt e) L root h k → leaf ≡ over (take (at + S - at) (drop at pair)) x →
      leaf ≡ get_or (get_seeds (children S salt e) L root) (h - 1) []
  unfolding get_seeds
  leaf_copied k at pair x leaf f b i n w o =
      let own = part-sized pair at S in
      let size = ap length own ∙ length_part pair at S i in
      o
      ∙ over-put (take (at + S - at) (drop at pair)) x (omega arith)
      ∙ put_whole x (take (at + S - at) (drop at pair)) (omega arith)
      ∙ own
      ∙ w
      ∙ ap (on_way (children S salt e) L root h) f
      ∙ on_way-seeds_at (children S salt e) L h b root L (omega arith)
      ∙ ap (λ (p : ℕ). get_or (seeds_at (children S salt e) root L) p []) (position-last L h)

  -- nothing is written yet
  pub path_none : (x : List ℕ) → x ≡ flatten (path_at (children S salt e) L root h 0) ++ drop (0 * S) x
  unfolding path_at flatten
  path_none x = ap (λ (n : ℕ). drop n x) (sym (zero-mul S))

-- the root lies at the start of what it was copied to
pub root-first : (root x : List ℕ) → length root ≤ length x → take (length root) (drop 0 (over root x)) ≡ root
root-first root x h = ap (take (length root)) (over_fits root x h) ∙ take_at root (drop (length root) x) (length root) refl
