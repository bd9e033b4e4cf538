-- A level spread out around the hidden parent, as bytes: the pair that is put in its place, the level below, and the leaves that are rebuilt.
-- Assumes nothing.
use mathlib.Core.Path.{◌≡◌, refl, sym, ap, ap₂, ◌∙◌, subst}
use mathlib.Core.Bool.{Bool, cond}
use mathlib.Core.List.{List, [], ◌∷◌, ◌++◌, append-nil, flatten}
use mathlib.Core.Option.{Option}
use Prim.Native.Nat.{ℕ, suc, ◌+◌, ◌-◌, ◌*◌, ◌/◌, ◌%◌, ◌^◌, ◌≤◌, ◌<◌}
use native.Mathlib.Nat.{mul-le-mul_right, zero-mul, one-mul, suc-mul, add-mul, sub-zero}
use native.Mathlib.Numerals.{add-one}
use native.Mathlib.Omega.{arith}
use lib.ListN.{length, get_or, take, drop, set, replicate, length-replicate, length-append, length-drop}
use lib.Seq.{take_all, length-take-le}
use Rattle.memory.specs.Lists.{over, put}
use Rattle.memory.specs.Sections.{pieces}
use Rattle.memory.proofs.Lists.{room}
use Rattle.memory.proofs.Parts.{put_next, length-put}
use Rattle.memory.proofs.Sections.{Each, no_section, one_more, each_append, put-before, part_in_put, copied_part, cleared-part, length-flatten, flatten-append, length-pieces, get_or-pieces, take-pieces, drop-pieces, pieces-put, flatten-pieces, pieces-before-put}
use Rattle.tree.specs.Tree.{children, new_seeds, position, sibling, get_seeds, get_path, get_path_seeds, filled}
use Rattle.tree.specs.Spread.{spread, beside_blank, around}
use Rattle.tree.proofs.Coded.{coded_at, coded}
use Rattle.tree.proofs.Positions.{Bit, even, odd, bit, sibling_odd, sibling-even, sibling_rule}
use Rattle.tree.proofs.Levels.{Kids}
use Rattle.tree.proofs.Hiding.{length-beside_blank, length-around, filled-hide}
use Rattle.tree.proofs.Laying.{Sized, children-sized, each_new_seeds, twice, double, length-spread, spread_fits, spread_level, pow_next}
use Rattle.tree.proofs.Theorems.{filled-get_path_seeds, path_rebuilds_the_others}
use Rattle.tree.proofs.Walking.{pieces-path}

-- ---- the pair in the place of the hidden parent's children

-- where p and its sibling lie, with the parent's pair at q pairs
p_even : (p S : ℕ) → p ≡ 2 * (p / 2) → p * S ≡ p / 2 * (2 * S)
p_even p S g = ap (λ (n : ℕ). n * S) g ∙ twice (p / 2) S

p_odd : (p S : ℕ) → p ≡ 2 * (p / 2) + 1 → p * S ≡ p / 2 * (2 * S) + S
p_odd p S g = ap (λ (n : ℕ). n * S) g ∙ add-mul (2 * (p / 2)) 1 S ∙ ap₂ (λ (a b : ℕ). a + b) (twice (p / 2) S) (one-mul S)

next_pair : (q S : ℕ) → (q + 1) * (2 * S) ≡ q * (2 * S) + 2 * S
next_pair q S = add-mul q 1 (2 * S) ∙ ap (λ (n : ℕ). q * (2 * S) + n) (one-mul (2 * S))

sibling_of_even : (p S : ℕ) → p % 2 ≡ 0 → p ≡ 2 * (p / 2) → sibling p * S ≡ p / 2 * (2 * S) + S
sibling_of_even p S e g = ap (λ (n : ℕ). n * S) (sibling-even p e) ∙ add-mul p 1 S ∙ ap₂ (λ (a b : ℕ). a + b) (p_even p S g) (one-mul S)

sibling_of_odd : (p S : ℕ) → p % 2 ≡ 1 → p ≡ 2 * (p / 2) + 1 → sibling p * S ≡ p / 2 * (2 * S)
sibling_of_odd p S e g =
    ap (λ (n : ℕ). n * S) (sibling_odd p e ∙ (let t : p - 1 ≡ 2 * (p / 2) = omega arith in t)) ∙ twice (p / 2) S

-- a child q of the parent of p has its place within that parent's pair
pub child_room : (q p S m : ℕ) → q / 2 ≡ p / 2 → (p / 2 + 1) * (2 * S) ≤ m → q * S + S ≤ m
child_room q p S m e h =
    let a = mul-le-mul_right {m = q + 1} {n = 2 * (p / 2 + 1)} S (omega arith) in
    let b = add-mul q 1 S in
    let d = one-mul S in
    let t = twice (p / 2 + 1) S in
    omega arith

-- the seed given at the sibling's place and the blank at p
pub pair_put : (p S : ℕ) (own blank out : List ℕ) → length own ≡ S → length blank ≡ S → (p / 2 + 1) * (2 * S) ≤ length out →
    put (put out (sibling p * S) own) (p * S) blank ≡ put out (p / 2 * (2 * S)) (flatten (beside_blank p own blank))
unfolding beside_blank flatten
pair_put p S own blank out a b h = by_bit (bit p)
  where
    q : ℕ
    q = p / 2 * (2 * S)

    by_bit : Bit p → put (put out (sibling p * S) own) (p * S) blank ≡ put out (p / 2 * (2 * S)) (flatten (beside_blank p own blank))
    by_bit (even t e g) =
        ap₂ (λ (i j : ℕ). put (put out i own) j blank) (sibling_of_even p S e g) (p_even p S g)
        ∙ put-before out q (q + S) blank own (omega arith) (let n = next_pair (p / 2) S in omega arith)
        ∙ ap (λ (l : List ℕ). put out q (blank ++ l)) (sym (append-nil own))
        ∙ ap (λ (c : Bool). put out q (flatten (cond c (own ∷ blank ∷ []) (blank ∷ own ∷ [])))) (sym t)
    by_bit (odd t e g) =
        ap₂ (λ (i j : ℕ). put (put out i own) j blank) (sibling_of_odd p S e g) (p_odd p S g ∙ ap (λ (n : ℕ). q + n) (sym a))
        ∙ put_next out q own (let n = next_pair (p / 2) S in omega arith) blank
        ∙ ap (λ (l : List ℕ). put out q (own ++ l)) (sym (append-nil blank))
        ∙ ap (λ (c : Bool). put out q (flatten (cond c (own ∷ blank ∷ []) (blank ∷ own ∷ [])))) (sym t)

-- the same as the code writes it
pub placed : (p S o : ℕ) (own out last x zeros : List ℕ) → o ≡ sibling p → length own ≡ S → (p / 2 + 1) * (2 * S) ≤ length out →
    last ≡ over own (take (o * S + S - o * S) (drop (o * S) out)) →
    x ≡ take (o * S) out ++ (last ++ drop (o * S + S - o * S) (drop (o * S) out)) →
    zeros ≡ replicate (length (take (p * S + S - p * S) (drop (p * S) x))) 0 →
    take (p * S) x ++ (zeros ++ drop (p * S + S - p * S) (drop (p * S) x)) ≡ put out (p / 2 * (2 * S)) (flatten (beside_blank p own (replicate S 0)))
placed p S o own out last x zeros q a h l f z =
    cleared-part x (p * S) (p * S + S) zeros (let r = child_room p p S (length out) refl h in let n = ap length written ∙ size in omega arith) (omega arith) z
    ∙ ap₂ (λ (y : List ℕ) (n : ℕ). put y (p * S) (replicate n 0)) (written ∙ ap (λ (n : ℕ). put out (n * S) own) q) (let t : p * S + S - p * S ≡ S = omega arith in t)
    ∙ pair_put p S own (replicate S 0) out a (length-replicate S 0) h
  where
    inside : o * S + S ≤ length out
    inside = child_room o p S (length out) (ap (λ (n : ℕ). n / 2) q ∙ (sibling_rule p).parent) h

    written : x ≡ put out (o * S) own
    written = f ∙ copied_part out (o * S) (o * S + S) own last (a ∙ (let t : S ≡ o * S + S - o * S = omega arith in t)) inside (omega arith) l

    size : length (put out (o * S) own) ≡ length out
    size = length-put out (o * S) own (omega (arith, inside))

-- ---- the level around it

each_beside_blank : (S p : ℕ) (own blank : List ℕ) → length own ≡ S → length blank ≡ S → Each S (beside_blank p own blank)
unfolding beside_blank
each_beside_blank S p own blank a b = by_bit (bit p)
  where
    by_bit : Bit p → Each S (beside_blank p own blank)
    by_bit (even t e g) = subst (λ (c : Bool). Each S (cond c (own ∷ blank ∷ []) (blank ∷ own ∷ []))) (sym t) (one_more b (one_more a no_section))
    by_bit (odd t e g) = subst (λ (c : Bool). Each S (cond c (own ∷ blank ∷ []) (blank ∷ own ∷ []))) (sym t) (one_more a (one_more b no_section))

pub each_around : (S : ℕ) (kids : Kids) → Sized S kids → (p : ℕ) (own blank : List ℕ) (l : List (List ℕ)) → length own ≡ S → length blank ≡ S → Each S (around kids p own blank l)
unfolding around
each_around S kids z p own blank l a b =
    each_append (each_new_seeds S kids z 0 (take (p / 2) l))
    (each_append (each_beside_blank S p own blank a b) (each_new_seeds S kids z (suc (p / 2)) (drop (suc (p / 2)) l)))

module _ (S : ℕ) (kids : Kids) (sized : Sized S kids) (p n : ℕ) (own blank x : List ℕ) (inside : p / 2 < n) where
  -- three parts one after another are the level
  around_parts : spread S kids 0 (p / 2) x ++ (flatten (beside_blank p own blank) ++ spread S kids (suc (p / 2)) n x) ≡ flatten (around kids p own blank (pieces S n x))
  unfolding around spread
  around_parts =
      ap₂ (λ (a b : List ℕ). a ++ (flatten (beside_blank p own blank) ++ b))
      (spread_level S kids (p / 2) x ∙ ap (λ (l : List (List ℕ)). flatten (new_seeds kids 0 l)) (sym (take-pieces S (p / 2) n x (omega arith))))
      (ap (λ (l : List (List ℕ)). flatten (new_seeds kids (suc (p / 2)) l)) (sym (drop-pieces S (suc (p / 2)) n x)))
      ∙ ap (λ (l : List ℕ). flatten (new_seeds kids 0 (take (p / 2) (pieces S n x))) ++ l)
      (sym (flatten-append (beside_blank p own blank) (new_seeds kids (suc (p / 2)) (drop (suc (p / 2)) (pieces S n x)))))
      ∙ sym (flatten-append (new_seeds kids 0 (take (p / 2) (pieces S n x))) (beside_blank p own blank ++ new_seeds kids (suc (p / 2)) (drop (suc (p / 2)) (pieces S n x))))

  -- spread out in three turns
  pub around-put : (x₁ x₂ x₃ : List ℕ) → n * (2 * S) ≤ length x → length own ≡ S → length blank ≡ S →
      x₁ ≡ put x ((p / 2 + 1) * (2 * S)) (spread S kids (p / 2 + 1) n x) →
      x₂ ≡ put x₁ (p / 2 * (2 * S)) (flatten (beside_blank p own blank)) →
      x₃ ≡ put x₂ (0 * (2 * S)) (spread S kids 0 (p / 2) x₂) →
      x₃ ≡ put x 0 (flatten (around kids p own blank (pieces S n x)))
  around-put x₁ x₂ x₃ h a b f g i =
      i ∙ ap₂ (λ (m : ℕ) (l : List ℕ). put x₂ m l) (zero-mul (2 * S)) below
      ∙ ap (λ (l : List ℕ). put l 0 front) middle
      ∙ put-before x 0 at front (pair ++ back) (omega (arith, length-spread S kids sized 0 (p / 2) x, sub-mul)) fits
      ∙ ap (put x 0) around_parts
    where
      at : ℕ
      at = p / 2 * (2 * S)

      front : List ℕ
      front = spread S kids 0 (p / 2) x

      pair : List ℕ
      pair = flatten (beside_blank p own blank)

      back : List ℕ
      back = spread S kids (suc (p / 2)) n x

      sub-mul : (p / 2 - 0) * (2 * S) ≡ at
      sub-mul = ap (λ (m : ℕ). m * (2 * S)) (sub-zero (p / 2))

      two : length pair ≡ 2 * S
      two = length-flatten (each_beside_blank S p own blank a b) ∙ ap (λ (m : ℕ). m * S) (length-beside_blank p own blank)

      behind : suc (p / 2) * (2 * S) + length back ≤ length x
      behind = spread_fits S kids sized (suc (p / 2)) n x (omega arith) h

      fits : at + length (pair ++ back) ≤ length x
      fits = let l = length-append pair back in let m = suc-mul (p / 2) (2 * S) in omega (arith, two, behind)

      middle : x₂ ≡ put x at (pair ++ back)
      middle =
          g ∙ ap (λ (l : List ℕ). put l at pair) (f ∙ ap (λ (m : ℕ). put x (m * (2 * S)) (spread S kids m n x)) (add-one (p / 2)))
          ∙ put-before x at (suc (p / 2) * (2 * S)) pair back (let m = suc-mul (p / 2) (2 * S) in omega (arith, two)) behind

      below : spread S kids 0 (p / 2) x₂ ≡ front
      below =
          spread_level S kids (p / 2) x₂
          ∙ ap (λ (l : List (List ℕ)). flatten (new_seeds kids 0 l))
          (ap (pieces S (p / 2)) middle ∙ pieces-before-put S (p / 2) x at (pair ++ back) (let d = double (p / 2) S in omega arith) fits)
          ∙ sym (spread_level S kids (p / 2) x)

-- ---- level by level

-- at level 0 there is only the blank
pub blank_lies : (S : ℕ) (x last : List ℕ) → S ≤ length x → last ≡ replicate (length (take (S - 0) (drop 0 x))) 0 → pieces S 1 (last ++ drop (S - 0) (drop 0 x)) ≡ replicate S 0 ∷ []
unfolding pieces
blank_lies S x last h r =
    ap (λ (l : List ℕ). take S l ∷ []) (cleared-part x 0 S last h (omega arith) r ∙ ap (λ (n : ℕ). put x 0 (replicate n 0)) (sub-zero S))
    ∙ ap (λ (l : List ℕ). l ∷ []) (part_in_put x (replicate S 0) 0 S (omega (arith, size)) ∙ take_all S (replicate S 0) (omega (arith, size)))
  where
    size : length (replicate {A = ℕ} S 0) ≡ S
    size = length-replicate S 0

module _ (S : ℕ) (salt : List ℕ) (e L : ℕ) (path : List ℕ) (h : ℕ) where
  -- the seed that the path gives for level k + 1
  pub own_piece : (k : ℕ) → k < L → take (k * S + S - k * S) (drop (k * S) path) ≡ get_or (pieces S L path) k []
  own_piece k g = ap (λ (n : ℕ). take n (drop (k * S) path)) (let t : k * S + S - k * S ≡ S = omega arith in t) ∙ sym (get_or-pieces S L path k g)

  pub around_turn : (k n p : ℕ) (own x y : List ℕ) → n ≡ 2 ^ k → pieces S (2 ^ k) x ≡ coded_at (children S salt e) L (pieces S L path) h (replicate S 0) k →
      p / 2 < 2 ^ k → p ≡ position L h (suc k) → own ≡ get_or (pieces S L path) k [] → length own ≡ S →
      y ≡ put x 0 (flatten (around (children S salt e k) p own (replicate S 0) (pieces S n x))) →
      pieces S (2 ^ (k + 1)) y ≡ coded_at (children S salt e) L (pieces S L path) h (replicate S 0) (k + 1)
  unfolding coded_at
  around_turn k n p own x y m f i q o a r =
      ap₂ (pieces S) count (r ∙ ap (λ (j : ℕ). put x 0 (flatten (around (children S salt e k) p own (replicate S 0) (pieces S j x)))) m)
      ∙ pieces-put (each_around S (children S salt e k) (children-sized S salt e k) p own (replicate S 0) (pieces S (2 ^ k) x) a (length-replicate S 0)) x
      ∙ ap (around (children S salt e k) p own (replicate S 0)) f
      ∙ ap₂ (λ (j : ℕ) (s : List ℕ). around (children S salt e k) j s (replicate S 0) (coded_at (children S salt e) L (pieces S L path) h (replicate S 0) k)) q o
      ∙ ap (coded_at (children S salt e) L (pieces S L path) h (replicate S 0)) (sym (add-one k))
    where
      count : 2 ^ (k + 1) ≡ length (around (children S salt e k) p own (replicate S 0) (pieces S (2 ^ k) x))
      count =
          pow_next k ∙ ap (λ (m : ℕ). 2 * m) (sym (length-pieces S (2 ^ k) x))
          ∙ sym (length-around (children S salt e k) p own (replicate S 0) (pieces S (2 ^ k) x) (let l = length-pieces S (2 ^ k) x in omega arith))

  -- the last level is what algorithm 5 gives, with zeros in the hidden place
  pub rebuilt : (k : ℕ) (x : List ℕ) → k ≡ L → length x ≡ 2 ^ L * S → h - 1 < 2 ^ L →
      pieces S (2 ^ k) x ≡ coded_at (children S salt e) L (pieces S L path) h (replicate S 0) k →
      x ≡ flatten (filled (replicate S 0) (get_path_seeds (children S salt e) L (pieces S L path) h))
  unfolding coded
  rebuilt k x a l legal f =
      sym (flatten-pieces S (2 ^ L) x l)
      ∙ ap flatten
      (ap (λ (i : ℕ). pieces S (2 ^ i) x) (sym a) ∙ f
      ∙ ap (coded_at (children S salt e) L (pieces S L path) h (replicate S 0)) a
      ∙ sym (filled-get_path_seeds (children S salt e) L h legal (pieces S L path) (replicate S 0)))

pub length-own : (S k L : ℕ) (path : List ℕ) → k < L → length path ≡ L * S → length (take (k * S + S - k * S) (drop (k * S) path)) ≡ S
length-own S k L path g h =
    let r = room k L S g in
    length-take-le (k * S + S - k * S) (drop (k * S) path) (simp length-drop (omega arith)) ∙ (let t : k * S + S - k * S ≡ S = omega arith in t)

-- a cleared start keeps the length
pub length-cleared : (S : ℕ) (x last : List ℕ) → S ≤ length x → length last ≡ length (take (S - 0) (drop 0 x)) → length (last ++ drop (S - 0) (drop 0 x)) ≡ length x
length-cleared S x last h k =
    let e = length-take-le (S - 0) (drop 0 x) (omega arith) in
    simp (length-append, length-drop) (omega arith)

-- the path of a root rebuilds its leaves, with zeros in the hidden place
pub rebuilt-leaves : (S : ℕ) (salt : List ℕ) (e L : ℕ) (root : List ℕ) (h : ℕ) → h - 1 < 2 ^ L →
    flatten (filled (replicate S 0) (get_path_seeds (children S salt e) L (pieces S L (flatten (get_path (children S salt e) L root h))) h))
    ≡ flatten (set (get_seeds (children S salt e) L root) (h - 1) (replicate S 0))
rebuilt-leaves S salt e L root h legal =
    ap (λ (path : List (List ℕ)). flatten (filled (replicate S 0) (get_path_seeds (children S salt e) L path h))) (pieces-path S salt e L root h)
    ∙ ap (λ (l : List (Option (List ℕ))). flatten (filled (replicate S 0) l)) (path_rebuilds_the_others (children S salt e) L h legal root)
    ∙ ap flatten (filled-hide (replicate S 0) (h - 1) (get_seeds (children S salt e) L root))
