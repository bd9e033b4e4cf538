-- Levels as bytes: what the children of a level take, one parent more, and a level spread out around the hidden parent.
-- Assumes nothing.
use mathlib.Core.Path.{◌≡◌, refl, sym, ap, ap₂, ◌∙◌}
use mathlib.Core.List.{List, [], ◌∷◌, ◌++◌, append_assoc, flatten}
use Prim.Native.Nat.{ℕ, zero, suc, ◌+◌, ◌-◌, ◌*◌, ◌%◌, ◌^◌, ◌≤◌, ◌<◌}
use native.Mathlib.Numerals.{add-one}
use lib.Pow.{pow_mono, pow_pos}
use native.Mathlib.Nat.{mod-eq_of_lt, pow-succ', mul-le-mul_right, one-mul, sub-zero, zero-mul, suc-mul, add-mul, mul_assoc, mul_comm, sub_self}
use native.Mathlib.Omega.{arith}
use lib.ListN.{length, take, drop, length-drop, take-append-drop}
use lib.Seq.{take_at, length-take-le, drop-drop}
use Rattle.memory.specs.Lists.{over, put}
use Rattle.memory.specs.Sections.{pieces}
use Rattle.memory.proofs.Parts.{lent-put, mid_put, over_fits}
use Rattle.memory.proofs.Sections.{copied_part, Each, no_section, one_more, put-nil, put-before, part-before-put, length-flatten, length-pieces, pieces-put, flatten-pieces}
use Rattle.sponge.specs.Sponge.{shake256}
use Rattle.sponge.proofs.Laws.{length-shake256}
use Rattle.hashes.specs.Hashes.{child_fields, child_seeds}
use Rattle.hashes.proofs.Laws.{length-child_seeds}
use Rattle.tree.specs.Tree.{children, new_seeds, seeds_at, get_seeds}
use Rattle.tree.specs.Spread.{spread}
use Rattle.tree.proofs.Levels.{Kids, length-new_seeds}
use Rattle.tree.proofs.Theorems.{length-get_seeds}

-- ---- lengths

-- each child of a level has S bytes
pub record Sized (S : ℕ) (kids : Kids) : Type 0 where
  pub first : (j : ℕ) (s : List ℕ) → length (kids j s).seed₁ ≡ S
  pub second : (j : ℕ) (s : List ℕ) → length (kids j s).seed₂ ≡ S

pub children-sized : (S : ℕ) (salt : List ℕ) (e k : ℕ) → Sized S (children S salt e k)
unfolding children
children-sized S salt e k = record {
  first = λ j s. length-take-le S (child_seeds S salt e k j s) (let h = length-child_seeds S salt e k j s in omega arith);
  second = λ j s. length-drop S (child_seeds S salt e k j s) ∙ (let h = length-child_seeds S salt e k j s in let g : length (child_seeds S salt e k j s) - S ≡ S = omega arith in g);
}

pub each_new_seeds : (S : ℕ) (kids : Kids) → Sized S kids → (j : ℕ) (l : List (List ℕ)) → Each S (new_seeds kids j l)
unfolding new_seeds
each_new_seeds S kids z j [] = no_section
each_new_seeds S kids z j (s ∷ l) = one_more (z.first j s) (one_more (z.second j s) (each_new_seeds S kids z (suc j) l))

pub twice : (n S : ℕ) → 2 * n * S ≡ n * (2 * S)
twice n S = ap (λ (k : ℕ). k * S) (mul_comm 2 n) ∙ mul_assoc n 2 S

pub length-spread : (S : ℕ) (kids : Kids) → Sized S kids → (from to : ℕ) (x : List ℕ) → length (spread S kids from to x) ≡ (to - from) * (2 * S)
unfolding spread
length-spread S kids z from to x =
    length-flatten (each_new_seeds S kids z from (pieces S (to - from) (drop (from * S) x)))
    ∙ ap (λ (n : ℕ). n * S) (length-new_seeds kids from (pieces S (to - from) (drop (from * S) x)) ∙ ap (λ (n : ℕ). 2 * n) (length-pieces S (to - from) (drop (from * S) x)))
    ∙ twice (to - from) S

-- 2 to the L leaves of S bytes each
pub each_seeds_at : (S : ℕ) (salt : List ℕ) (e : ℕ) (root : List ℕ) → length root ≡ S → (k : ℕ) → Each S (seeds_at (children S salt e) root k)
unfolding seeds_at
each_seeds_at S salt e root h zero = one_more h no_section
each_seeds_at S salt e root h (suc k) = each_new_seeds S (children S salt e k) (children-sized S salt e k) 0 (seeds_at (children S salt e) root k)

pub each_get_seeds : (S : ℕ) (salt : List ℕ) (e L : ℕ) (root : List ℕ) → length root ≡ S → Each S (get_seeds (children S salt e) L root)
unfolding get_seeds
each_get_seeds S salt e L root h = each_seeds_at S salt e root h L

pub length-leaves : (S : ℕ) (salt : List ℕ) (e L : ℕ) (root : List ℕ) → length root ≡ S → length (flatten (get_seeds (children S salt e) L root)) ≡ 2 ^ L * S
length-leaves S salt e L root h =
    length-flatten (each_get_seeds S salt e L root h) ∙ ap (λ (n : ℕ). n * S) (length-get_seeds (children S salt e) L root)

-- ---- one parent more, from the last to the first

-- no parent yet
pub spread_none : (S : ℕ) (kids : Kids) (to : ℕ) (x : List ℕ) → put x (to * (2 * S)) (spread S kids to to x) ≡ x
unfolding spread new_seeds pieces flatten
spread_none S kids to x =
    ap (λ (n : ℕ). put x (to * (2 * S)) (flatten (new_seeds kids to (pieces S n (drop (to * S) x))))) (sub_self to) ∙ put-nil x (to * (2 * S))

pub double : (n S : ℕ) → n * (2 * S) ≡ 2 * (n * S)
double n S = sym (twice n S) ∙ mul_assoc 2 n S

-- what is spread out fits where the level has room
pub spread_fits : (S : ℕ) (kids : Kids) → Sized S kids → (from to : ℕ) (x : List ℕ) → from ≤ to → to * (2 * S) ≤ length x → from * (2 * S) + length (spread S kids from to x) ≤ length x
spread_fits S kids z from to x g h =
    let l = length-spread S kids z from to x in
    let m = add-mul from (to - from) (2 * S) in
    let t : from + (to - from) ≡ to = omega arith in
    let u : (from + (to - from)) * (2 * S) ≡ to * (2 * S) = ap (λ (n : ℕ). n * (2 * S)) t in
    omega arith

module _ (S : ℕ) (salt : List ℕ) (e k : ℕ) where
  -- the two children of a parent are the bytes that ChildSeeds gives
  pub spread-one : (j to : ℕ) (x : List ℕ) → suc j ≤ to →
      spread S (children S salt e k) j to x ≡ child_seeds S salt e k j (take S (drop (j * S) x)) ++ spread S (children S salt e k) (suc j) to x
  unfolding spread new_seeds pieces flatten children
  spread-one j to x h =
      ap (λ (n : ℕ). flatten (new_seeds (children S salt e k) j (pieces S n (drop (j * S) x)))) (let t : to - j ≡ suc (to - suc j) = omega arith in t)
      ∙ sym (append_assoc (take S c) (drop S c) (rest (drop S (drop (j * S) x))))
      ∙ ap (λ (y : List ℕ). y ++ rest (drop S (drop (j * S) x))) (take-append-drop S c)
      ∙ ap (λ (y : List ℕ). c ++ rest y) (drop-drop S (j * S) x ∙ ap (λ (n : ℕ). drop n x) (sym (suc-mul j S)))
    where
      c : List ℕ
      c = child_seeds S salt e k j (take S (drop (j * S) x))

      rest : List ℕ → List ℕ
      rest y = flatten (new_seeds (children S salt e k) (suc j) (pieces S (to - suc j) y))

  spread_turn_suc : (j to : ℕ) (x y z : List ℕ) → suc j ≤ to → to * (2 * S) ≤ length x →
      y ≡ put x (suc j * (2 * S)) (spread S (children S salt e k) (suc j) to x) →
      z ≡ put y (j * (2 * S)) (child_seeds S salt e k j (take S (drop (j * S) y))) →
      z ≡ put x (j * (2 * S)) (spread S (children S salt e k) j to x)
  spread_turn_suc j to x y z g h ey ez =
      let T = spread S (children S salt e k) (suc j) to x in
      let f = spread_fits S (children S salt e k) (children-sized S salt e k) (suc j) to x g h in
      let a = suc-mul j S in
      let b = double (suc j) S in
      let d = double j S in
      let same : take S (drop (j * S) y) ≡ take S (drop (j * S) x)
      = ap (λ (l : List ℕ). take S (drop (j * S) l)) ey ∙ part-before-put x (suc j * (2 * S)) T (j * S) S (omega arith) f in
      let n = length-child_seeds S salt e k j (take S (drop (j * S) x)) in
      ez ∙ ap₂ (λ (l s : List ℕ). put l (j * (2 * S)) (child_seeds S salt e k j s)) ey same
      ∙ put-before x (j * (2 * S)) (suc j * (2 * S)) (child_seeds S salt e k j (take S (drop (j * S) x))) T (omega arith) f
      ∙ ap (put x (j * (2 * S))) (sym (spread-one j to x g))

  -- one parent more
  pub spread_turn : (i to : ℕ) (x y z : List ℕ) → 0 < i → i ≤ to → to * (2 * S) ≤ length x →
      y ≡ put x (i * (2 * S)) (spread S (children S salt e k) i to x) →
      z ≡ put y ((i - 1) * (2 * S)) (child_seeds S salt e k (i - 1) (take S (drop ((i - 1) * S) y))) →
      z ≡ put x ((i - 1) * (2 * S)) (spread S (children S salt e k) (i - 1) to x)
  spread_turn i to x y z p g h ey ez =
      let t : i ≡ suc (i - 1) = omega arith in
      spread_turn_suc (i - 1) to x y z (omega arith) h (ey ∙ ap (λ (n : ℕ). put x (n * (2 * S)) (spread S (children S salt e k) n to x)) t) ez

-- ---- one parent

-- the children of a seed that was copied to a place of its own, put where they belong
pub expanded : (S : ℕ) (salt : List ℕ) (e k j from to : ℕ) (out seed last given : List ℕ) → from + S ≤ length out → to + 2 * S ≤ length out → S ≤ length seed →
    last ≡ over (take (from + S - from) (drop from out)) (take (S - 0) (drop 0 seed)) →
    given ≡ shake256 (child_fields salt e k j (take (S - 0) (drop 0 (last ++ drop (S - 0) (drop 0 seed))))) (length (take (to + 2 * S - to) (drop to out))) →
    take to out ++ (given ++ drop (to + 2 * S - to) (drop to out)) ≡ put out to (child_seeds S salt e k j (take S (drop from out)))
unfolding child_seeds
expanded S salt e k j from to out seed last given f g h l r =
    lent-put out to (to + 2 * S) given (ap length whole ∙ length-shake256 _ (2 * S) ∙ (let t : 2 * S ≡ to + 2 * S - to = omega arith in t))
    ∙ ap (put out to) whole
  where
    part : List ℕ
    part = take (from + S - from) (drop from out)

    size : length part ≡ S - 0
    size = length-take-le (from + S - from) (drop from out) (simp length-drop (omega arith)) ∙ (let t : from + S - from ≡ S - 0 = omega arith in t)

    kept : take (S - 0) (drop 0 (last ++ drop (S - 0) (drop 0 seed))) ≡ take S (drop from out)
    kept =
        ap (take (S - 0)) (copied_part seed 0 S part last size h (omega arith) l)
        ∙ ap (λ (n : ℕ). take n (put seed 0 part)) (sym size)
        ∙ mid_put seed 0 part (omega (arith, size))
        ∙ ap (λ (n : ℕ). take n (drop from out)) (let t : from + S - from ≡ S = omega arith in t)

    whole : given ≡ shake256 (child_fields salt e k j (take S (drop from out))) (2 * S)
    whole =
        r ∙ ap₂ (λ (s : List ℕ) (n : ℕ). shake256 (child_fields salt e k j s) n) kept
        (length-take-le (to + 2 * S - to) (drop to out) (simp length-drop (omega arith)) ∙ (let t : to + 2 * S - to ≡ 2 * S = omega arith in t))

-- ---- a level that lies at the start

-- two levels one below the other, and the leaves, have room
pub level_room : (S k l : ℕ) → k < l → 2 ^ k * (2 * S) ≤ 2 ^ l * S
level_room S k l h =
    let a = twice (2 ^ k) S in
    let b = ap (λ (n : ℕ). n * S) (pow-succ' 2 k) in
    let c = mul-le-mul_right {m = 2 ^ suc k} {n = 2 ^ l} S (pow_mono {i = suc k} {j = l} h) in
    omega arith

-- the level below has twice as many seeds
pub pow_next : (k : ℕ) → 2 ^ (k + 1) ≡ 2 * 2 ^ k
pow_next k = ap (λ (i : ℕ). 2 ^ i) (add-one k) ∙ pow-succ' 2 k

pub pow_small : (k : ℕ) → k ≤ 8 → 2 ^ k ≤ 256
pow_small k h = pow_mono {i = k} {j = 8} h

-- the same number as the code shifts it
pub shifted_one : (k : ℕ) → k ≤ 8 → 1 * 2 ^ k % 2 ^ 64 ≡ 2 ^ k
shifted_one k h = ap (λ (i : ℕ). i % 2 ^ 64) (one-mul (2 ^ k)) ∙ mod-eq_of_lt (let s = pow_small k h in omega arith)

pub seed-room : (S l : ℕ) → S ≤ 2 ^ l * S
seed-room S l = let a = mul-le-mul_right {m = 1} {n = 2 ^ l} S (pow_pos l) in let b = one-mul S in omega arith

pub spread_level : (S : ℕ) (kids : Kids) (n : ℕ) (x : List ℕ) → spread S kids 0 n x ≡ flatten (new_seeds kids 0 (pieces S n x))
unfolding spread
spread_level S kids n x = ap₂ (λ (m i : ℕ). flatten (new_seeds kids 0 (pieces S m (drop i x)))) (sub-zero n) (zero-mul S)

-- the root is level 0
pub root_lies : (root x : List ℕ) → length root ≤ length x → pieces (length root) 1 (over root x) ≡ root ∷ []
unfolding pieces
root_lies root x h = ap (λ (y : List ℕ). y ∷ []) (ap (take (length root)) (over_fits root x h) ∙ take_at root (drop (length root) x) (length root) refl)

-- a level whose parents are all spread out is the next level
pub level_turn : (S : ℕ) (salt : List ℕ) (e : ℕ) (root : List ℕ) (k n : ℕ) (x y : List ℕ) → n ≡ 2 ^ k → pieces S (2 ^ k) x ≡ seeds_at (children S salt e) root k →
    y ≡ put x (0 * (2 * S)) (spread S (children S salt e k) 0 n x) → pieces S (2 ^ (k + 1)) y ≡ seeds_at (children S salt e) root (k + 1)
unfolding seeds_at
level_turn S salt e root k n x y i h f =
    ap₂ (pieces S) count (f ∙ ap₂ (put x) (zero-mul (2 * S)) (spread_level S (children S salt e k) n x ∙ ap (λ (m : ℕ). flatten (new_seeds (children S salt e k) 0 (pieces S m x))) i))
    ∙ pieces-put (each_new_seeds S (children S salt e k) (children-sized S salt e k) 0 (pieces S (2 ^ k) x)) x
    ∙ ap (new_seeds (children S salt e k) 0) h
    ∙ ap (seeds_at (children S salt e) root) (sym (add-one k))
  where
    count : 2 ^ (k + 1) ≡ length (new_seeds (children S salt e k) 0 (pieces S (2 ^ k) x))
    count = pow_next k ∙ ap (λ (m : ℕ). 2 * m) (sym (length-pieces S (2 ^ k) x)) ∙ sym (length-new_seeds (children S salt e k) 0 (pieces S (2 ^ k) x))

-- the last level is the leaves
pub leaves_lie : (S : ℕ) (salt : List ℕ) (e l : ℕ) (root : List ℕ) (k : ℕ) (x : List ℕ) → k ≡ l → length x ≡ 2 ^ l * S →
    pieces S (2 ^ k) x ≡ seeds_at (children S salt e) root k → x ≡ flatten (get_seeds (children S salt e) l root)
unfolding get_seeds
leaves_lie S salt e l root k x a h f =
    sym (flatten-pieces S (2 ^ l) x h)
    ∙ ap flatten (ap (λ (i : ℕ). pieces S (2 ^ i) x) (sym a) ∙ f ∙ ap (seeds_at (children S salt e) root) a)
