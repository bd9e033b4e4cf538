-- A list that stands in another: the steps that read a layout, with no arithmetic of `take` and `drop` left to the reader.
-- Assumes nothing.
use mathlib.Core.Path.{◌≡◌, sym, ap, ap₂, ◌∙◌}
use mathlib.Core.List.{List, ◌++◌}
use Prim.Native.Nat.{ℕ, ◌+◌, ◌-◌, ◌≤◌, ◌<◌}
use native.Mathlib.Nat.{zero-add, add_assoc}
use native.Mathlib.Decide.{dec_lt}
use native.Mathlib.Omega.{arith}
use lib.ListN.{length, get_or, take, drop, length-append, length-drop, take-append-drop, get_or-append}
use lib.Seq.{ext_get_or, drop-drop, get_or-append-add, get_or-take, get_or-drop, length-take-le}
use Rattle.memory.specs.Lists.{put}
use Rattle.memory.proofs.Parts.{length-put, get_or-put_in}

-- v stands in x from the place k on
pub record StandsAt (x : List ℕ) (k : ℕ) (v : List ℕ) : Type 0 where
  pub fits : k + length v ≤ length x
  pub entry : (i : ℕ) → i < length v → get_or x (k + i) 0 ≡ get_or v i 0

-- a list stands in itself
pub stands_self : (x : List ℕ) → StandsAt x 0 x
stands_self x = record { fits = omega arith; entry = λ i h. ap (λ (k : ℕ). get_or x k 0) (zero-add i) }

-- v stands at the start of whatever begins with it
pub stands_first : (v w : List ℕ) → StandsAt (v ++ w) 0 v
stands_first v w = record {
  fits = simp length-append (omega arith);
  entry = λ i h. ap (λ (k : ℕ). get_or (v ++ w) k 0) (zero-add i) ∙ get_or-append v w 0 i h;
}

-- what stands in a part stands in the whole
pub stands_within : (x : List ℕ) (k : ℕ) (u : List ℕ) (j : ℕ) (v : List ℕ) → StandsAt x k u → StandsAt u j v → StandsAt x (k + j) v
stands_within x k u j v s t = record {
  fits = (let a = s.fits in let b = t.fits in omega arith);
  entry = λ i h.
      ap (λ (n : ℕ). get_or x n 0) (add_assoc k j i) ∙ s.entry (j + i) (let b = t.fits in omega arith) ∙ t.entry i h;
}

-- a list put before moves it, and one put after does not
pub stands_behind : (p x : List ℕ) (k : ℕ) (v : List ℕ) → StandsAt x k v → StandsAt (p ++ x) (length p + k) v
stands_behind p x k v s = record {
  fits = (let f = s.fits in simp length-append (omega arith));
  entry = λ i h. ap (λ (j : ℕ). get_or (p ++ x) j 0) (add_assoc (length p) k i) ∙ get_or-append-add p x (k + i) 0 ∙ s.entry i h;
}

pub stands_before : (x y : List ℕ) (k : ℕ) (v : List ℕ) → StandsAt x k v → StandsAt (x ++ y) k v
stands_before x y k v s = record {
  fits = (let f = s.fits in simp length-append (omega arith));
  entry = λ i h. get_or-append x y 0 (k + i) (let f = s.fits in omega arith) ∙ s.entry i h;
}

-- of two lists that stand joined, the left one and the right one
pub stands_left : (x : List ℕ) (k : ℕ) (u v : List ℕ) → StandsAt x k (u ++ v) → StandsAt x k u
stands_left x k u v s = record {
  fits = (let f = s.fits in let e = length-append u v in omega arith);
  entry = λ i h. s.entry i (let e = length-append u v in omega arith) ∙ get_or-append u v 0 i h;
}

pub stands_right : (x : List ℕ) (k : ℕ) (u v : List ℕ) → StandsAt x k (u ++ v) → StandsAt x (k + length u) v
stands_right x k u v s = record {
  fits = (let f = s.fits in let e = length-append u v in omega arith);
  entry = λ i h. ap (λ (j : ℕ). get_or x j 0) (add_assoc k (length u) i) ∙ s.entry (length u + i) (let e = length-append u v in omega arith) ∙ get_or-append-add u v i 0;
}

-- two that stand one behind the other stand joined
pub stands_joined : (x : List ℕ) (k : ℕ) (u v : List ℕ) → StandsAt x k u → StandsAt x (k + length u) v → StandsAt x k (u ++ v)
stands_joined x k u v s t = record {
  fits = (let f = t.fits in let e = length-append u v in omega arith);
  entry = λ i h.
      elim (dec_lt i (length u)) as (λ d. get_or x (k + i) 0 ≡ get_or (u ++ v) i 0) [
        | yes y ↦ s.entry i y ∙ sym (get_or-append u v 0 i y)
        | no y ↦ (let e : i ≡ length u + (i - length u) = omega arith in
            ap (λ (j : ℕ). get_or x j 0) (let g : k + i ≡ k + length u + (i - length u) = omega arith in g)
            ∙ t.entry (i - length u) (let g = length-append u v in omega arith)
            ∙ sym (get_or-append-add u v (i - length u) 0)
            ∙ ap (λ (j : ℕ). get_or (u ++ v) j 0) (sym e))
      ];
}

-- the part of x at that place is v
pub stands_part : (x : List ℕ) (k : ℕ) (v : List ℕ) → StandsAt x k v → take (length v) (drop k x) ≡ v
stands_part x k v s =
    ext_get_or 0 (take (length v) (drop k x)) v count
    (λ i h. let g : i < length v = omega (arith, count) in get_or-take (length v) (drop k x) i 0 g ∙ get_or-drop k x i 0 ∙ s.entry i g)
  where
    count : length (take (length v) (drop k x)) ≡ length v
    count = length-take-le (length v) (drop k x) (let f = s.fits in simp length-drop (omega arith))

-- what stands somewhere is read there
pub stands_read : (x : List ℕ) (k : ℕ) (v : List ℕ) (n : ℕ) → length v ≡ n → StandsAt x k v → take n (drop k x) ≡ v
stands_read x k v n e s = ap (λ (m : ℕ). take m (drop k x)) (sym e) ∙ stands_part x k v s

-- from there on the list begins with it
pub stands_drop : (x : List ℕ) (k : ℕ) (v : List ℕ) → StandsAt x k v → drop k x ≡ v ++ drop (k + length v) x
stands_drop x k v s =
    sym (take-append-drop (length v) (drop k x)) ∙ ap₂ (λ (a b : List ℕ). a ++ b) (stands_part x k v s) (drop-drop (length v) k x)

-- a part of x stands where it is
pub part_stands : (x : List ℕ) (k n : ℕ) → k + n ≤ length x → StandsAt x k (take n (drop k x))
part_stands x k n h = record {
  fits = (let e = count in omega arith);
  entry = λ i g. let f : i < n = omega (arith, count) in sym (get_or-take n (drop k x) i 0 f ∙ get_or-drop k x i 0);
}
  where
    count : length (take n (drop k x)) ≡ n
    count = length-take-le n (drop k x) (simp length-drop (omega arith))

-- as many entries at the same place are the same
pub stands_same : (x : List ℕ) (k : ℕ) (u v : List ℕ) → length u ≡ length v → StandsAt x k u → StandsAt x k v → u ≡ v
stands_same x k u v e s t = ext_get_or 0 u v e (λ i h. sym (s.entry i h) ∙ t.entry i (omega arith))

-- what was put somewhere stands there
pub put_stands : (old : List ℕ) (at : ℕ) (new : List ℕ) → at + length new ≤ length old → StandsAt (put old at new) at new
put_stands old at new h = record { fits = (let e = length-put old at new h in omega arith); entry = get_or-put_in old at new h }
