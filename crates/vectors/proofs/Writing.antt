-- The laws of elements written from any half byte on: what each half byte is then, that they are read back, that elements written one behind the other are written at once,
-- and when all bytes are their packing. Assumes nothing.
use mathlib.Core.Path.{◌≡◌, refl, sym, ap, ◌∙◌}
use mathlib.Core.Logic.{⊎_elim}
use mathlib.Core.Bool.{Bool, true, false, ◌&&◌, cond}
use mathlib.Core.List.{List, ◌++◌}
use Prim.Native.Nat.{ℕ, ◌+◌, ◌-◌, ◌*◌, ◌/◌, ◌%◌, ◌≤◌, ◌<◌}
use native.Mathlib.Nat.{mod-eq_of_lt}
use native.Mathlib.Decide.{dec_lt}
use native.Mathlib.Omega.{arith}
use borrow.Author.Tests.{le-leb, lt-leb, lt-ltb, le-ltb}
use lib.Dec.{leb, ltb}
use lib.ListN.{length, get_or, get_or-eq_default, get_or-append, length-append, replicate, length-replicate}
use lib.Seq.{get_or-append-add}
use Rattle.memory.proofs.Lists.{length-table, get_or-table}
use Rattle.field.specs.Packing.{Elements, Bytes, pack, packed_length, nib}
use Rattle.field.proofs.Packing.{Low, High, low_or_high, nib-lt, nib_low, nib_high, nib_zeros, bytes_by_halves, nib-pack, length-pack, pack-lt}
use Rattle.vectors.specs.Elements.{elements_at, half_after, elements_put}
use Rattle.vectors.proofs.Elements.{elements_at_of}

-- bytes whose half bytes are the elements, and 0 behind an odd last one, are their packing
pub pack_by_halves : (v b : List ℕ) → Bytes b → length b ≡ packed_length (length v) → ((j : ℕ) → j < 2 * length b → nib b j ≡ get_or v j 0 % 16) → b ≡ pack v
pack_by_halves v b hb e h = bytes_by_halves b (pack v) hb (pack-lt v) (e ∙ sym (length-pack v)) (λ j l. h j l ∙ sym (nib-pack v j))

half_lt : (v : List ℕ) (at : ℕ) (b : List ℕ) (j : ℕ) → half_after v at b j < 16
unfolding half_after
half_lt v at b j = of (leb at j && ltb j (at + length v))
  where
    of : (t : Bool) → cond t (get_or v (j - at) 0 % 16) (nib b j) < 16
    of true = omega arith
    of false = nib-lt b j

pub length-elements-put : (v : List ℕ) (at : ℕ) (b : List ℕ) → length (elements_put v at b) ≡ length b
unfolding elements_put
length-elements-put v at b = length-table (length b) (λ i. half_after v at b (i * 2) + 16 * half_after v at b (i * 2 + 1))

byte_put : (v : List ℕ) (at : ℕ) (b : List ℕ) (i : ℕ) → i < length b
    → get_or (elements_put v at b) i 0 ≡ half_after v at b (i * 2) + 16 * half_after v at b (i * 2 + 1)
unfolding elements_put
byte_put v at b i h = get_or-table (length b) (λ i. half_after v at b (i * 2) + 16 * half_after v at b (i * 2 + 1)) i h

pub elements-put-bytes : (v : List ℕ) (at : ℕ) (b : List ℕ) → Bytes (elements_put v at b)
elements-put-bytes v at b i =
    elim (dec_lt i (length b)) as (λ d. get_or (elements_put v at b) i 0 < 256) [
      | yes y ↦ (let e = byte_put v at b i y in let p = half_lt v at b (i * 2) in let q = half_lt v at b (i * 2 + 1) in omega arith)
      | no y ↦ (let s = length-elements-put v at b in let e = get_or-eq_default (elements_put v at b) 0 {n = i} (omega arith) in omega arith)
    ]

-- the half byte at each place
pub nib-elements-put : (v : List ℕ) (at : ℕ) (b : List ℕ) (j : ℕ) → j < 2 * length b → nib (elements_put v at b) j ≡ half_after v at b j
nib-elements-put v at b j h = ⊎_elim low high (low_or_high j)
  where
    low : Low j → nib (elements_put v at b) j ≡ half_after v at b j
    low l =
        let n = nib_low (elements_put v at b) j l in
        let e = byte_put v at b (j / 2) (omega arith) in
        let p = half_lt v at b (j / 2 * 2) in
        let q = ap (half_after v at b) l.place in
        omega arith

    high : High j → nib (elements_put v at b) j ≡ half_after v at b j
    high l =
        let n = nib_high (elements_put v at b) j l in
        let e = byte_put v at b (j / 2) (omega arith) in
        let p = half_lt v at b (j / 2 * 2) in
        let r = half_lt v at b (j / 2 * 2 + 1) in
        let q = ap (half_after v at b) l.place in
        omega arith

-- the three kinds of places: before the elements, inside them, behind them
pub nib-put-before : (v : List ℕ) (at : ℕ) (b : List ℕ) (j : ℕ) → j < 2 * length b → j < at → nib (elements_put v at b) j ≡ nib b j
unfolding half_after
nib-put-before v at b j h l = nib-elements-put v at b j h ∙ rw (lt-leb at j l)

pub nib-put_inside : (v : List ℕ) (at : ℕ) (b : List ℕ) (k : ℕ) → at + k < 2 * length b → k < length v
    → nib (elements_put v at b) (at + k) ≡ get_or v k 0 % 16
unfolding half_after
nib-put_inside v at b k h l =
    nib-elements-put v at b (at + k) h
    ∙ rw (le-leb at (at + k) (omega arith), lt-ltb (at + k) (at + length v) (omega arith))
    (ap (λ (i : ℕ). get_or v i 0 % 16) (let e : at + k - at ≡ k = omega arith in e))

pub nib-put-behind : (v : List ℕ) (at : ℕ) (b : List ℕ) (j : ℕ) → j < 2 * length b → at + length v ≤ j → nib (elements_put v at b) j ≡ nib b j
unfolding half_after
nib-put-behind v at b j h l =
    nib-elements-put v at b j h ∙ rw (le-leb at j (omega arith), le-ltb j (at + length v) l)

-- what was written is read back
pub elements_at_put : (v : List ℕ) (at : ℕ) (b : List ℕ) → Elements v → at + length v ≤ 2 * length b → elements_at (elements_put v at b) at (length v) ≡ v
elements_at_put v at b hv h =
    sym (elements_at_of v (elements_put v at b) at (length v) refl
    (λ k l. sym (nib-put_inside v at b k (omega arith) l ∙ mod-eq_of_lt (hv k))))

-- elements written behind elements are their concatenation written at once
pub elements-put-next : (v w : List ℕ) (at : ℕ) (b : List ℕ) → at + length v + length w ≤ 2 * length b
    → elements_put w (at + length v) (elements_put v at b) ≡ elements_put (v ++ w) at b
elements-put-next v w at b h =
    bytes_by_halves (elements_put w (at + length v) (elements_put v at b)) (elements_put (v ++ w) at b)
    (elements-put-bytes w (at + length v) (elements_put v at b)) (elements-put-bytes (v ++ w) at b)
    (size ∙ sym (length-elements-put (v ++ w) at b)) (λ j l. half j (let e = size in omega arith))
  where
    one : length (elements_put v at b) ≡ length b
    one = length-elements-put v at b

    size : length (elements_put w (at + length v) (elements_put v at b)) ≡ length b
    size = length-elements-put w (at + length v) (elements_put v at b) ∙ one

    half : (j : ℕ) → j < 2 * length b → nib (elements_put w (at + length v) (elements_put v at b)) j ≡ nib (elements_put (v ++ w) at b) j
    half j l =
        let s = one in
        let t = length-append v w in
        elim (dec_lt j at) as (λ d. nib (elements_put w (at + length v) (elements_put v at b)) j ≡ nib (elements_put (v ++ w) at b) j) [
          | yes y ↦
              nib-put-before w (at + length v) (elements_put v at b) j (omega arith) (omega arith)
              ∙ nib-put-before v at b j l y ∙ sym (nib-put-before (v ++ w) at b j l y)
          | no y ↦
              elim (dec_lt j (at + length v)) as (λ d. nib (elements_put w (at + length v) (elements_put v at b)) j ≡ nib (elements_put (v ++ w) at b) j) [
                | yes z ↦
                    (let g : at + (j - at) ≡ j = omega arith in
                    nib-put-before w (at + length v) (elements_put v at b) j (omega arith) z
                    ∙ ap (nib (elements_put v at b)) (sym g)
                    ∙ nib-put_inside v at b (j - at) (omega arith) (omega arith)
                    ∙ sym (ap (λ (x : ℕ). x % 16) (get_or-append v w 0 (j - at) (omega arith)))
                    ∙ sym (nib-put_inside (v ++ w) at b (j - at) (omega arith) (omega arith))
                    ∙ ap (nib (elements_put (v ++ w) at b)) g)
                | no z ↦
                    elim (dec_lt j (at + length v + length w)) as (λ d. nib (elements_put w (at + length v) (elements_put v at b)) j ≡ nib (elements_put (v ++ w) at b) j) [
                      | yes u ↦
                          (let g : at + length v + (j - (at + length v)) ≡ j = omega arith in
                          let f : at + (length v + (j - (at + length v))) ≡ j = omega arith in
                          ap (nib (elements_put w (at + length v) (elements_put v at b))) (sym g)
                          ∙ nib-put_inside w (at + length v) (elements_put v at b) (j - (at + length v)) (omega arith) (omega arith)
                          ∙ sym (ap (λ (x : ℕ). x % 16) (get_or-append-add v w (j - (at + length v)) 0))
                          ∙ sym (nib-put_inside (v ++ w) at b (length v + (j - (at + length v))) (omega arith) (omega arith))
                          ∙ ap (nib (elements_put (v ++ w) at b)) f)
                      | no u ↦
                          nib-put-behind w (at + length v) (elements_put v at b) j (omega arith) (omega arith)
                          ∙ nib-put-behind v at b j l (omega arith) ∙ sym (nib-put-behind (v ++ w) at b j l (omega arith))
                    ]
              ]
        ]

-- elements written over zeros are their packing, an odd last one too
pub elements-put_zeros : (v : List ℕ) (k : ℕ) → k ≡ packed_length (length v) → elements_put v 0 (replicate k 0) ≡ pack v
unfolding packed_length
elements-put_zeros v k e =
    pack_by_halves v (elements_put v 0 (replicate k 0)) (elements-put-bytes v 0 (replicate k 0))
    (length-elements-put v 0 (replicate k 0) ∙ zeros ∙ e)
    (λ j l. half j (let s = length-elements-put v 0 (replicate k 0) in omega arith))
  where
    zeros : length {A = ℕ} (replicate k 0) ≡ k
    zeros = length-replicate {A = ℕ} k 0

    half : (j : ℕ) → j < 2 * length {A = ℕ} (replicate k 0) → nib (elements_put v 0 (replicate k 0)) j ≡ get_or v j 0 % 16
    half j l =
        elim (dec_lt j (length v)) as (λ d. nib (elements_put v 0 (replicate k 0)) j ≡ get_or v j 0 % 16) [
          | yes y ↦
              (let g : 0 + j ≡ j = omega arith in
              ap (nib (elements_put v 0 (replicate k 0))) (sym g) ∙ nib-put_inside v 0 (replicate k 0) j (omega arith) y)
          | no y ↦
              nib-put-behind v 0 (replicate k 0) j l (omega arith) ∙ nib_zeros k j
              ∙ sym (ap (λ (x : ℕ). x % 16) (get_or-eq_default v 0 {n = j} (omega arith)))
        ]
