-- The laws of elements read from any half byte on: entry by entry, and as a part of all that is packed. Assumes nothing.
use mathlib.Core.Path.{◌≡◌, sym, ap, ◌∙◌, subst}
use mathlib.Core.List.{List, ◌++◌}
use Prim.Native.Nat.{ℕ, ◌+◌, ◌-◌, ◌*◌, ◌/◌, ◌%◌, ◌≤◌, ◌<◌, min}
use native.Mathlib.Decide.{dec_lt}
use native.Mathlib.Omega.{arith}
use lib.ListN.{length, get_or, set, take, drop, length-drop, get_or-eq_default, get_or-append}
use lib.Seq.{get_or-take, get_or-drop, length-take-le, get_or-set_same, get_or-set_other, get_or-append-add}
use Rattle.memory.proofs.Lists.{length-table, get_or-table, table_same, table_of}
use Rattle.field.specs.Packing.{Elements, nib, unpack}
use Rattle.field.proofs.Packing.{nib-lt, nib-take, nib-drop, length-unpack, get_or-unpack}
use Rattle.vectors.specs.Elements.{elements_at, ReadTo}

pub length-elements_at : (b : List ℕ) (at n : ℕ) → length (elements_at b at n) ≡ n
unfolding elements_at
length-elements_at b at n = length-table n (λ k. nib b (at + k))

pub get_or-elements_at : (b : List ℕ) (at n k : ℕ) → k < n → get_or (elements_at b at n) k 0 ≡ nib b (at + k)
unfolding elements_at
get_or-elements_at b at n k h = get_or-table n (λ k. nib b (at + k)) k h

-- one element more is read
pub read_more : (bytes : List ℕ) (at i v : ℕ) (out : List ℕ) → i < length out → ReadTo bytes at i out → v ≡ nib bytes (at + i) → ReadTo bytes at (i + 1) (set out i v)
read_more bytes at i v out h done next j g =
    elim (dec_lt j i) as (λ d. get_or (set out i v) j 0 ≡ nib bytes (at + j)) [
      | yes y ↦ get_or-set_other out i j v 0 (λ z. omega arith) ∙ done j y
      | no y ↦ (let z : i ≡ j = omega arith in subst (λ (k : ℕ). get_or (set out i v) k 0 ≡ nib bytes (at + k)) z (get_or-set_same out i v 0 h ∙ next))
    ]

-- the sizes of a part of whole bytes
pub whole_fits : (n i x w : ℕ) → i ≤ n → w ≡ min ((n - i) / 2) x → i + w * 2 ≤ n
whole_fits n i x w h e = omega arith

pub whole_size : (i a w : ℕ) → i + w * 2 - i ≡ (a + w - a) * 2
whole_size i a w = omega arith

pub whole-even : (x : ℕ) → (x % 2 ≡ 1 → ⊥) → x ≡ x / 2 * 2
whole-even x h = omega arith

-- a part of whole bytes more is read
pub read_part : (bytes : List ℕ) (at i a e f n : ℕ) (out part after : List ℕ) → i ≤ length out → at + i ≡ a * 2 → i ≤ f → f - i ≡ (e - a) * 2 → n ≡ f - i
    → part ≡ unpack n (take (e - a) (drop a bytes)) → ReadTo bytes at i out → ReadTo bytes at f (take i out ++ (part ++ after))
read_part bytes at i a e f n out part after h even up size m p done j g =
    elim (dec_lt j i) as (λ d. get_or (take i out ++ (part ++ after)) j 0 ≡ nib bytes (at + j)) [
      | yes y ↦ get_or-append (take i out) (part ++ after) 0 j (let t = length-take-le i out h in omega arith) ∙ get_or-take i out j 0 y ∙ done j y
      | no y ↦ (let t = length-take-le i out h in
          let here : j ≡ length (take i out) + (j - i) = omega arith in
          let there : a * 2 + (j - i) ≡ at + j = omega arith in
          let l = ap length p ∙ length-unpack n (take (e - a) (drop a bytes)) in
          ap (λ (k : ℕ). get_or (take i out ++ (part ++ after)) k 0) here
          ∙ get_or-append-add (take i out) (part ++ after) (j - i) 0
          ∙ get_or-append part after 0 (j - i) (omega arith)
          ∙ ap (λ (x : List ℕ). get_or x (j - i) 0) p
          ∙ get_or-unpack n (take (e - a) (drop a bytes)) (j - i) (omega arith)
          ∙ nib-take (e - a) (drop a bytes) (j - i) (omega arith)
          ∙ nib-drop a bytes (j - i)
          ∙ ap (nib bytes) there)
    ]

-- all are read
pub read_all : (bytes : List ℕ) (at n : ℕ) (out : List ℕ) → length out ≡ n → ReadTo bytes at n out → out ≡ elements_at bytes at n
unfolding elements_at
read_all bytes at n out h done = table_of out n (λ k. nib bytes (at + k)) h done

-- a reader gets elements, whatever the bytes
pub elements_at_elements : (b : List ℕ) (at n : ℕ) → Elements (elements_at b at n)
elements_at_elements b at n k =
    elim (dec_lt k n) as (λ d. get_or (elements_at b at n) k 0 < 16) [
      | yes y ↦ (let e = get_or-elements_at b at n k y in let l = nib-lt b (at + k) in omega arith)
      | no y ↦ (let s = length-elements_at b at n in let e = get_or-eq_default (elements_at b at n) 0 {n = k} (omega arith) in omega arith)
    ]

-- a list is what a reader gets where each four bits are its entry
pub elements_at_of : (v b : List ℕ) (at n : ℕ) → length v ≡ n → ((k : ℕ) → k < n → get_or v k 0 ≡ nib b (at + k)) → v ≡ elements_at b at n
unfolding elements_at
elements_at_of v b at n e h = table_of v n (λ k. nib b (at + k)) e h

-- they are a part of all that is packed
pub elements_at_unpack : (b : List ℕ) (at n c : ℕ) → at + n ≤ c → elements_at b at n ≡ take n (drop at (unpack c b))
elements_at_unpack b at n c h = sym (elements_at_of (take n (drop at (unpack c b))) b at n size entry)
  where
    size : length (take n (drop at (unpack c b))) ≡ n
    size = length-take-le n (drop at (unpack c b)) (let e = length-unpack c b in simp length-drop (omega arith))

    entry : (k : ℕ) → k < n → get_or (take n (drop at (unpack c b))) k 0 ≡ nib b (at + k)
    entry k l = get_or-take n (drop at (unpack c b)) k 0 l ∙ get_or-drop at (unpack c b) k 0 ∙ get_or-unpack c b (at + k) (omega arith)

-- from the first half byte on they are what is unpacked
pub elements_at_first : (b : List ℕ) (n : ℕ) → elements_at b 0 n ≡ unpack n b
unfolding elements_at unpack
elements_at_first b n = table_same n (λ k. nib b (0 + k)) (nib b) (λ k h. ap (nib b) (let e : 0 + k ≡ k = omega arith in e))

-- behind whole bytes
pub elements_at_drop : (b : List ℕ) (at n k : ℕ) → elements_at (drop k b) at n ≡ elements_at b (k * 2 + at) n
unfolding elements_at
elements_at_drop b at n k =
    table_same n (λ i. nib (drop k b) (at + i)) (λ i. nib b (k * 2 + at + i))
    (λ i h. nib-drop k b (at + i) ∙ ap (nib b) (let e : k * 2 + (at + i) ≡ k * 2 + at + i = omega arith in e))
