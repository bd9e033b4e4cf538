-- The laws of sampling: how many entries a sampled vector has, that they are elements, where an index lies, and that a sponge's tape gives the bytes that are sampled.
-- Assumes nothing.
use mathlib.Core.Path.{◌≡◌, sym, ap, ap₂, ◌∙◌}
use mathlib.Core.List.{List, ◌++◌}
use Prim.Native.Nat.{ℕ, ◌+◌, ◌-◌, ◌*◌, ◌%◌, ◌^◌, ◌≤◌, ◌<◌}
use native.Mathlib.Nat.{mod-lt, zero-add}
use native.Mathlib.Omega.{arith}
use lib.ListN.{length, drop, length-drop}
use lib.Pow.{pow_pos}
use lib.Seq.{drop_at}
use Rattle.field.specs.Packing.{Elements, packed_length, nib}
use Rattle.field.specs.Vectors.{◌!◌}
use Rattle.field.proofs.Packing.{length-unpack, unpack-elements, get_or-unpack, nib-append_left, nib-append_right}
use Rattle.sponge.specs.Sponge.{little}
use Rattle.sponge.specs.declared.Tape.{Tape}
use Rattle.sponge.specs.Steps.{fresh, absorbed, finished, given, moved}
use Rattle.sponge.proofs.Laws.{given-append, moved-append, given-shake256, length-given, length-shake256}
use Rattle.forms.specs.Sampling.{tape_bytes, sample_elements, index_length, sample_index, expand_elements, expand_index}

pub length-tape_bytes : (x : List ℕ) (from count : ℕ) → length (tape_bytes x from count) ≡ count
unfolding tape_bytes
length-tape_bytes x from count = let e = length-shake256 x (from + count) in simp length-drop (omega arith)

-- what a sponge's tape gives after `from` bytes
pub given-tape : (x : List ℕ) (from count : ℕ) → given (moved (finished (absorbed fresh x)) from) count ≡ tape_bytes x from count
unfolding tape_bytes
given-tape x from count =
    let t = finished (absorbed fresh x) in
    sym (drop_at (given t from) (given (moved t from) count) from (length-given t from))
    ∙ ap (drop from) (sym (given-append t from count) ∙ given-shake256 x (from + count))

-- bytes of a tape in two parts
pub tape_bytes-append : (x : List ℕ) (from a b : ℕ) → tape_bytes x from (a + b) ≡ tape_bytes x from a ++ tape_bytes x (from + a) b
tape_bytes-append x from a b =
    let t = finished (absorbed fresh x) in
    sym (given-tape x from (a + b)) ∙ given-append (moved t from) a b
    ∙ ap₂ ◌++◌ (given-tape x from a) (ap (λ (u : Tape). given u b) (moved-append t from a) ∙ given-tape x (from + a) b)

-- ---- vectors

pub length-sample_elements : (x : List ℕ) (from n : ℕ) → length (sample_elements x from n) ≡ n
unfolding sample_elements
length-sample_elements x from n = length-unpack n (tape_bytes x from (packed_length n))

pub sample_elements-elements : (x : List ℕ) (from n : ℕ) → Elements (sample_elements x from n)
unfolding sample_elements
sample_elements-elements x from n = unpack-elements n (tape_bytes x from (packed_length n))

pub sample_elements_at : (x : List ℕ) (from n k : ℕ) → k < n → sample_elements x from n ! k ≡ nib (tape_bytes x from (packed_length n)) k
unfolding sample_elements
sample_elements_at x from n k h = get_or-unpack n (tape_bytes x from (packed_length n)) k h

inside_packed : (n k : ℕ) → k < n → k < packed_length n * 2
unfolding packed_length
inside_packed n k h = omega arith

-- the same among the first bytes of the tape: a vector that is sampled from a place on lies there as it was packed
pub sample_elements-nib : (x : List ℕ) (from n size k : ℕ) → k < n → from + packed_length n ≤ size → sample_elements x from n ! k ≡ nib (tape_bytes x 0 size) (from * 2 + k)
sample_elements-nib x from n size k h room =
    let w = packed_length n in
    let before = tape_bytes x 0 from in
    let here = tape_bytes x from w in
    let rest = tape_bytes x (from + w) (size - (from + w)) in
    let parts : tape_bytes x 0 size ≡ before ++ (here ++ rest) =
    ap (tape_bytes x 0) (let e : size ≡ from + (w + (size - (from + w))) = omega arith in e)
    ∙ tape_bytes-append x 0 from (w + (size - (from + w)))
    ∙ ap (λ (l : List ℕ). before ++ l)
    (ap (λ (i : ℕ). tape_bytes x i (w + (size - (from + w)))) (zero-add from) ∙ tape_bytes-append x from w (size - (from + w))) in
    let here-size = length-tape_bytes x from w in
    let inside = inside_packed n k h in
    sample_elements_at x from n k h
    ∙ sym (nib-append_left here rest k (omega arith))
    ∙ sym (ap₂ nib parts (ap (λ (l : ℕ). l * 2 + k) (sym (length-tape_bytes x 0 from))) ∙ nib-append_right before (here ++ rest) k)

pub length-expand_elements : (seed : List ℕ) (n i : ℕ) → length (expand_elements seed n i) ≡ n
unfolding expand_elements
length-expand_elements seed n i = length-sample_elements seed ((i - 1) * packed_length n) n

pub expand_elements-elements : (seed : List ℕ) (n i : ℕ) → Elements (expand_elements seed n i)
unfolding expand_elements
expand_elements-elements seed n i = sample_elements-elements seed ((i - 1) * packed_length n) n

-- an index is the number of a party: from 1 to 2^l
pub record Index (l i : ℕ) : Type 0 where
  pub from_one : 1 ≤ i
  pub below : i - 1 < 2 ^ l

pub sample_index_index : (x : List ℕ) (from l : ℕ) → Index l (sample_index x from l)
unfolding sample_index
sample_index_index x from l =
    let h : little (tape_bytes x from (index_length l)) % 2 ^ l < 2 ^ l = mod-lt (little (tape_bytes x from (index_length l))) (pow_pos l) in
    record { from_one = omega arith; below = omega arith }

pub expand_index_index : (seed : List ℕ) (l i : ℕ) → Index l (expand_index seed l i)
unfolding expand_index
expand_index_index seed l i = sample_index_index seed ((i - 1) * index_length l) l
