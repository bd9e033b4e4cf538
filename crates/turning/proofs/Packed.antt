-- The bytes of sixteen parties are the packing of their vectors, one after another; turned words hold what the packed ones do.
-- Assumes nothing.
use mathlib.Core.Path.{◌≡◌, sym, ap, ap₂, ◌∙◌, subst}
use mathlib.Core.List.{List, [], ◌∷◌, ◌++◌, flatten}
use Prim.Native.Nat.{ℕ, zero, suc, ◌+◌, ◌*◌, ◌/◌, ◌%◌, ◌≤◌, ◌<◌}
use native.Mathlib.Nat.{mul-zero, mul-suc, mul_comm, mod-lt, mod-eq_of_lt, div-add-mod, div-lt_iff_lt-mul, zero-add}
use native.Mathlib.Decide.{dec_lt}
use native.Mathlib.Omega.{arith}
use lib.ListN.{length, get_or, take, drop, length-append, take-append-drop, get_or-append, get_or-eq_default}
use lib.Dec.{lit<}
use lib.Seq.{get_or-append-add, get_or-take, length-take-le}
use Rattle.memory.specs.Lists.{over}
use Rattle.memory.proofs.Parts.{over_fits}
use Rattle.field.specs.Packing.{Bytes, nib, pack, packed_length}
use Rattle.field.proofs.Packing.{nib-take, bytes_by_halves, nib-pack, length-pack, pack-lt}
use Rattle.lanes.specs.Lanes.{lane, Holds}
use Rattle.lanes.proofs.Laws.{lane-lt}
use Rattle.turning.specs.Turns.{Turned}
use Rattle.turning.specs.Parties.{PartiesPacked}

-- ---- vectors of one length, one after another

module _ (m : ℕ) where
  length-flatten : (vs : List (List ℕ)) → ((q : ℕ) → q < length vs → length (get_or vs q []) ≡ m) → length (flatten vs) ≡ m * length vs
  unfolding flatten
  length-flatten [] h = sym (mul-zero m)
  length-flatten (v ∷ vs) h =
      let e = h 0 (omega arith) in
      let r = length-flatten vs (λ q l. h (suc q) (omega arith)) in
      rw (length-append v (flatten vs), mul-suc m (length vs)) (omega arith)

  get_or-flatten : (vs : List (List ℕ)) → ((q : ℕ) → q < length vs → length (get_or vs q []) ≡ m) → (q k : ℕ) → q < length vs → k < m
      → get_or (flatten vs) (m * q + k) 0 ≡ get_or (get_or vs q []) k 0
  unfolding flatten
  get_or-flatten [] h q k l g = absurd (omega arith)
  get_or-flatten (v ∷ vs) h zero k l g =
      let e = h 0 (omega arith) in
      rw (mul-zero m, zero-add k) (get_or-append v (flatten vs) 0 k (omega arith))
  get_or-flatten (v ∷ vs) h (suc q) k l g =
      let e = h 0 (omega arith) in
      let f : m * suc q + k ≡ length v + (m * q + k) = rw (mul-suc m q) (omega arith) in
      rw f (get_or-append-add v (flatten vs) (m * q + k) 0 ∙ get_or-flatten vs (λ q l. h (suc q) (omega arith)) q k (omega arith) g)

-- ---- bytes by elements

module _ (words before after : List ℕ) (p : PartiesPacked words before after) where
  -- what the words hold, the bytes hold
  pub packed_holds : (f : ℕ → ℕ → ℕ) → Holds f words → (q k : ℕ) → q < 16 → k < length words → nib after (length words * q + k) ≡ f q k
  unfolding Holds
  packed_holds f h q k hq hk = p.elements q k hq hk ∙ h k q hk hq

  module _ (vs : List (List ℕ)) (count : length vs ≡ 16) (sized : (q : ℕ) → q < 16 → length (get_or vs q []) ≡ length words)
      (held : (q k : ℕ) → q < 16 → k < length words → get_or (get_or vs q []) k 0 ≡ lane q (get_or words k 0))
      (bytes : Bytes after) (room : 8 * length words ≤ length after) where
    sizes : (q : ℕ) → q < length vs → length (get_or vs q []) ≡ length words
    sizes q l = sized q (omega arith)

    length_all : length (flatten vs) ≡ 16 * length words
    length_all = length-flatten (length words) vs sizes ∙ ap (λ (n : ℕ). length words * n) count ∙ mul_comm (length words) 16

    length_packed : length (pack (flatten vs)) ≡ 8 * length words
    unfolding packed_length
    length_packed = length-pack (flatten vs) ∙ ap (λ (n : ℕ). (n + 1) / 2) length_all ∙ omega arith

    element : (i : ℕ) → i < 16 * length words → nib after i ≡ nib (pack (flatten vs)) i
    element i h =
        let m = length words in
        let q : i / m < 16 = (div-lt_iff_lt-mul {k = m} {x = i} {y = 16} (omega arith)).1 h in
        let k : i % m < m = mod-lt i (omega arith) in
        let e : m * (i / m) + i % m ≡ i = div-add-mod i m in
        subst (λ (n : ℕ). nib after n ≡ nib (pack (flatten vs)) n) e
        (p.elements (i / m) (i % m) q k
        ∙ sym (nib-pack (flatten vs) (m * (i / m) + i % m)
        ∙ ap (λ (n : ℕ). n % 16) (get_or-flatten m vs sizes (i / m) (i % m) (omega arith) k ∙ held (i / m) (i % m) q k)
        ∙ mod-eq_of_lt (lane-lt (i / m) (get_or words (i % m) 0))))

    -- the bytes written are the packing of the sixteen vectors
    pub packed_front : take (8 * length words) after ≡ pack (flatten vs)
    packed_front =
        let n = length-take-le (8 * length words) after room in
        bytes_by_halves (take (8 * length words) after) (pack (flatten vs)) front (pack-lt (flatten vs)) (n ∙ sym length_packed)
        (λ i h. nib-take (8 * length words) after i (omega arith) ∙ element i (omega arith))
      where
        front : Bytes (take (8 * length words) after)
        front i =
            elim (dec_lt i (8 * length words)) as (λ d. get_or (take (8 * length words) after) i 0 < 256) [
              | yes l ↦ rw (get_or-take (8 * length words) after i 0 l) (bytes i)
              | no l ↦ (let n = length-take-le (8 * length words) after room in
                  rw (get_or-eq_default (take (8 * length words) after) 0 {n = i} (omega arith)) (lit< tt))
            ]

    pub packed_over : length before ≡ length after → after ≡ over (pack (flatten vs)) before
    packed_over e =
        sym (take-append-drop (8 * length words) after)
        ∙ ap₂ (λ (x y : List ℕ). x ++ y) packed_front (p.rest ∙ ap (λ (n : ℕ). drop n before) (sym length_packed))
        ∙ sym (over_fits (pack (flatten vs)) before (let n = length_packed in omega arith))

-- ---- turned words

-- turned words hold the elements of the packed ones: place k of party q is lane k % 16 of its word k / 16
pub turned_holds : (x y : List ℕ) → length y ≡ length x → length x % 16 ≡ 0 → Turned x y → Holds (λ q k. lane (k % 16) (get_or x (16 * (k / 16) + q) 0)) y
unfolding Holds Turned
turned_holds x y e whole t k q hk hq =
    let f : 16 * (k / 16) + k % 16 ≡ k = omega arith in
    subst (λ (n : ℕ). lane q (get_or y n 0) ≡ lane (k % 16) (get_or x (16 * (k / 16) + q) 0)) f
    (t (k / 16) (k % 16) q (omega arith) (omega arith) hq)
