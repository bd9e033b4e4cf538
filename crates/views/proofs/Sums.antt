-- The sum of all tapes holds the sums of the parties' shares: secret, mask and helper each at its place. So the corrections worked out of it are those of
-- algorithm 12. One law serves the three places. Assumes nothing.
use mathlib.Core.Path.{◌≡◌, refl, sym, ap, ap₂, ◌∙◌}
use mathlib.Core.List.{List, [], ◌∷◌, ◌++◌, map}
use Prim.Native.Nat.{ℕ, suc, ◌+◌, ◌-◌, ◌*◌, ◌≤◌, ◌<◌}
use native.Mathlib.Nat.{zero-add}
use native.Mathlib.Numerals.{add-one}
use native.Mathlib.Omega.{arith}
use lib.Bits.{bit_xor, xor_zero_l}
use lib.ListN.{length, get_or, take, drop, replicate, length-replicate}
use lib.Seq.{ext_get_or, take_all, length-take-le}
use Rattle.memory.specs.Sections.{pieces}
use Rattle.memory.proofs.Sections.{length-pieces, get_or-pieces}
use Rattle.memory.proofs.Xors.{lent_start}
use Rattle.field.specs.Packing.{packed_length, nib, unpack}
use Rattle.field.specs.Vectors.{◌!◌, ◌⊕◌, ◌⊙◌, total}
use Rattle.field.proofs.Packing.{nib_past, nib_zeros, nib-drop, length-unpack, get_or-unpack}
use Rattle.field.proofs.PackedSums.{nib_⊕}
use Rattle.field.proofs.Vectors.{⊕-at, ⊕-nil-r, ⊕-assoc, length_⊕, ⊙-at, length_⊙}
use Rattle.field.specs.Field.{mul}
use Rattle.hashes.specs.Hashes.{tape_fields, expand_tape}
use Rattle.sponge.specs.Sponge.{shake256}
use Rattle.sets.specs.declared.Params.{Params}
use Rattle.forms.specs.Sampling.{tape_bytes, sample_elements}
use Rattle.forms.proofs.Sampling.{sample_elements-nib}
use Rattle.parties.specs.Parties.{Share, numbered, parties, secret, mask, helper}
use Rattle.parties.specs.Repetition.{tape_length, raw_share, raws, delta_s, delta_c}
use Rattle.parties.proofs.Numbered.{length-parties, get_or-parties}
use Rattle.parties.proofs.Growing.{total-take-suc}
use Rattle.parties.proofs.Corrections.{length-delta_s, length-delta_c}
use Rattle.views.specs.Views.{tapes, tape_sum, correction_s, correction_c}

-- ---- the loop over the parties

pub sum_none : (salt : List ℕ) (e : ℕ) (seeds : List (List ℕ)) (old cur : List ℕ) → cur ≡ replicate (length old) 0
    → cur ≡ replicate (length cur) 0 ⊕ total (take 0 (tapes salt e (length cur) seeds))
unfolding total
sum_none salt e seeds old cur h =
    h
    ∙ ap (λ (k : ℕ). replicate k 0) (sym (ap length h ∙ length-replicate (length old) 0))
    ∙ sym (⊕-nil-r (replicate (length cur) 0))

-- the tape of the next party
next-tape : (salt : List ℕ) (e size w n i : ℕ) (leaves : List ℕ) → i < n
    → get_or (tapes salt e size (pieces w n leaves)) i [] ≡ expand_tape salt e (i + 1) (take w (drop (i * w) leaves)) size
unfolding tapes
next-tape salt e size w n i leaves h =
    get_or-parties (λ j seed. expand_tape salt e j seed size) (pieces w n leaves) i [] [] (let g = length-pieces w n leaves in omega arith)
    ∙ ap₂ (λ (j : ℕ) (x : List ℕ). expand_tape salt e j x size) (sym (add-one i)) (get_or-pieces w n leaves i h)

pub sum_more : (salt : List ℕ) (e size w n i : ℕ) (leaves cur new : List ℕ) → i < n
    → length cur ≡ size → cur ≡ replicate size 0 ⊕ total (take i (tapes salt e size (pieces w n leaves)))
    → new ≡ cur ⊕ expand_tape salt e (i + 1) (take w (drop (i * w) leaves)) (length cur)
    → new ≡ replicate size 0 ⊕ total (take (i + 1) (tapes salt e size (pieces w n leaves)))
sum_more salt e size w n i leaves cur new h el ec en =
    let all = tapes salt e size (pieces w n leaves) in
    en
    ∙ ap (λ (k : ℕ). cur ⊕ expand_tape salt e (i + 1) (take w (drop (i * w) leaves)) k) el
    ∙ ap₂ ◌⊕◌ ec (sym (next-tape salt e size w n i leaves h))
    ∙ ⊕-assoc (replicate size 0) (total (take i all)) (get_or all i [])
    ∙ ap (λ (x : List ℕ). replicate size 0 ⊕ x) (sym (total-take-suc all i) ∙ ap (λ (j : ℕ). total (take j all)) (sym (add-one i)))

pub sum_all : (salt : List ℕ) (e size w n i : ℕ) (leaves cur : List ℕ) → n ≤ i
    → cur ≡ replicate size 0 ⊕ total (take i (tapes salt e size (pieces w n leaves))) → cur ≡ tape_sum salt e size (pieces w n leaves)
unfolding tape_sum tapes
sum_all salt e size w n i leaves cur h ec =
    let g = length-pieces w n leaves in
    let k = length-parties (λ j seed. expand_tape salt e j seed size) (pieces w n leaves) in
    ec
    ∙ ap (λ (l : List (List ℕ)). replicate size 0 ⊕ total l) (take_all i (parties (λ j seed. expand_tape salt e j seed size) (pieces w n leaves)) (omega arith))

-- the sum that was written to the start of a room
pub summed_start : (salt : List ℕ) (e n size : ℕ) (seeds : List (List ℕ)) (room last : List ℕ) → n ≡ size → n ≤ length room
    → length last ≡ length (take (n - 0) (drop 0 room)) → last ≡ tape_sum salt e (length (take (n - 0) (drop 0 room))) seeds
    → take (n - 0) (drop 0 (take 0 room ++ (last ++ drop (n - 0) (drop 0 room)))) ≡ tape_sum salt e size seeds
summed_start salt e n size seeds room last en h k el =
    lent_start room last n h k
    ∙ el
    ∙ ap (λ (z : ℕ). tape_sum salt e z seeds) (length-take-le (n - 0) room (omega arith) ∙ (let z : n - 0 ≡ size = omega arith in z))

-- ---- what the sum holds

-- four bits of a sum over the parties, where they are an entry of a part of each share
nib-total : (g : ℕ → List ℕ → List ℕ) (h : ℕ → List ℕ → Share) (f : Share → List ℕ) (j k : ℕ) → ((i : ℕ) (x : List ℕ) → f (h i x) ! k ≡ nib (g i x) j)
    → (i : ℕ) (l : List (List ℕ)) → nib (total (numbered i g l)) j ≡ total (map f (numbered i h l)) ! k
unfolding numbered total
nib-total g h f j k e i [] = nib_past [] j (omega arith)
nib-total g h f j k e i (x ∷ l) =
    nib_⊕ (g i x) (total (numbered (suc i) g l)) j
    ∙ ap₂ bit_xor (sym (e i x)) (nib-total g h f j k e (suc i) l)
    ∙ sym (⊕-at (f (h i x)) (total (map f (numbered (suc i) h l))) k)

-- elements sampled from a tape, among its first bytes
sampled : (salt : List ℕ) (e i : ℕ) (seed : List ℕ) (from n size k : ℕ) → k < n → from + packed_length n ≤ size
    → sample_elements (tape_fields salt e i seed) from n ! k ≡ nib (expand_tape salt e i seed size) (from * 2 + k)
unfolding expand_tape tape_bytes
sampled salt e i seed from n size k h room =
    sample_elements-nib (tape_fields salt e i seed) from n size k h room
    ∙ ap (λ (z : ℕ). nib (shake256 (tape_fields salt e i seed) z) (from * 2 + k)) (zero-add size)

module _ (P : Params) (salt : List ℕ) (e : ℕ) (seeds : List (List ℕ)) where
  abbrev pub summed : List ℕ
  summed = tape_sum salt e (tape_length P.n P.m) seeds

  -- one law for the three parts: f is the part, which lies from the byte `from` on
  nib-sum : (f : Share → List ℕ) (from n k : ℕ) → k < n → from + packed_length n ≤ tape_length P.n P.m
      → ((i : ℕ) (x : List ℕ) → f (raw_share P salt e i x) ≡ sample_elements (tape_fields salt e i x) from n)
      → nib (drop from (tape_sum salt e (tape_length P.n P.m) seeds)) k ≡ total (map f (raws P salt e seeds)) ! k
  unfolding tape_sum tapes raws parties
  nib-sum f from n k h room part =
      let size = tape_length P.n P.m in
      let g : ℕ → List ℕ → List ℕ = λ i x. expand_tape salt e i x size in
      nib-drop from (replicate size 0 ⊕ total (numbered 1 g seeds)) k
      ∙ nib_⊕ (replicate size 0) (total (numbered 1 g seeds)) (from * 2 + k)
      ∙ ap₂ bit_xor (nib_zeros size (from * 2 + k))
      (nib-total g (raw_share P salt e) f (from * 2 + k) k (λ i x. ap (λ (v : List ℕ). v ! k) (part i x) ∙ sampled salt e i x from n size k h room) 1 seeds)
      ∙ xor_zero_l (total (map f (numbered 1 (raw_share P salt e) seeds)) ! k)

  pub nib-secret : (k : ℕ) → k < P.n → nib summed k ≡ secret (raws P salt e seeds) ! k
  unfolding secret tape_length raw_share
  nib-secret k h = nib-sum (λ p. p.s) 0 P.n k h (omega arith) (λ i x. refl)

  pub nib-mask : (k : ℕ) → k < P.m → nib (drop (packed_length P.n) summed) k ≡ mask (raws P salt e seeds) ! k
  unfolding mask tape_length raw_share
  nib-mask k h = nib-sum (λ p. p.a) (packed_length P.n) P.m k h (omega arith) (λ i x. refl)

  pub nib-helper : (k : ℕ) → k < P.m → nib (drop (packed_length P.n + packed_length P.m) summed) k ≡ helper (raws P salt e seeds) ! k
  unfolding helper tape_length raw_share
  nib-helper k h = nib-sum (λ p. p.c) (packed_length P.n + packed_length P.m) P.m k h (omega arith) (λ i x. refl)

  -- ---- the corrections

  -- algorithm 12, line 14
  pub correction_delta_s : (s : List ℕ) → length s ≡ P.n → correction_s P.n s summed ≡ delta_s P salt e s seeds
  unfolding correction_s delta_s
  correction_delta_s s h = ext_get_or 0 (s ⊕ unpack P.n summed) (s ⊕ secret (raws P salt e seeds)) (left ∙ sym (length-delta_s P salt e s seeds h)) (λ k g. entry k (omega (arith, left)))
    where
      left : length (s ⊕ unpack P.n summed) ≡ P.n
      left = let a = length_⊕ s (unpack P.n summed) in let b = length-unpack P.n summed in omega arith

      entry : (k : ℕ) → k < P.n → (s ⊕ unpack P.n summed) ! k ≡ (s ⊕ secret (raws P salt e seeds)) ! k
      entry k g =
          ⊕-at s (unpack P.n summed) k
          ∙ ap (bit_xor (s ! k)) (get_or-unpack P.n summed k g ∙ nib-secret k g)
          ∙ sym (⊕-at s (secret (raws P salt e seeds)) k)

  -- algorithm 12, line 15
  pub correction_delta_c : (y : List ℕ) → length y ≡ P.m → 0 < length seeds → correction_c P.n P.m y summed ≡ delta_c P salt e y seeds
  unfolding correction_c delta_c
  correction_delta_c y h some =
      ext_get_or 0 (y ⊙ a ⊕ c) (y ⊙ mask (raws P salt e seeds) ⊕ helper (raws P salt e seeds)) (left ∙ sym (length-delta_c P salt e y seeds some h))
      (λ k g. entry k (omega (arith, left)))
    where
      a : List ℕ
      a = unpack P.m (drop (packed_length P.n) summed)

      c : List ℕ
      c = unpack P.m (drop (packed_length P.n + packed_length P.m) summed)

      left : length (y ⊙ a ⊕ c) ≡ P.m
      left =
          let l = length_⊕ (y ⊙ a) c in
          let m = length_⊙ y a in
          let b = length-unpack P.m (drop (packed_length P.n) summed) in
          let d = length-unpack P.m (drop (packed_length P.n + packed_length P.m) summed) in
          omega arith

      entry : (k : ℕ) → k < P.m → (y ⊙ a ⊕ c) ! k ≡ (y ⊙ mask (raws P salt e seeds) ⊕ helper (raws P salt e seeds)) ! k
      entry k g =
          ⊕-at (y ⊙ a) c k
          ∙ ap₂ bit_xor
          (⊙-at y a k ∙ ap (mul (y ! k)) (get_or-unpack P.m (drop (packed_length P.n) summed) k g ∙ nib-mask k g) ∙ sym (⊙-at y (mask (raws P salt e seeds)) k))
          (get_or-unpack P.m (drop (packed_length P.n + packed_length P.m) summed) k g ∙ nib-helper k g)
          ∙ sym (⊕-at (y ⊙ mask (raws P salt e seeds)) (helper (raws P salt e seeds)) k)

  -- the corrections that the code works out, by the lengths of s and y
  pub corrected-secret : (s y : List ℕ) → length s ≡ P.n → length y ≡ P.m
      → correction_s (length s) s (tape_sum salt e (tape_length (length s) (length y)) seeds) ≡ delta_s P salt e s seeds
  corrected-secret s y h k =
      ap₂ (λ (n m : ℕ). correction_s n s (tape_sum salt e (tape_length n m) seeds)) h k ∙ correction_delta_s s h

  pub corrected-helper : (s y : List ℕ) → length s ≡ P.n → length y ≡ P.m → 0 < length seeds
      → correction_c (length s) (length y) y (tape_sum salt e (tape_length (length s) (length y)) seeds) ≡ delta_c P salt e y seeds
  corrected-helper s y h k some =
      ap₂ (λ (n m : ℕ). correction_c n m y (tape_sum salt e (tape_length n m) seeds)) h k ∙ correction_delta_c y k some
