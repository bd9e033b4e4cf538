-- The words of tapes, stored sixteen words apart, one tape after another. Assumes nothing.
use mathlib.Core.List.{List}
use mathlib.Core.Path.{◌≡◌, refl, sym, ap, ap₂, subst, ◌∙◌}
use Prim.Native.Nat.{ℕ, suc, ◌+◌, ◌-◌, ◌*◌, ◌≤◌, ◌<◌}
use native.Mathlib.Nat.{zero-add}
use native.Mathlib.Decide.{dec_lt, ℕ_discrete}
use native.Mathlib.Numerals.{add-one}
use native.Mathlib.Omega.{arith}
use lib.ListN.{length, get_or, set, take, drop, replicate, length-replicate}
use lib.Seq.{get_or-set_same, get_or-set_other}
use Rattle.memory.specs.Lists.{put}
use Rattle.memory.proofs.Lists.{room}
use Rattle.field.specs.Packing.{nib}
use Rattle.field.proofs.Packing.{nib_past, nib_zeros}
use Rattle.lanes.specs.Lanes.{lane, WordAt}
use Rattle.lanes.proofs.Bytes.{nib-put_in, nib-put_after}
use Rattle.sponge.specs.Sponge.{shake256}
use Rattle.hashes.specs.Hashes.{tape_fields}
use Rattle.group.specs.Shares.{HoldsTapes, TapeStored}

-- ---- the words of one tape

-- the first n words are stored, and the other lanes' words are as before
pub record StoredTo (n q : ℕ) (tape before after : List ℕ) : Type 0 where
  pub own : (w j : ℕ) → w < n → j < 16 → lane j (get_or after (16 * w + q) 0) ≡ nib tape (16 * w + j)
  pub others : (w p : ℕ) → p < 16 → (p ≡ q → ⊥) → get_or after (16 * w + p) 0 ≡ get_or before (16 * w + p) 0

pub stored_none : (q : ℕ) (tape l : List ℕ) → StoredTo 0 q tape l l
stored_none q tape l = record { own = λ w j h g. absurd (omega arith); others = λ w p h g. refl }

pub stored_more : (n q : ℕ) (tape before after : List ℕ) (r : ℕ) → q < 16 → 16 * n + q < length after → WordAt tape (8 * n) r
    → StoredTo n q tape before after → StoredTo (n + 1) q tape before (set after (16 * n + q) r)
unfolding WordAt
stored_more n q tape before after r hq h word s = record {
  own = λ w j hw hj. elim (dec_lt w n) as (λ d. lane j (get_or (set after (16 * n + q) r) (16 * w + q) 0) ≡ nib tape (16 * w + j)) [
    | yes y ↦ ap (lane j) (get_or-set_other after (16 * n + q) (16 * w + q) r 0 (λ e. omega arith)) ∙ s.own w j y hj
    | no y ↦
        (let e : w ≡ n = omega arith in
        let i : 2 * (8 * n) + j ≡ 16 * n + j = omega arith in
        ap (λ (x : ℕ). lane j (get_or (set after (16 * n + q) r) (16 * x + q) 0)) e
        ∙ ap (lane j) (get_or-set_same after (16 * n + q) r 0 h)
        ∙ word j hj
        ∙ ap (nib tape) i
        ∙ ap (λ (x : ℕ). nib tape (16 * x + j)) (sym e))
  ];
  others = λ w p hp g. get_or-set_other after (16 * n + q) (16 * w + p) r 0 (λ e. g (omega arith)) ∙ s.others w p hp g;
}

pub stored_all : (n q : ℕ) (tape before after : List ℕ) → 23 ≤ n → StoredTo n q tape before after → TapeStored q tape before after
stored_all n q tape before after h s = record { own = λ w j hw hj. s.own w j (omega arith) hj; others = s.others }

-- ---- a tape over the start of zeros reads as the tape

nib-padded : (n : ℕ) (tape : List ℕ) (i : ℕ) → length tape ≤ n → nib (put (replicate n 0) 0 tape) i ≡ nib tape i
nib-padded n tape i h =
    let z = length-replicate {A = ℕ} n 0 in
    elim (dec_lt i (2 * length tape)) as (λ d. nib (put (replicate n 0) 0 tape) i ≡ nib tape i) [
      | yes y ↦ ap (nib (put (replicate n 0) 0 tape)) (sym (zero-add i)) ∙ nib-put_in (replicate n 0) 0 tape (omega arith) i y
      | no y ↦ nib-put_after (replicate n 0) 0 tape (omega arith) i (omega arith) ∙ nib_zeros n i ∙ sym (nib_past tape i (omega arith))
    ]

pub tape_stored : (n q : ℕ) (bytes tape before after : List ℕ) → length tape ≤ n → bytes ≡ put (replicate n 0) 0 tape → TapeStored q bytes before after → TapeStored q tape before after
tape_stored n q bytes tape before after h e s = record {
  own = λ w j hw hj. s.own w j hw hj ∙ ap (λ (b : List ℕ). nib b (16 * w + j)) e ∙ nib-padded n tape (16 * w + j) h;
  others = s.others;
}

-- ---- one tape after another

-- the tapes of the lanes below q are stored
unfoldable pub TapesTo : ℕ → (ℕ → List ℕ) → List ℕ → Type 0
TapesTo q tape words = (w p j : ℕ) → w < 23 → p < q → j < 16 → lane j (get_or words (16 * w + p) 0) ≡ nib (tape p) (16 * w + j)

pub tapes_none : (tape : ℕ → List ℕ) (words : List ℕ) → TapesTo 0 tape words
unfolding TapesTo
tapes_none tape words w p j h g l = absurd (omega arith)

pub tapes_more : (q : ℕ) (tape : ℕ → List ℕ) (one before after : List ℕ) → q < 16 → one ≡ tape q → TapeStored q one before after → TapesTo q tape before → TapesTo (q + 1) tape after
unfolding TapesTo
tapes_more q tape one before after hq e s t w p j hw hp hj =
    elim (ℕ_discrete p q) as (λ d. lane j (get_or after (16 * w + p) 0) ≡ nib (tape p) (16 * w + j)) [
      | yes y ↦ subst (λ (x : ℕ). lane j (get_or after (16 * w + x) 0) ≡ nib (tape x) (16 * w + j)) (sym y) (s.own w j hw hj ∙ ap (λ (b : List ℕ). nib b (16 * w + j)) e)
      | no y ↦ ap (lane j) (s.others w p (omega arith) y) ∙ t w p j hw (omega arith) hj
    ]

pub tapes_all : (q : ℕ) (tape : ℕ → List ℕ) (words : List ℕ) → 16 ≤ q → TapesTo q tape words → HoldsTapes tape words
unfolding TapesTo HoldsTapes
tapes_all q tape words h t w p j hw hp hj = t w p j hw (omega arith) hj

-- the tape of party 16 g + q + 1, as the code has its number and its seed
pub tape_of_party : (salt leaves : List ℕ) (e s p len : ℕ)
    → shake256 (tape_fields salt e (p + 1) (take (p * s + s - p * s) (drop (p * s) leaves))) len ≡ shake256 (tape_fields salt e (suc p) (take s (drop (p * s) leaves))) len
tape_of_party salt leaves e s p len =
    let i : p * s + s - p * s ≡ s = omega arith in
    ap₂ (λ (x y : ℕ). shake256 (tape_fields salt e x (take y (drop (p * s) leaves))) len) (add-one p) i

-- the seed of a party lies in the leaves
pub seed-room : (g groups q s : ℕ) → g < groups → q < 16 → (16 * g + q) * s + s ≤ 16 * groups * s
seed-room g groups q s h l = room (16 * g + q) (16 * groups) s (omega arith)
