-- Sixteen parties of a repetition: what lent bytes and words hold of their tapes, their shares and their answers.
-- Lane q of group g belongs to party 16 g + q + 1. Assumes nothing.
use Rattle.std.specs.Prelude.{cond, List, [], ◌≡◌, ℕ, suc, ◌+◌, ◌*◌, ◌≤◌, ◌<◌, eqb, length, get_or, take, drop}
use Rattle.std.specs.Int.Bits.{bit_xor}
use Rattle.field.specs.Field.{mul}
use Rattle.field.specs.Packing.{nib, unpack, packed_length}
use Rattle.field.specs.Vectors.{◌!◌, ◌⊕◌, ◌⊙◌}
use Rattle.lanes.specs.Lanes.{lane, Holds}
use Rattle.sponge.specs.Sponge.{shake256}
use Rattle.hashes.specs.Hashes.{tape_fields}
use Rattle.sets.specs.declared.Params.{Params}
use Rattle.forms.specs.Circuit.{Circuit, forms_of}
use Rattle.parties.specs.Parties.{Share, corrected, alpha_of, y_of, z_of}
use Rattle.parties.specs.Repetition.{tape_length, raw_share}
use Rattle.group.specs.declared.Rep.{Rep}

-- the sizes that the routines take
pub record Sized (rep : Rep) : Type 0 where
  pub variables : rep.n ≤ 118
  pub some : 16 ≤ rep.m
  pub equations : rep.m ≤ 121
  pub seed : rep.s ≤ 32
  pub groups : rep.groups ≤ 16

-- ---- the vectors of a repetition, laid one after another: Δs, Δc, the challenge, the target and the hidden party's α

abbrev pub values_length : Rep → ℕ
values_length rep = rep.n + rep.m + rep.m + rep.m + rep.m

unfoldable pub delta_s : Rep → List ℕ → List ℕ
delta_s rep v = take rep.n v

unfoldable pub delta_c : Rep → List ℕ → List ℕ
delta_c rep v = take rep.m (drop rep.n v)

unfoldable pub epsilon : Rep → List ℕ → List ℕ
epsilon rep v = take rep.m (drop (rep.n + rep.m) v)

unfoldable pub target : Rep → List ℕ → List ℕ
target rep v = take rep.m (drop (rep.n + rep.m + rep.m) v)

unfoldable pub alpha_given : Rep → List ℕ → List ℕ
alpha_given rep v = take rep.m (drop (rep.n + rep.m + rep.m + rep.m) v)

-- ---- tapes and shares

-- algorithm 12, lines 9 to 12: the shares that lie in the bytes of a tape
unfoldable pub sampled : Rep → List ℕ → Share
sampled rep tape = record {
  s = unpack rep.n tape;
  a = unpack rep.m (drop (packed_length rep.n) tape);
  c = unpack rep.m (drop (packed_length rep.n + packed_length rep.m) tape);
}

-- the beginning of the tape of the party in lane q of group g
abbrev pub tapes_of : Rep → ℕ → List ℕ → List ℕ → ℕ → List ℕ
tapes_of rep g salt leaves q = shake256 (tape_fields salt rep.e (suc (16 * g + q)) (take rep.s (drop ((16 * g + q) * rep.s) leaves))) (tape_length rep.n rep.m)

-- the words hold sixteen tapes: word 16 w + q has the elements from 16 w on of the tape of party q
unfoldable pub HoldsTapes : (ℕ → List ℕ) → List ℕ → Type 0
HoldsTapes tape words = (w q j : ℕ) → w < 23 → q < 16 → j < 16 → lane j (get_or words (16 * w + q) 0) ≡ nib (tape q) (16 * w + j)

-- the words have the tape of lane q, and those of the other lanes are as before
pub record TapeStored (q : ℕ) (tape before after : List ℕ) : Type 0 where
  pub own : (w j : ℕ) → w < 23 → j < 16 → lane j (get_or after (16 * w + q) 0) ≡ nib tape (16 * w + j)
  pub others : (w p : ℕ) → p < 16 → (p ≡ q → ⊥) → get_or after (16 * w + p) 0 ≡ get_or before (16 * w + p) 0

-- where the words of a and of c begin
unfoldable pub mask_at : Rep → ℕ
mask_at rep = packed_length rep.n * 2

unfoldable pub helper_at : Rep → ℕ
helper_at rep = (packed_length rep.n + packed_length rep.m) * 2

-- the words hold in lane q the shares of that lane
pub record HoldsShares (rep : Rep) (share : ℕ → Share) (words : List ℕ) : Type 0 where
  pub s : (k q : ℕ) → k < rep.n → q < 16 → lane q (words ! k) ≡ (share q).s ! k
  pub a : (k q : ℕ) → k < rep.m → q < 16 → lane q (words ! (mask_at rep + k)) ≡ (share q).a ! k
  pub c : (k q : ℕ) → k < rep.m → q < 16 → lane q (words ! (helper_at rep + k)) ≡ (share q).c ! k

-- the parameters of a repetition that shares depend on
abbrev pub params_in : Rep → Params
params_in rep = record { bits = 8 * rep.s; n = rep.n; m = rep.m; tau = 0; l = 0 }

-- the share of the party with the number p + 1, corrected
unfoldable pub share_at : Rep → List ℕ → List ℕ → List ℕ → ℕ → Share
share_at rep salt leaves v p =
    corrected (delta_s rep v) (delta_c rep v) (suc p) (raw_share (params_in rep) salt rep.e (suc p) (take rep.s (drop (p * rep.s) leaves)))

-- ---- answers

-- z times the challenge, plus c: what a party adds to y times the sum of all α
unfoldable pub rest_of : Circuit → List ℕ → List ℕ → ℕ → Share → List ℕ
rest_of f t ε i p = z_of f t i p ⊙ ε ⊕ p.c

-- the words hold the forms A1, A2 and A0 of each party of group g
pub record HoldsParts (g : ℕ) (f : Circuit) (share : ℕ → List ℕ) (x y z : List ℕ) : Type 0 where
  pub A1 : Holds (λ q k. forms_of (suc (16 * g + q)) f.A1 (share q) ! k) x
  pub A2 : Holds (λ q k. forms_of (suc (16 * g + q)) f.A2 (share q) ! k) y
  pub A0 : Holds (λ q k. forms_of (suc (16 * g + q)) f.A0 (share q) ! k) z

-- the words hold of each party of group g its α, its y and its z·ε + c; at the hidden party the given α, and 0
pub record HoldsAnswers (rep : Rep) (g : ℕ) (f : Circuit) (v : List ℕ) (share : ℕ → Share) (x y z : List ℕ) : Type 0 where
  pub alpha : Holds (λ q k. cond (eqb (suc (16 * g + q)) rep.hidden) (alpha_given rep v) (alpha_of f (epsilon rep v) (suc (16 * g + q)) (share q)) ! k) x
  pub second_form : Holds (λ q k. cond (eqb (suc (16 * g + q)) rep.hidden) [] (y_of f (suc (16 * g + q)) (share q)) ! k) y
  pub rest : Holds (λ q k. cond (eqb (suc (16 * g + q)) rep.hidden) [] (rest_of f (target rep v) (epsilon rep v) (suc (16 * g + q)) (share q)) ! k) z

-- of each word x and its word of a: x times the challenge plus a, and in the hidden party's lane the given α
unfoldable pub AlphaWords : Rep → ℕ → List ℕ → List ℕ → List ℕ → List ℕ → Type 0
AlphaWords rep g v a old new =
    (k q : ℕ) → k < length old → q < 16
    → lane q (new ! k) ≡ cond (eqb (suc (16 * g + q)) rep.hidden) (alpha_given rep v ! k) (bit_xor (mul (lane q (old ! k)) (epsilon rep v ! k)) (lane q (a ! k)))

-- of each word z and its word of c: z, with the target but at party 1, times the challenge plus c, and in the hidden party's lane 0
unfoldable pub RestWords : Rep → ℕ → List ℕ → List ℕ → List ℕ → List ℕ → Type 0
RestWords rep g v c old new =
    (k q : ℕ) → k < length old → q < 16
    → lane q (new ! k) ≡ cond (eqb (suc (16 * g + q)) rep.hidden) 0
    (bit_xor (mul (bit_xor (lane q (old ! k)) (cond (eqb (suc (16 * g + q)) 1) 0 (target rep v ! k))) (epsilon rep v ! k)) (lane q (c ! k)))
