-- The close comparisons of document 01, proved together as one table over the definitions that the contracts cite, in document 01's order.
-- Products are those of the field, packings and the 16-bit number those of keys, signatures and hashes, the sibling positions those of a path, the header that of the envelope. The two lines
-- on check values hold of every circuit and all parties with the totals named, at any equation; two parties that have these totals show that there are some. Assumes nothing.
use mathlib.Core.Path.{◌≡◌, refl, sym, ap, ◌∙◌}
use mathlib.Core.Logic.{◌↔◌}
use mathlib.Core.List.{List, [], ◌∷◌, map}
use Prim.Native.Nat.{ℕ, suc, ◌<◌}
use lib.Bits.{bit_xor, xor_self}
use lib.ListN.{get_or}
use Rattle.memory.proofs.Bits.{xor-zero-same}
use Rattle.memory.proofs.Every.{same1}
use Rattle.field.specs.Field.{coefficient, polynomial_product, modulus, without, mul}
use Rattle.field.specs.Packing.{pack}
use Rattle.field.specs.Vectors.{◌!◌, ◌⊕◌, dot, total}
use Rattle.hashes.specs.Hashes.{enc16}
use Rattle.tree.specs.Tree.{Children, new_seeds, seeds_at, position, sibling, towards, beside, on_way, path_at, get_path}
use Rattle.forms.specs.Circuit.{Affine, Circuit, linear, affine, forms_of}
use Rattle.parties.specs.Parties.{Share, numbered, parties, mask, helper, x_of, y_of, z_of, vs}
use Rattle.parties.proofs.SharesAddUp.{check_sum, total-vs_at}
use Rattle.envelope.specs.Bits.{bits, spelled, bytes}
use Rattle.envelope.specs.Envelope.{header, header_bytes}

-- ---- sibling positions

-- the seeds at these positions, one for each level from k on
unfoldable pub seeds_beside : Children → List ℕ → ℕ → List ℕ → List (List ℕ)
seeds_beside kids root k [] = []
seeds_beside kids root k (p ∷ ps) = get_or (seeds_at kids root k) p [] ∷ seeds_beside kids root (suc k) ps

-- with N = 16 the hidden party h has these sibling positions at levels 1 to 4, and its path holds the seeds that stand there
pub record Siblings (h : ℕ) (ps : List ℕ) : Type 0 where
  pub positions : map (λ k. sibling (position 4 h k)) (1 ∷ 2 ∷ 3 ∷ 4 ∷ []) ≡ ps
  pub path : (kids : Children) (root : List ℕ) → get_path kids 4 root h ≡ seeds_beside kids root 1 ps

-- ---- check values

-- the totals over the parties of x, y, z, a and c at equation k
pub record TotalsAt (k : ℕ) (f : Circuit) (t : List ℕ) (ps : List Share) (x y z a c : ℕ) : Type 0 where
  pub x_total : total (parties (x_of f) ps) ! k ≡ x
  pub y_total : total (parties (y_of f) ps) ! k ≡ y
  pub z_total : total (parties (z_of f t) ps) ! k ≡ z
  pub a_total : mask ps ! k ≡ a
  pub c_total : helper ps ! k ≡ c

-- ---- the table

pub record CloseComparisons : Type 0 where
  -- "2·8=3; 2·9=1; 3·7=9; 8·8=12; 15·15=10"
  pub two_eight : mul 2 8 ≡ 3
  pub two_nine : mul 2 9 ≡ 1
  pub three_seven : mul 3 7 ≡ 9
  pub eight_eight : mul 8 8 ≡ 12
  pub fifteen_fifteen : mul 15 15 ≡ 10
  -- "the packing of none is no bytes; of 1,2,3 is 21 03; of 10,11 is ba"
  pub pack_none : pack [] ≡ []
  pub pack_three : pack (1 ∷ 2 ∷ 3 ∷ []) ≡ 0x21 ∷ 0x03 ∷ []
  pub pack_two : pack (10 ∷ 11 ∷ []) ≡ 0xba ∷ []
  -- "16-bit 256 is 00 01"
  pub sixteen_bit : enc16 256 ≡ 0x00 ∷ 0x01 ∷ []
  -- "with N=16, hidden 1 has sibling positions 1,1,1,1, hidden 6 has 1,0,3,4, hidden 16 has 0,2,6,14"
  pub hidden-one : Siblings 1 (1 ∷ 1 ∷ 1 ∷ 1 ∷ [])
  pub hidden_six : Siblings 6 (1 ∷ 0 ∷ 3 ∷ 4 ∷ [])
  pub hidden-sixteen : Siblings 16 (0 ∷ 2 ∷ 6 ∷ 14 ∷ [])
  -- "header version 1, set 2, length 300 is 12 01 2c"
  pub header-bytes : header_bytes (header 1 2 300) ≡ 0x12 ∷ 0x01 ∷ 0x2c ∷ []
  -- "With totals x 2, y 9, a 3: for z 1 and c 8 the check values sum to 0 at every challenge; for z 0 and c 13 only at challenge 5"
  pub at_every_challenge : (k : ℕ) (f : Circuit) (t ε : List ℕ) (ps : List Share) → TotalsAt k f t ps 2 9 1 3 8 → ε ! k < 16
      → total (vs f t ε ps) ! k ≡ 0
  pub only_at_five : (k : ℕ) (f : Circuit) (t ε : List ℕ) (ps : List Share) → TotalsAt k f t ps 2 9 0 3 13 → ε ! k < 16
      → (total (vs f t ε ps) ! k ≡ 0) ↔ (ε ! k ≡ 5)

-- ---- check values by totals

sum_by_totals : (k : ℕ) (f : Circuit) (t ε : List ℕ) (ps : List Share) (x y z a c : ℕ) → TotalsAt k f t ps x y z a c
    → total (vs f t ε ps) ! k ≡ check_sum x y z a c (ε ! k)
sum_by_totals k f t ε ps x y z a c h =
    total-vs_at f t ε ps k ∙ rw (h.x_total, h.y_total, h.z_total, h.a_total, h.c_total)

every_challenge : (e : ℕ) → e < 16 → check_sum 2 9 1 3 8 e ≡ 0
unfolding mul polynomial_product coefficient without modulus
every_challenge = same1 16 (λ e. check_sum 2 9 1 3 8 e) (λ e. 0) tt

plus_five : (e : ℕ) → e < 16 → check_sum 2 9 0 3 13 e ≡ bit_xor e 5
unfolding mul polynomial_product coefficient without modulus
plus_five = same1 16 (λ e. check_sum 2 9 0 3 13 e) (λ e. bit_xor e 5) tt

-- ---- every line holds

pub close_comparisons : CloseComparisons
unfolding coefficient polynomial_product modulus without mul pack enc16 seeds_beside new_seeds seeds_at position sibling towards beside on_way path_at get_path bits spelled bytes header_bytes
close_comparisons = record {
  two_eight = refl;
  two_nine = refl;
  three_seven = refl;
  eight_eight = refl;
  fifteen_fifteen = refl;
  pack_none = refl;
  pack_three = refl;
  pack_two = refl;
  sixteen_bit = refl;
  hidden-one = record { positions = refl; path = λ kids root. refl };
  hidden_six = record { positions = refl; path = λ kids root. refl };
  hidden-sixteen = record { positions = refl; path = λ kids root. refl };
  header-bytes = refl;
  at_every_challenge = λ k f t ε ps h e. sum_by_totals k f t ε ps 2 9 1 3 8 h ∙ every_challenge (ε ! k) e;
  only_at_five = λ k f t ε ps h e.
      let sum = sum_by_totals k f t ε ps 2 9 0 3 13 h ∙ plus_five (ε ! k) e in
      (λ z. xor-zero-same (ε ! k) 5 (sym sum ∙ z), λ i. sum ∙ ap (λ (r : ℕ). bit_xor r 5) i ∙ xor_self 5);
}

-- ---- two parties with these totals: one equation in one variable, the shares of a and c at party 1

constant : ℕ → Affine
constant b = record { constants = b ∷ []; rows = (0 ∷ []) ∷ [] }

one_equation : ℕ → Circuit
one_equation z = record { A0 = constant z; A1 = constant 2; A2 = constant 9 }

two_parties : ℕ → List Share
two_parties c = record { s = 0 ∷ []; a = 3 ∷ []; c = c ∷ [] } ∷ record { s = 0 ∷ []; a = 0 ∷ []; c = 0 ∷ [] } ∷ []

totals_met : TotalsAt 0 (one_equation 1) (0 ∷ []) (two_parties 8) 2 9 1 3 8 × TotalsAt 0 (one_equation 0) (0 ∷ []) (two_parties 13) 2 9 0 3 13
unfolding one_equation constant two_parties parties numbered x_of y_of z_of forms_of affine linear mask helper total dot ◌⊕◌ mul polynomial_product coefficient without modulus
totals_met = (
  record { x_total = refl; y_total = refl; z_total = refl; a_total = refl; c_total = refl },
  record { x_total = refl; y_total = refl; z_total = refl; a_total = refl; c_total = refl },
)
