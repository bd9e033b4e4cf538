-- The α of one party from its tape: its share, the forms A1 there, and x·ε + a, entry by entry and as the vectors of algorithm 12.
-- Assumes nothing.
use mathlib.Core.Path.{◌≡◌, refl, sym, ap, ap₂, ◌∙◌}
use mathlib.Core.Bool.{Bool, true, false, cond}
use mathlib.Core.List.{List, ◌++◌}
use Prim.Native.Nat.{ℕ, ◌+◌, ◌-◌, ◌*◌, ◌%◌, ◌≤◌, ◌<◌}
use native.Mathlib.Nat.{div-one, sub-zero}
use native.Mathlib.Omega.{arith}
use lib.Bits.{bit_xor, xor_comm}
use borrow.Author.Tests.{eq-eqb, ne_eqb}
use lib.Dec.{eqb}
use lib.ListN.{length, get_or, take, drop}
use lib.Seq.{ext_get_or, take_at, length-take-le}
use Rattle.memory.proofs.Groups.{Stepped, stepped_all}
use Rattle.memory.specs.Lists.{over}
use Rattle.memory.proofs.Stores.{over-whole}
use Rattle.field.specs.Field.{mul}
use Rattle.field.specs.Packing.{nib, unpack, packed_length}
use Rattle.field.specs.Vectors.{◌!◌, ◌⊕◌, ◌⊙◌}
use Rattle.field.proofs.Laws.{mul_low_l}
use Rattle.field.proofs.Packing.{nib-drop, length-unpack, get_or-unpack}
use Rattle.field.proofs.Vectors.{⊕-at, length_⊕, ⊙-at, length_⊙}
use Rattle.lanes.specs.Lanes.{lane, Times}
use Rattle.sets.specs.declared.Params.{Params}
use Rattle.sponge.specs.Sponge.{shake256}
use Rattle.hashes.specs.Hashes.{tape_fields}
use Rattle.forms.specs.Circuit.{Circuit, forms_of, affine, linear}
use Rattle.forms.specs.Room.{circuit_in, affine_in, HoldsCircuit}
use Rattle.parties.specs.Parties.{Share, corrected, x_of, alpha_of}
use Rattle.parties.specs.Repetition.{tape_length, raw_share}
use Rattle.group.specs.declared.Rep.{Rep}
use Rattle.group.specs.Shares.{delta_s, delta_c, epsilon, sampled, params_in}
use Rattle.group.proofs.Shares.{raw_same, sampled_raw}

-- ---- single elements

-- the first lane of a word times an element
pub lane_product : (x e w r : ℕ) → w ≡ x → Times w e r → r % 16 ≡ mul x e
unfolding Times lane
lane_product x e w r ew t =
    ap (λ (n : ℕ). n % 16) (sym (div-one r))
    ∙ t 0 (omega arith)
    ∙ ap (λ (n : ℕ). mul (n % 16) e) (div-one w)
    ∙ mul_low_l w e
    ∙ ap (λ (n : ℕ). mul n e) ew

-- ---- elements added to entries

pub elements_added : (bytes v w : List ℕ) (k : ℕ) → length w ≤ k → Stepped (λ j x y. y ≡ bit_xor x (nib bytes j)) k v w → w ≡ unpack (length v) bytes ⊕ v
elements_added bytes v w k h s =
    let a = length_⊕ (unpack (length v) bytes) v in
    let b = length-unpack (length v) bytes in
    let e = s.size in
    ext_get_or 0 w (unpack (length v) bytes ⊕ v) (omega arith) (λ j g.
    let l : j < length v = omega arith in
    stepped_all _ k v w s h j l
    ∙ ap (bit_xor (get_or v j 0)) (sym (get_or-unpack (length v) bytes j l))
    ∙ xor_comm (get_or v j 0) (unpack (length v) bytes ! j)
    ∙ sym (⊕-at (unpack (length v) bytes) v j))

-- ---- x·ε + a

pub answer_made : (x ε tape out : List ℕ) (mask k : ℕ) → length ε ≡ length x → length out ≤ k → Stepped (λ j u y. y ≡ bit_xor (mul u (ε ! j)) (nib tape (mask * 2 + j))) k x out
    → out ≡ x ⊙ ε ⊕ unpack (length x) (drop mask tape)
answer_made x ε tape out mask k same h s =
    let m = length x in
    let a = length_⊕ (x ⊙ ε) (unpack m (drop mask tape)) in
    let b = length_⊙ x ε in
    let d = length-unpack m (drop mask tape) in
    let e = s.size in
    ext_get_or 0 out (x ⊙ ε ⊕ unpack m (drop mask tape)) (omega arith) (λ j g.
    let l : j < length x = omega arith in
    stepped_all _ k x out s h j l
    ∙ ap₂ bit_xor (sym (⊙-at x ε j)) (sym (nib-drop mask tape j) ∙ sym (get_or-unpack m (drop mask tape) j l))
    ∙ sym (⊕-at (x ⊙ ε) (unpack m (drop mask tape)) j))

-- ---- the share

pub share_first : (i : ℕ) (tape delta s₀ s₁ s₂ : List ℕ) → i ≡ 1 → length delta ≡ length s₀ → s₁ ≡ over delta s₀ → s₂ ≡ unpack (length s₁) tape ⊕ s₁
    → s₂ ≡ cond (eqb i 1) (unpack (length s₀) tape ⊕ delta) (unpack (length s₀) tape)
share_first i tape delta s₀ s₁ s₂ one size copied added =
    let same = copied ∙ over-whole delta s₀ size in
    added ∙ ap₂ (λ (n : ℕ) (x : List ℕ). unpack n tape ⊕ x) (ap length same ∙ size) same
    ∙ sym (ap (λ (b : Bool). cond b (unpack (length s₀) tape ⊕ delta) (unpack (length s₀) tape)) (eq-eqb i 1 one))

pub share_other : (i : ℕ) (tape delta s₀ s₁ : List ℕ) → (i ≡ 1 → ⊥) → s₁ ≡ unpack (length s₀) tape
    → s₁ ≡ cond (eqb i 1) (unpack (length s₀) tape ⊕ delta) (unpack (length s₀) tape)
share_other i tape delta s₀ s₁ other filled =
    filled ∙ sym (ap (λ (b : Bool). cond b (unpack (length s₀) tape ⊕ delta) (unpack (length s₀) tape)) (ne_eqb i 1 other))

-- ---- the forms

pub forms_first : (i n m : ℕ) (circuit s out₁ out₂ : List ℕ) → i ≡ 1 → length out₁ ≡ m → out₁ ≡ linear (affine_in n m circuit) s → out₂ ≡ unpack (length out₁) circuit ⊕ out₁
    → out₂ ≡ forms_of i (affine_in n m circuit) s
unfolding forms_of affine affine_in
forms_first i n m circuit s out₁ out₂ one size values added =
    added ∙ ap₂ (λ (k : ℕ) (x : List ℕ). unpack k circuit ⊕ x) size values
    ∙ sym (ap (λ (b : Bool). cond b (unpack m circuit ⊕ linear (affine_in n m circuit) s) (linear (affine_in n m circuit) s)) (eq-eqb i 1 one))

pub forms_other : (i n m : ℕ) (circuit s out : List ℕ) → (i ≡ 1 → ⊥) → out ≡ linear (affine_in n m circuit) s → out ≡ forms_of i (affine_in n m circuit) s
unfolding forms_of
forms_other i n m circuit s out other values =
    values ∙ sym (ap (λ (b : Bool). cond b (affine (affine_in n m circuit) s) (linear (affine_in n m circuit) s)) (ne_eqb i 1 other))

-- ---- α

share_of : (b : Bool) (p q : Share) → (cond b p q).s ≡ cond b p.s q.s
share_of true p q = refl
share_of false p q = refl

mask_of : (b : Bool) (p q : Share) → p.a ≡ q.a → (cond b p q).a ≡ q.a
mask_of true p q e = e
mask_of false p q e = refl

-- what came back into the front of a room, lent again
pub front-lent : (room ys rest : List ℕ) (n : ℕ) → n ≤ length room → length ys ≡ length (take (n - 0) (drop 0 room)) → take (n - 0) (ys ++ rest) ≡ ys
front-lent room ys rest n h e = take_at ys rest (n - 0) (e ∙ length-take-le (n - 0) (drop 0 room) (omega arith))

pub front-length : (room : List ℕ) (n : ℕ) → n ≤ length room → length (take (n - 0) (drop 0 room)) ≡ n
front-length room n h = length-take-le (n - 0) (drop 0 room) (omega arith) ∙ sub-zero n

-- the parts of the values as they are lent
pub delta_lent : (rep : Rep) (v : List ℕ) → take (rep.n - 0) (drop 0 v) ≡ delta_s rep v
unfolding delta_s
delta_lent rep v = ap (λ (k : ℕ). take k v) (sub-zero rep.n)

pub challenge-lent : (rep : Rep) (v : List ℕ) → take (rep.n + rep.m + rep.m - (rep.n + rep.m)) (drop (rep.n + rep.m) v) ≡ epsilon rep v
unfolding epsilon
challenge-lent rep v = let e : rep.n + rep.m + rep.m - (rep.n + rep.m) ≡ rep.m = omega arith in ap (λ (k : ℕ). take k (drop (rep.n + rep.m) v)) e

module _ (rep : Rep) (i : ℕ) (circuit v tape : List ℕ) where
  abbrev party : Share
  party = corrected (delta_s rep v) (delta_c rep v) i (sampled rep tape)

  own-secret : party.s ≡ cond (eqb i 1) (unpack rep.n tape ⊕ delta_s rep v) (unpack rep.n tape)
  unfolding corrected sampled
  own-secret = share_of (eqb i 1) _ _

  own-mask : party.a ≡ unpack rep.m (drop (packed_length rep.n) tape)
  unfolding corrected sampled
  own-mask = mask_of (eqb i 1) _ _ refl

  pub alpha_parts : (s x out δ ε : List ℕ) (k l mask : ℕ) → k ≡ rep.n → l ≡ rep.m → mask ≡ packed_length rep.n → δ ≡ delta_s rep v → ε ≡ epsilon rep v
      → s ≡ cond (eqb i 1) (unpack k tape ⊕ δ) (unpack k tape) → x ≡ forms_of i (affine_in rep.n rep.m circuit) s → out ≡ x ⊙ ε ⊕ unpack l (drop mask tape)
      → out ≡ alpha_of (circuit_in rep.n rep.m circuit) (epsilon rep v) i party
  unfolding alpha_of x_of circuit_in
  alpha_parts s x out δ ε k l mask ek el em ed ee es ex eo =
      eo
      ∙ ap₂ (λ (u w : List ℕ). u ⊙ w ⊕ unpack l (drop mask tape)) (ex ∙ ap (forms_of i (affine_in rep.n rep.m circuit)) (es
      ∙ ap₂ (λ (n : ℕ) (d : List ℕ). cond (eqb i 1) (unpack n tape ⊕ d) (unpack n tape)) ek ed ∙ sym own-secret)) ee
      ∙ ap (λ (a : List ℕ). forms_of i (affine_in rep.n rep.m circuit) party.s ⊙ epsilon rep v ⊕ a) (ap₂ (λ (n j : ℕ). unpack n (drop j tape)) el em ∙ sym own-mask)

-- for any circuit that the bytes hold, and any parameters of this size: the tape is what the hash gives
pub alpha-held : (rep : Rep) (i : ℕ) (circuit v salt seed tape out : List ℕ) → tape ≡ shake256 (tape_fields salt rep.e i seed) (tape_length rep.n rep.m)
    → out ≡ alpha_of (circuit_in rep.n rep.m circuit) (epsilon rep v) i (corrected (delta_s rep v) (delta_c rep v) i (sampled rep tape))
    → (P : Params) (f : Circuit) → P.n ≡ rep.n → P.m ≡ rep.m → HoldsCircuit rep.n rep.m f circuit
    → out ≡ alpha_of f (epsilon rep v) i (corrected (delta_s rep v) (delta_c rep v) i (raw_share P salt rep.e i seed))
unfolding HoldsCircuit
alpha-held rep i circuit v salt seed tape out et e P f en em ec =
    e ∙ ap₂ (λ (c : Circuit) (s : Share). alpha_of c (epsilon rep v) i (corrected (delta_s rep v) (delta_c rep v) i s)) ec
    (ap (sampled rep) et ∙ sampled_raw rep salt i seed ∙ sym (raw_same P (params_in rep) salt rep.e i seed en em))
