-- From shares to answers, lane by lane: the forms with the constants of party 1, then α, y and z·ε + c with the hidden party's lane put in or cleared.
-- Assumes nothing.
use mathlib.Core.Bool.{Bool, true, false, cond}
use mathlib.Core.List.{List}
use mathlib.Core.Path.{◌≡◌, sym, ap, ap₂, ◌∙◌}
use Prim.Native.Nat.{ℕ, suc, ◌+◌, ◌-◌, ◌*◌, ◌≤◌, ◌<◌}
use native.Mathlib.Nat.{mul-zero, mul-one, zero-add, sub-zero}
use native.Mathlib.Omega.{arith}
use lib.Bits.{bit_xor, xor_zero_l, xor_zero_r}
use lib.Dec.{eqb}
use lib.ListN.{length, get_or, take, drop}
use lib.Seq.{length-take-le}
use Rattle.memory.proofs.Parts.{get_d_part}
use Rattle.field.specs.Field.{mul}
use Rattle.field.specs.Packing.{nib}
use Rattle.field.specs.Vectors.{◌!◌}
use Rattle.field.proofs.Packing.{nib-drop}
use Rattle.lanes.specs.Lanes.{lane, Holds}
use Rattle.marks.specs.Marks.{Mark, EachWord, MarkedWord, MultipliedWord, ClearedWord, Marked, MarkedBytes, Multiplied, Cleared}
use Rattle.marks.proofs.Marks.{others-lane}
use Rattle.forms.specs.Circuit.{Affine, Circuit, affine_length, linear, forms_of}
use Rattle.forms.specs.Room.{affine_in, circuit_in, HoldsCircuit}
use Rattle.linear.specs.Forms.{HoldsForms}
use Rattle.forms.proofs.Room.{constant_in}
use Rattle.parties.specs.Parties.{Share}
use Rattle.group.specs.declared.Rep.{Rep}
use Rattle.group.specs.Shares.{epsilon, target, alpha_given, mask_at, helper_at, HoldsShares, HoldsParts, HoldsAnswers, AlphaWords, RestWords}
use Rattle.group.proofs.OneParty.{forms_of_at, alpha_at_lem, second_form_at, rest_at}

-- ---- the forms

module _ (g mark m : ℕ) (marked : Mark g 1 mark) (share : ℕ → List ℕ) where
  -- linear forms with their constants added at party 1
  forms_held : (A : Affine) (bytes : List ℕ) (i : ℕ) (old new : List ℕ) → ((k : ℕ) → k < m → nib bytes (i + k) ≡ A.constants ! k)
      → length old ≡ m → length new ≡ length old → Holds (λ q k. linear A (share q) ! k) old → MarkedBytes bytes i mark old new
      → Holds (λ q k. forms_of (suc (16 * g + q)) A (share q) ! k) new
  unfolding Holds MarkedBytes EachWord MarkedWord Mark
  forms_held A bytes i old new constants eo en held added k q hk hq =
      added k (omega arith) q hq
      ∙ ap₂ bit_xor (held k q (omega arith) hq) (ap₂ (λ (x y : ℕ). x * y) (constants k (omega arith)) (marked q hq))
      ∙ forms_of_at (suc (16 * g + q)) A (share q) k

  pub parts_held : (n size : ℕ) (bytes x₀ y₀ z₀ x y z : List ℕ) → size ≡ affine_length n m
      → length x₀ ≡ m → length y₀ ≡ m → length z₀ ≡ m → length x ≡ length x₀ → length y ≡ length y₀ → length z ≡ length z₀
      → HoldsForms (circuit_in n m bytes) share x₀ y₀ z₀
      → MarkedBytes bytes 0 mark x₀ x → MarkedBytes bytes (size * 2) mark y₀ y → MarkedBytes bytes ((size + size) * 2) mark z₀ z
      → HoldsParts g (circuit_in n m bytes) share x y z
  unfolding circuit_in
  parts_held n size bytes x₀ y₀ z₀ x y z es lx ly lz ex ey ez held ax ay az = record {
    A1 = forms_held (affine_in n m bytes) bytes 0 x₀ x (λ k h. ap (nib bytes) (zero-add k) ∙ sym (constant_in n m bytes k h)) lx ex held.A1 ax;
    A2 = forms_held (affine_in n m (drop (affine_length n m) bytes)) bytes (size * 2) y₀ y
        (λ k h. ap (λ (j : ℕ). nib bytes (j * 2 + k)) es ∙ sym (constant_in n m (drop (affine_length n m) bytes) k h ∙ nib-drop (affine_length n m) bytes k)) ly ey held.A2 ay;
    A0 = forms_held (affine_in n m (drop (affine_length n m + affine_length n m) bytes)) bytes ((size + size) * 2) z₀ z
        (λ k h. ap (λ (j : ℕ). nib bytes ((j + j) * 2 + k)) es
        ∙ sym (constant_in n m (drop (affine_length n m + affine_length n m) bytes) k h ∙ nib-drop (affine_length n m + affine_length n m) bytes k)) lz ez held.A0 az;
  }

-- ---- α and z·ε + c

-- a lane that is cleared, and one that is then put in
cleared-lane : (b : Bool) (x : ℕ) → x * (1 - cond b 1 0) ≡ cond b 0 x
cleared-lane true x = mul-zero x
cleared-lane false x = mul-one x

patched_lane : (b : Bool) (x v : ℕ) → bit_xor (x * (1 - cond b 1 0)) (v * cond b 1 0) ≡ cond b v x
patched_lane true x v = ap₂ bit_xor (mul-zero x) (mul-one v) ∙ xor_zero_l v
patched_lane false x v = ap₂ bit_xor (mul-one x) (mul-zero v) ∙ xor_zero_r x

others_times : (b : Bool) (v : ℕ) → v * cond b 0 1 ≡ cond b 0 v
others_times true v = mul-zero v
others_times false v = mul-one v

module _ (rep : Rep) (g : ℕ) (v : List ℕ) (hide b c d e : ℕ) (hidden : Mark g rep.hidden hide)
    (eb : b ≡ rep.n + rep.m) (ec : c ≡ b + rep.m) (ed : d ≡ c + rep.m) (ee : e ≡ d + rep.m) where
  part-epsilon : take (c - b) (drop b v) ≡ epsilon rep v
  unfolding epsilon
  part-epsilon = let i : c - b ≡ rep.m = omega arith in ap₂ (λ (x y : ℕ). take x (drop y v)) i eb

  part-target : take (d - c) (drop c v) ≡ target rep v
  unfolding target
  part-target =
      let i : d - c ≡ rep.m = omega arith in
      let j : c ≡ rep.n + rep.m + rep.m = omega arith in
      ap₂ (λ (x y : ℕ). take x (drop y v)) i j

  part-given : take (e - d) (drop d v) ≡ alpha_given rep v
  unfolding alpha_given
  part-given =
      let i : e - d ≡ rep.m = omega arith in
      let j : d ≡ rep.n + rep.m + rep.m + rep.m = omega arith in
      ap₂ (λ (x y : ℕ). take x (drop y v)) i j

  pub alpha_words_lem : (a x₀ x₁ x₂ x₃ : List ℕ) → length x₁ ≡ length x₀ → length x₂ ≡ length x₁
      → Multiplied (take (c - b) (drop b v)) a x₀ x₁ → Cleared hide x₁ x₂ → Marked (take (e - d) (drop d v)) hide x₂ x₃
      → AlphaWords rep g v a x₀ x₃
  unfolding AlphaWords Multiplied Cleared Marked EachWord MultipliedWord ClearedWord MarkedWord Mark
  alpha_words_lem a x₀ x₁ x₂ x₃ e₁ e₂ mul-ed clear-ed mark-ed k q hk hq =
      mark-ed k (omega arith) q hq
      ∙ ap₂ bit_xor
      (clear-ed k (omega arith) q hq
      ∙ ap₂ (λ (x y : ℕ). x * (1 - y)) (mul-ed k hk q hq ∙ ap (λ (l : List ℕ). bit_xor (mul (lane q (x₀ ! k)) (l ! k)) (lane q (a ! k))) part-epsilon) (hidden q hq))
      (ap₂ (λ (l : List ℕ) (y : ℕ). (l ! k) * y) part-given (hidden q hq))
      ∙ patched_lane (eqb (suc (16 * g + q)) rep.hidden) (bit_xor (mul (lane q (x₀ ! k)) (epsilon rep v ! k)) (lane q (a ! k))) (alpha_given rep v ! k)

  pub rest_words_lem : (first : ℕ) (more z₀ z₁ z₂ z₃ : List ℕ) → Mark g 1 first → length z₁ ≡ length z₀ → length z₂ ≡ length z₁
      → Marked (take (d - c) (drop c v)) (bit_xor 0x1111111111111111 first) z₀ z₁ → Multiplied (take (c - b) (drop b v)) more z₁ z₂ → Cleared hide z₂ z₃
      → RestWords rep g v more z₀ z₃
  unfolding RestWords Multiplied Cleared Marked EachWord MultipliedWord ClearedWord MarkedWord Mark
  rest_words_lem first more z₀ z₁ z₂ z₃ one e₁ e₂ mark-ed mul-ed clear-ed k q hk hq =
      clear-ed k (omega arith) q hq
      ∙ ap₂ (λ (x y : ℕ). x * (1 - y))
      (mul-ed k (omega arith) q hq
      ∙ ap₂ (λ (x : ℕ) (l : List ℕ). bit_xor (mul x (l ! k)) (lane q (more ! k)))
      (mark-ed k hk q hq
      ∙ ap (bit_xor (lane q (z₀ ! k)))
      (ap₂ (λ (l : List ℕ) (y : ℕ). (l ! k) * y) part-target (others-lane g 1 first q one hq) ∙ others_times (eqb (suc (16 * g + q)) 1) (target rep v ! k)))
      part-epsilon)
      (hidden q hq)
      ∙ cleared-lane (eqb (suc (16 * g + q)) rep.hidden) _

-- ---- all of it

pub answers_held : (rep : Rep) (g hide : ℕ) (f : Circuit) (v words : List ℕ) (share : ℕ → Share) (a b c e : ℕ) (x₀ y₀ z₀ x y z : List ℕ)
    → Mark g rep.hidden hide → a ≡ mask_at rep → b ≡ a + rep.m → c ≡ helper_at rep → e ≡ c + rep.m
    → length x₀ ≡ rep.m → length y₀ ≡ rep.m → length z₀ ≡ rep.m → length x ≡ length x₀ → length y ≡ length y₀ → length z ≡ length z₀
    → HoldsShares rep share words → HoldsParts g f (λ q. (share q).s) x₀ y₀ z₀
    → AlphaWords rep g v (take (b - a) (drop a words)) x₀ x → Cleared hide y₀ y → RestWords rep g v (take (e - c) (drop c words)) z₀ z
    → HoldsAnswers rep g f v share x y z
unfolding Holds AlphaWords RestWords Cleared EachWord ClearedWord Mark
answers_held rep g hide f v words share a b c e x₀ y₀ z₀ x y z hidden ea eb ec ee lx ly lz ex ey ez shares parts alphas clear-ed rests = record {
  alpha = λ k q hk hq.
      alphas k q (omega arith) hq
      ∙ ap₂ (λ (s w : ℕ). cond (eqb (suc (16 * g + q)) rep.hidden) (alpha_given rep v ! k) (bit_xor (mul s (epsilon rep v ! k)) w))
      (parts.A1 k q (omega arith) hq)
      (ap (lane q) (get_d_part words a b k (omega arith) ∙ ap (λ (j : ℕ). get_or words (j + k) 0) ea) ∙ shares.a k q (omega arith) hq)
      ∙ alpha_at_lem f (suc (16 * g + q)) rep.hidden (share q) k (epsilon rep v) (alpha_given rep v);
  second_form = λ k q hk hq.
      clear-ed k (omega arith) q hq
      ∙ ap₂ (λ (s y : ℕ). s * (1 - y)) (parts.A2 k q (omega arith) hq) (hidden q hq)
      ∙ second_form_at f (suc (16 * g + q)) rep.hidden (share q) k;
  rest = λ k q hk hq.
      rests k q (omega arith) hq
      ∙ ap₂ (λ (s w : ℕ). cond (eqb (suc (16 * g + q)) rep.hidden) 0 (bit_xor (mul (bit_xor s (cond (eqb (suc (16 * g + q)) 1) 0 (target rep v ! k))) (epsilon rep v ! k)) w))
      (parts.A0 k q (omega arith) hq)
      (ap (lane q) (get_d_part words c e k (omega arith) ∙ ap (λ (j : ℕ). get_or words (j + k) 0) ec) ∙ shares.c k q (omega arith) hq)
      ∙ rest_at f (suc (16 * g + q)) rep.hidden (share q) k (target rep v) (epsilon rep v);
}

-- the first words hold the shares of s
pub length_front : (words : List ℕ) (n : ℕ) → n ≤ length words → length (take (n - 0) (drop 0 words)) ≡ n
length_front words n room = length-take-le (n - 0) (drop 0 words) (omega arith) ∙ sub-zero n

pub held-part : (rep : Rep) (share : ℕ → Share) (words : List ℕ) (n : ℕ) → rep.n ≡ n → n ≤ length words → HoldsShares rep share words
    → Holds (λ q i. (share q).s ! i) (take (n - 0) (drop 0 words))
unfolding Holds
held-part rep share words n e room h k q hk hq =
    let l = length_front words n room in
    ap (lane q) (get_d_part words 0 n k (omega arith) ∙ ap (λ (j : ℕ). get_or words j 0) (zero-add k)) ∙ h.s k q (omega arith) hq

-- bytes hold the circuit that is read from them by equal sizes
pub circuit_alike : (n m n₂ m₂ : ℕ) (bytes : List ℕ) → n₂ ≡ n → m₂ ≡ m → HoldsCircuit n m (circuit_in n₂ m₂ bytes) bytes
unfolding HoldsCircuit
circuit_alike n m n₂ m₂ bytes en em = ap₂ (λ (i j : ℕ). circuit_in i j bytes) (sym en) (sym em)
