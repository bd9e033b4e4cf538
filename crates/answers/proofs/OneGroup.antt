-- A repetition of one group: its α, y and z·ε + c are those of all parties, so the words themselves become every v. Assumes nothing.
use mathlib.Core.List.{List}
use mathlib.Core.Path.{◌≡◌, sym, ap, ap₂, ◌∙◌}
use Prim.Native.Nat.{ℕ, ◌+◌, ◌*◌, ◌<◌}
use native.Mathlib.Omega.{arith}
use lib.Bits.{bit_xor}
use lib.ListN.{length}
use Rattle.field.specs.Field.{mul}
use Rattle.field.specs.Vectors.{◌!◌}
use Rattle.marks.specs.Marks.{Mark, EachWord, MarkedWord, MultipliedWord, Marked, Multiplied}
use Rattle.forms.specs.Circuit.{Circuit}
use Rattle.forms.specs.Room.{circuit_in, HoldsCircuit}
use Rattle.group.specs.declared.Rep.{Rep}
use Rattle.group.specs.Shares.{values_length, share_at, HoldsAnswers}
use Rattle.answers.specs.Passes.{alphas_of, second_forms_of, rests_of, Packs, InLanes, v_at, VsOf, Folded}
use Rattle.answers.proofs.Absorbing.{packs_one}
use Rattle.answers.proofs.Passing.{Sums, sum_one}
use Rattle.answers.proofs.Sizes.{length-alphas, alphas-vectors, alphas_in, second_forms_in, rests_in}
use Rattle.answers.proofs.Turning.{vs-vectors}
use Rattle.answers.proofs.Values.{vs_of, length_ys, length_ws, vs_of_lem}

pub some_group : (rep : Rep) → rep.groups ≡ 1 → 0 < rep.groups
some_group rep one = omega arith

-- bytes hold a circuit for equal sizes
pub circuit_for : (n m n₂ m₂ : ℕ) (f : Circuit) (bytes : List ℕ) → n₂ ≡ n → m₂ ≡ m → HoldsCircuit n m f bytes → HoldsCircuit n₂ m₂ f bytes
unfolding HoldsCircuit
circuit_for n m n₂ m₂ f bytes en em h = ap₂ (λ (i j : ℕ). circuit_in i j bytes) en em ∙ h

-- y times the sum of all α, plus z·ε + c, and in the hidden lane the given v
pub v_lanes : (rep : Rep) (hide : ℕ) (alpha given y z v w : List ℕ) (ys ws vs : List (List ℕ)) → rep.groups ≡ 1 → Mark 0 rep.hidden hide
    → length y ≡ rep.m → length z ≡ rep.m → length v ≡ length y → length w ≡ length v → InLanes 0 ys y → InLanes 0 ws z → VsOf rep alpha given ys ws vs
    → Multiplied alpha z y v → Marked given hide v w → InLanes 0 vs w
unfolding InLanes v_at EachWord Multiplied MultipliedWord Marked MarkedWord Mark
v_lanes rep hide alpha given y z v w ys ws vs one marked ly lz lv lw iy iz all mul-ed mark-ed k q hk hq =
    mark-ed k (omega arith) q hq
    ∙ ap₂ bit_xor
    (mul-ed k (omega arith) q hq ∙ ap₂ (λ (a b : ℕ). bit_xor (mul a (alpha ! k)) b) (iy k q (omega arith) hq) (iz k q (omega arith) hq))
    (ap (λ (b : ℕ). (given ! k) * b) (marked q hq))
    ∙ sym (all.entry (16 * 0 + q) k (omega arith) (omega arith))

module _ (rep : Rep) (one : rep.groups ≡ 1) (circuit salt leaves v : List ℕ) (size : length v ≡ values_length rep) (x y z : List ℕ)
    (lx : length x ≡ rep.m) (ly : length y ≡ rep.m) (lz : length z ≡ rep.m)
    (held : HoldsAnswers rep 0 (circuit_in rep.n rep.m circuit) v (λ q. share_at rep salt leaves v (16 * 0 + q)) x y z) where
  count-alphas : length (alphas_of rep circuit salt leaves v) ≡ 16
  count-alphas = let e = length-alphas rep salt leaves v size circuit in omega arith

  count-second_forms : length (second_forms_of rep circuit salt leaves v) ≡ 16
  count-second_forms = let e = length_ys rep circuit salt leaves v size (some_group rep one) in omega arith

  count_rests : length (rests_of rep circuit salt leaves v) ≡ 16
  count_rests = let e = length_ws rep circuit salt leaves v size (some_group rep one) in omega arith

  in_alphas : InLanes 0 (alphas_of rep circuit salt leaves v) x
  in_alphas = alphas_in rep salt leaves v size circuit 0 x y z (some_group rep one) held

  in_second_forms : InLanes 0 (second_forms_of rep circuit salt leaves v) y
  in_second_forms = second_forms_in rep salt leaves v size circuit 0 x y z (some_group rep one) held

  in_rests : InLanes 0 (rests_of rep circuit salt leaves v) z
  in_rests = rests_in rep salt leaves v size circuit 0 x y z (some_group rep one) held

  pub alphas_packed : Packs (alphas_of rep circuit salt leaves v) x
  alphas_packed = packs_one rep.m (alphas_of rep circuit salt leaves v) (alphas-vectors rep salt leaves v size circuit) count-alphas x lx in_alphas

  sums : Sums rep.m (alphas_of rep circuit salt leaves v) (second_forms_of rep circuit salt leaves v) (rests_of rep circuit salt leaves v) x y z
  sums = record {
    alpha = λ k h. sum_one (alphas_of rep circuit salt leaves v) x count-alphas in_alphas k (omega arith);
    second_form = λ k h. sum_one (second_forms_of rep circuit salt leaves v) y count-second_forms in_second_forms k (omega arith);
    rest = λ k h. sum_one (rests_of rep circuit salt leaves v) z count_rests in_rests k (omega arith);
  }

  pub vs_packed : (hide : ℕ) (alpha given u w : List ℕ) → Mark 0 rep.hidden hide → Folded rep.m x y z alpha given → length u ≡ length y → length w ≡ length u
      → Multiplied alpha z y u → Marked given hide u w → Packs (vs_of rep circuit salt leaves v size (some_group rep one)) w
  vs_packed hide alpha given u w marked folded lu lw mul-ed mark-ed =
      let all = vs_of_lem rep circuit salt leaves v size (some_group rep one) alpha given x y z sums folded in
      let count : length (vs_of rep circuit salt leaves v size (some_group rep one)) ≡ 16 = (let n = all.count in omega arith) in
      packs_one rep.m (vs_of rep circuit salt leaves v size (some_group rep one)) (vs-vectors all) count w (lw ∙ lu ∙ ly)
      (v_lanes rep hide alpha given y z u w (second_forms_of rep circuit salt leaves v) (rests_of rep circuit salt leaves v) (vs_of rep circuit salt leaves v size (some_group rep one)) one marked ly lz lu lw in_second_forms in_rests all mul-ed mark-ed)
