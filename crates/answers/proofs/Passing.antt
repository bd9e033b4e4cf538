-- The first pass, group after group: the sums of the lanes are the sums over the parties passed, and what was kept stays. Assumes nothing.
use mathlib.Core.List.{List, []}
use mathlib.Core.Path.{◌≡◌, refl, sym, ap, subst, ◌∙◌}
use Prim.Native.Nat.{ℕ, zero, suc, ◌+◌, ◌*◌, ◌<◌}
use native.Mathlib.Nat.{add-zero, add-suc}
use native.Mathlib.Decide.{dec_lt}
use native.Mathlib.Omega.{arith}
use lib.Bits.{bit_xor, xor_zero_l, xor_zero_r}
use lib.ListN.{length, get_or, take, drop}
use lib.Seq.{take_all, drop-drop}
use Rattle.memory.proofs.Lists.{room}
use Rattle.memory.proofs.Bits.{xor_assoc}
use Rattle.field.specs.Vectors.{◌!◌, total}
use Rattle.lanes.specs.Lanes.{lane}
use Rattle.lanes.proofs.Laws.{lane-zero}
use Rattle.marks.specs.Marks.{sum_of, lane_sum}
use Rattle.marks.proofs.Sums.{sum_same, sum-xor}
use Rattle.parties.proofs.Growing.{total-take-suc_at}
use Rattle.sponge.specs.declared.Sponge.{Sponge}
use Rattle.answers.specs.Passes.{InLanes, Summed, HoldsGroup, Turn, TwoTurns, Passed, Zeros}
use Rattle.answers.proofs.Work.{part_same}

-- ---- sums

total-take-add : (l : List (List ℕ)) (p c k : ℕ) → total (take (p + c) l) ! k ≡ bit_xor (total (take p l) ! k) (sum_of c (λ q. get_or l (p + q) [] ! k))
unfolding sum_of
total-take-add l p zero k = ap (λ (j : ℕ). total (take j l) ! k) (add-zero p) ∙ sym (xor_zero_r (total (take p l) ! k))
total-take-add l p (suc c) k =
    ap (λ (j : ℕ). total (take j l) ! k) (add-suc p c)
    ∙ total-take-suc_at l (p + c) k
    ∙ ap (λ (x : ℕ). bit_xor x (get_or l (p + c) [] ! k)) (total-take-add l p c k)
    ∙ xor_assoc (total (take p l) ! k) (sum_of c (λ q. get_or l (p + q) [] ! k)) (get_or l (p + c) [] ! k)

sum_more : (g m : ℕ) (l : List (List ℕ)) (old new : List ℕ) → Summed g m l old new → (k : ℕ) → k < m
    → lane_sum (old ! k) ≡ total (take (16 * g) l) ! k → lane_sum (new ! k) ≡ total (take (16 * (g + 1)) l) ! k
unfolding Summed lane_sum
sum_more g m l old new s k h e =
    let i : 16 * g + 16 ≡ 16 * (g + 1) = omega arith in
    sum_same 16 (λ q. lane q (new ! k)) (λ q. bit_xor (lane q (old ! k)) (get_or l (16 * g + q) [] ! k)) (λ q hq. s k q h hq)
    ∙ sum-xor 16 (λ q. lane q (old ! k)) (λ q. get_or l (16 * g + q) [] ! k)
    ∙ ap (λ (x : ℕ). bit_xor x (sum_of 16 (λ q. get_or l (16 * g + q) [] ! k))) e
    ∙ sym (total-take-add l (16 * g) 16 k)
    ∙ ap (λ (j : ℕ). total (take j l) ! k) i

sum_zeros : (n : ℕ) → sum_of n (λ q. 0) ≡ 0
unfolding sum_of
sum_zeros zero = refl
sum_zeros (suc n) = ap (λ (x : ℕ). bit_xor x 0) (sum_zeros n) ∙ xor_zero_r 0

sum_none : (l : List (List ℕ)) (words : List ℕ) → Zeros words → (k : ℕ) → lane_sum (words ! k) ≡ total (take (16 * 0) l) ! k
unfolding Zeros lane_sum total
sum_none l words z k =
    sum_same 16 (λ q. lane q (words ! k)) (λ q. 0) (λ q h. ap (lane q) (z k) ∙ lane-zero q) ∙ sum_zeros 16

-- ---- what is kept

kept_more : (n m at : ℕ) (ys ws : List (List ℕ)) (old new : List ℕ) → take (at + n * (16 * m)) new ≡ take (at + n * (16 * m)) old
    → ((g : ℕ) → g < n → HoldsGroup g m ys ws (take (16 * m) (drop (g * (16 * m)) (drop at old)))) → HoldsGroup n m ys ws (take (16 * m) (drop (at + n * (16 * m)) new))
    → (g : ℕ) → g < n + 1 → HoldsGroup g m ys ws (take (16 * m) (drop (g * (16 * m)) (drop at new)))
kept_more n m at ys ws old new same before here g h =
    subst (λ (l : List ℕ). HoldsGroup g m ys ws (take (16 * m) l)) (sym (drop-drop (g * (16 * m)) at new))
    (elim (dec_lt g n) as (λ d. HoldsGroup g m ys ws (take (16 * m) (drop (at + g * (16 * m)) new))) [
      | yes y ↦
          (let r = room g n (16 * m) y in
          subst (HoldsGroup g m ys ws)
          (ap (take (16 * m)) (drop-drop (g * (16 * m)) at old) ∙ sym (part_same new old (at + g * (16 * m)) (16 * m) (at + n * (16 * m)) (omega arith) same)) (before g y))
      | no y ↦ (let i : n ≡ g = omega arith in subst (λ (k : ℕ). HoldsGroup k m ys ws (take (16 * m) (drop (at + k * (16 * m)) new))) i here)
    ])

-- ---- one turn more

pub passed_none : (m : ℕ) (αs ys ws : List (List ℕ)) (sa sy sw all : List ℕ) → Zeros sa → Zeros sy → Zeros sw → Passed 0 m αs ys ws sa sy sw all
passed_none m αs ys ws sa sy sw all za zy zw = record {
  alpha = λ k h. sum_none αs sa za k;
  second_form = λ k h. sum_none ys sy zy k;
  rest = λ k h. sum_none ws sw zw k;
  kept = λ g h. absurd (omega arith);
}

pub passed_more : (n m at : ℕ) (αs ys ws : List (List ℕ)) (s r : Sponge) (sa₀ sy₀ sw₀ sa sy sw old new : List ℕ)
    → take (at + n * (16 * m)) new ≡ take (at + n * (16 * m)) old → Passed n m αs ys ws sa₀ sy₀ sw₀ (drop at old)
    → Turn n m αs ys ws s sa₀ sy₀ sw₀ sa sy sw (take (16 * m) (drop (at + n * (16 * m)) new)) r → Passed (n + 1) m αs ys ws sa sy sw (drop at new)
passed_more n m at αs ys ws s r sa₀ sy₀ sw₀ sa sy sw old new same p t = record {
  alpha = λ k h. sum_more n m αs sa₀ sa t.alpha k h (p.alpha k h);
  second_form = λ k h. sum_more n m ys sy₀ sy t.second_form k h (p.second_form k h);
  rest = λ k h. sum_more n m ws sw₀ sw t.rest k h (p.rest k h);
  kept = kept_more n m at ys ws old new same p.kept t.kept;
}

pub passed_at : (n n' m : ℕ) (αs ys ws : List (List ℕ)) (sa sy sw all : List ℕ) → n ≡ n' → Passed n m αs ys ws sa sy sw all → Passed n' m αs ys ws sa sy sw all
passed_at n n' m αs ys ws sa sy sw all e p = subst (λ (k : ℕ). Passed k m αs ys ws sa sy sw all) e p

pub passed_two : (n k m at : ℕ) (αs ys ws : List (List ℕ)) (s r : Sponge) (sa₀ sy₀ sw₀ sa sy sw old new : List ℕ) → n + 2 ≡ k
    → take (at + n * (16 * m)) new ≡ take (at + n * (16 * m)) old → Passed n m αs ys ws sa₀ sy₀ sw₀ (drop at old)
    → TwoTurns n m αs ys ws s sa₀ sy₀ sw₀ sa sy sw (take (16 * m) (drop (at + n * (16 * m)) new)) (take (16 * m) (drop (at + (n + 1) * (16 * m)) new)) r
    → Passed k m αs ys ws sa sy sw (drop at new)
passed_two n k m at αs ys ws s r sa₀ sy₀ sw₀ sa sy sw old new e same p t =
    let i : n + 1 + 1 ≡ k = omega arith in
    passed_at (n + 1 + 1) k m αs ys ws sa sy sw (drop at new) i
    (passed_more (n + 1) m at αs ys ws t.between r t.sa₁ t.sy₁ t.sw₁ sa sy sw new new refl
    (passed_more n m at αs ys ws s t.between sa₀ sy₀ sw₀ t.sa₁ t.sy₁ t.sw₁ old new same p t.first) t.second)

-- ---- the sums over all parties

pub record Sums (m : ℕ) (αs ys ws : List (List ℕ)) (sa sy sw : List ℕ) : Type 0 where
  pub alpha : (k : ℕ) → k < m → lane_sum (sa ! k) ≡ total αs ! k
  pub second_form : (k : ℕ) → k < m → lane_sum (sy ! k) ≡ total ys ! k
  pub rest : (k : ℕ) → k < m → lane_sum (sw ! k) ≡ total ws ! k

pub total_all : (l : List (List ℕ)) (n k : ℕ) → length l ≡ 16 * n → total (take (16 * n) l) ! k ≡ total l ! k
total_all l n k e = ap (λ (x : List (List ℕ)). total x ! k) (take_all (16 * n) l (omega arith))

pub passed_sums : (n m : ℕ) (αs ys ws : List (List ℕ)) (sa sy sw all : List ℕ) → length αs ≡ 16 * n → length ys ≡ 16 * n → length ws ≡ 16 * n → Passed n m αs ys ws sa sy sw all
    → Sums m αs ys ws sa sy sw
passed_sums n m αs ys ws sa sy sw all la ly lw p = record {
  alpha = λ k h. p.alpha k h ∙ total_all αs n k la;
  second_form = λ k h. p.second_form k h ∙ total_all ys n k ly;
  rest = λ k h. p.rest k h ∙ total_all ws n k lw;
}

-- of the only group
pub sum_one : (l : List (List ℕ)) (words : List ℕ) → length l ≡ 16 → InLanes 0 l words → (k : ℕ) → k < length words → lane_sum (words ! k) ≡ total l ! k
unfolding InLanes lane_sum total
sum_one l words e held k h =
    sum_same 16 (λ q. lane q (words ! k)) (λ q. get_or l (0 + q) [] ! k) (λ q hq. held k q h hq)
    ∙ sym (total-take-add l 0 16 k ∙ xor_zero_l (sum_of 16 (λ q. get_or l (0 + q) [] ! k)))
    ∙ ap (λ (x : List (List ℕ)). total x ! k) (take_all 16 l (omega arith))
