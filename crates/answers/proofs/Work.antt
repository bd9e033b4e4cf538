-- The work of a repetition: the circuit, the leaves and the room as they are lent, and what a write behind them leaves. Assumes nothing.
use mathlib.Core.List.{List, ◌++◌}
use mathlib.Core.Path.{◌≡◌, sym, ap, ap₂, subst, ◌∙◌}
use Prim.Native.Nat.{ℕ, ◌+◌, ◌-◌, ◌*◌, ◌/◌, ◌%◌, ◌≤◌, ◌<◌}
use native.Mathlib.Nat.{sub-zero, mul-le-mul}
use native.Mathlib.Omega.{arith}
use lib.ListN.{length, take, drop, length-drop}
use lib.Seq.{take_all, take-take, length-take-le}
use Rattle.memory.specs.Lists.{put}
use Rattle.memory.proofs.Lists.{room}
use Rattle.memory.proofs.Parts.{lent-put, mid_put, take_put}
use Rattle.memory.proofs.Sections.{drop-take}
use Rattle.memory.proofs.Xors.{length_part, length-sized}
use Rattle.sponge.specs.declared.Sponge.{Sponge}
use Rattle.forms.specs.Room.{circuit_length, circuit_in}
use Rattle.forms.proofs.Room.{affine_size, circuit_three}
use Rattle.group.specs.declared.Rep.{Rep}
use Rattle.group.specs.Shares.{share_at, HoldsAnswers}
use Rattle.answers.specs.Passes.{circuit_of, leaves_of, room_at, alphas_of, second_forms_of, rests_of, HoldsGroup, Turn, TwoTurns}

-- ---- the places are small

pub circuit_bound : (n m : ℕ) → n ≤ 118 → m ≤ 121 → circuit_length n m ≤ 32768
circuit_bound n m hn hm =
    let b = mul-le-mul {n₁ = m} {m₁ = n / 2 + n % 2} {n₂ = 121} {m₂ = 60} hm (omega arith) in
    let s = affine_size n m in
    let t = circuit_three n m in
    omega arith

pub leaves_bound : (groups s : ℕ) → groups ≤ 16 → s ≤ 32 → 16 * groups * s ≤ 8192
leaves_bound groups s a b = mul-le-mul {n₁ = 16 * groups} {m₁ = s} {n₂ = 256} {m₂ = 32} (omega arith) b

-- ---- parts of lists that begin alike

pub part_same : (x y : List ℕ) (a n k : ℕ) → a + n ≤ k → take k x ≡ take k y → take n (drop a x) ≡ take n (drop a y)
part_same x y a n k h e =
    sym (drop-take a n x)
    ∙ ap (drop a) (sym (take-take (a + n) k x h) ∙ ap (take (a + n)) e ∙ take-take (a + n) k y h)
    ∙ drop-take a n y

-- the same turn, of a work that begins alike
pub turn_front : (rep : Rep) (g : ℕ) (salt v work work₀ sa₀ sy₀ sw₀ sa sy sw part : List ℕ) (s r : Sponge) → take (room_at rep) work ≡ take (room_at rep) work₀
    → Turn g rep.m (alphas_of rep (circuit_of rep work) salt (leaves_of rep work) v) (second_forms_of rep (circuit_of rep work) salt (leaves_of rep work) v)
    (rests_of rep (circuit_of rep work) salt (leaves_of rep work) v) s sa₀ sy₀ sw₀ sa sy sw part r
    → Turn g rep.m (alphas_of rep (circuit_of rep work₀) salt (leaves_of rep work₀) v) (second_forms_of rep (circuit_of rep work₀) salt (leaves_of rep work₀) v)
    (rests_of rep (circuit_of rep work₀) salt (leaves_of rep work₀) v) s sa₀ sy₀ sw₀ sa sy sw part r
turn_front rep g salt v work work₀ sa₀ sy₀ sw₀ sa sy sw part s r e t =
    let T : List ℕ → List ℕ → Type 0 = λ f l. Turn g rep.m (alphas_of rep f salt l v) (second_forms_of rep f salt l v) (rests_of rep f salt l v) s sa₀ sy₀ sw₀ sa sy sw part r in
    let i : 0 + circuit_length rep.n rep.m ≤ room_at rep = omega arith in
    subst (λ (f : List ℕ). T f (leaves_of rep work₀)) (part_same work work₀ 0 (circuit_length rep.n rep.m) (room_at rep) i e)
    (subst (T (circuit_of rep work)) (part_same work work₀ (circuit_length rep.n rep.m) (16 * rep.groups * rep.s) (room_at rep) (omega arith) e) t)

pub two_turns_front : (rep : Rep) (g : ℕ) (salt v work work₀ sa₀ sy₀ sw₀ sa sy sw part next : List ℕ) (s r : Sponge) → take (room_at rep) work ≡ take (room_at rep) work₀
    → TwoTurns g rep.m (alphas_of rep (circuit_of rep work) salt (leaves_of rep work) v) (second_forms_of rep (circuit_of rep work) salt (leaves_of rep work) v)
    (rests_of rep (circuit_of rep work) salt (leaves_of rep work) v) s sa₀ sy₀ sw₀ sa sy sw part next r
    → TwoTurns g rep.m (alphas_of rep (circuit_of rep work₀) salt (leaves_of rep work₀) v) (second_forms_of rep (circuit_of rep work₀) salt (leaves_of rep work₀) v)
    (rests_of rep (circuit_of rep work₀) salt (leaves_of rep work₀) v) s sa₀ sy₀ sw₀ sa sy sw part next r
two_turns_front rep g salt v work work₀ sa₀ sy₀ sw₀ sa sy sw part next s r e t = record {
  sa₁ = t.sa₁;
  sy₁ = t.sy₁;
  sw₁ = t.sw₁;
  between = t.between;
  first = turn_front rep g salt v work work₀ sa₀ sy₀ sw₀ t.sa₁ t.sy₁ t.sw₁ part s t.between e t.first;
  second = turn_front rep (g + 1) salt v work work₀ t.sa₁ t.sy₁ t.sw₁ sa sy sw next t.between r e t.second;
}

-- two turns, of which the second keeps what lies in front of its part
pub two_turns : (g m at : ℕ) (αs ys ws : List (List ℕ)) (sa₀ sy₀ sw₀ sa₁ sy₁ sw₁ sa sy sw old new : List ℕ) (s between r : Sponge)
    → take (at + (g + 1) * (16 * m)) new ≡ take (at + (g + 1) * (16 * m)) old
    → Turn g m αs ys ws s sa₀ sy₀ sw₀ sa₁ sy₁ sw₁ (take (16 * m) (drop (at + g * (16 * m)) old)) between
    → Turn (g + 1) m αs ys ws between sa₁ sy₁ sw₁ sa sy sw (take (16 * m) (drop (at + (g + 1) * (16 * m)) new)) r
    → TwoTurns g m αs ys ws s sa₀ sy₀ sw₀ sa sy sw (take (16 * m) (drop (at + g * (16 * m)) new)) (take (16 * m) (drop (at + (g + 1) * (16 * m)) new)) r
two_turns g m at αs ys ws sa₀ sy₀ sw₀ sa₁ sy₁ sw₁ sa sy sw old new s between r same t u = record {
  sa₁ = sa₁;
  sy₁ = sy₁;
  sw₁ = sw₁;
  between = between;
  first = (let h = room g (g + 1) (16 * m) (omega arith) in
      subst (λ (l : List ℕ). Turn g m αs ys ws s sa₀ sy₀ sw₀ sa₁ sy₁ sw₁ l between) (sym (part_same new old (at + g * (16 * m)) (16 * m) (at + (g + 1) * (16 * m)) (omega arith) same)) t);
  second = u;
}

pub two_front : (g m at : ℕ) (old between new : List ℕ) → take (at + (g + 1) * (16 * m)) new ≡ take (at + (g + 1) * (16 * m)) between
    → take (at + g * (16 * m)) between ≡ take (at + g * (16 * m)) old → take (at + g * (16 * m)) new ≡ take (at + g * (16 * m)) old
two_front g m at old between new e h =
    let i = room g (g + 1) (16 * m) (omega arith) in
    part_same new between 0 (at + g * (16 * m)) (at + (g + 1) * (16 * m)) (omega arith) e ∙ h

-- ---- as the code lends them

module _ (rep : Rep) (work : List ℕ) (c l : ℕ) (ec : c ≡ circuit_length rep.n rep.m) (el : l ≡ room_at rep) where
  pub circuit-lent : take (c - 0) (drop 0 work) ≡ circuit_of rep work
  circuit-lent = ap (λ (k : ℕ). take k work) (sub-zero c ∙ ec)

  pub leaves-lent : take (l - c) (drop c work) ≡ leaves_of rep work
  leaves-lent = let e : l - c ≡ 16 * rep.groups * rep.s = omega arith in ap₂ (λ (n k : ℕ). take n (drop k work)) e ec

  pub circuit-sized : room_at rep ≤ length work → length (take (c - 0) (drop 0 work)) ≡ circuit_length rep.n rep.m
  circuit-sized h = ap length circuit-lent ∙ length-take-le (circuit_length rep.n rep.m) work (omega arith)

  pub leaves-sized : room_at rep ≤ length work → length (take (l - c) (drop c work)) ≡ 16 * rep.groups * rep.s
  leaves-sized h = ap length leaves-lent ∙ length_part work (circuit_length rep.n rep.m) (16 * rep.groups * rep.s) (omega arith)

  pub group_held : (g : ℕ) (salt v x y z : List ℕ)
      → HoldsAnswers rep g (circuit_in rep.n rep.m (take (c - 0) (drop 0 work))) v (λ q. share_at rep salt (take (l - c) (drop c work)) v (16 * g + q)) x y z
      → HoldsAnswers rep g (circuit_in rep.n rep.m (circuit_of rep work)) v (λ q. share_at rep salt (leaves_of rep work) v (16 * g + q)) x y z
  group_held g salt v x y z h =
      subst (λ (f : List ℕ). HoldsAnswers rep g (circuit_in rep.n rep.m f) v (λ q. share_at rep salt (leaves_of rep work) v (16 * g + q)) x y z) circuit-lent
      (subst (λ (s : List ℕ). HoldsAnswers rep g (circuit_in rep.n rep.m (take (c - 0) (drop 0 work))) v (λ q. share_at rep salt s v (16 * g + q)) x y z) leaves-lent h)

-- the room, which ends where the work ends
module _ (rep : Rep) (work : List ℕ) (a e : ℕ) (ea : a ≡ room_at rep) (ee : e ≡ length work) where
  pub room-lent : take (e - a) (drop a work) ≡ drop (room_at rep) work
  room-lent = take_all (e - a) (drop a work) (simp length-drop (omega arith)) ∙ ap (λ (k : ℕ). drop k work) ea

  pub room-held : (ys ws : List (List ℕ)) → ((g : ℕ) → g < rep.groups → HoldsGroup g rep.m ys ws (take (16 * rep.m) (drop (g * (16 * rep.m)) (drop (room_at rep) work))))
      → (g : ℕ) → g < rep.groups → HoldsGroup g rep.m ys ws (take (16 * rep.m) (drop (g * (16 * rep.m)) (take (e - a) (drop a work))))
  room-held ys ws held g h = subst (λ (l : List ℕ). HoldsGroup g rep.m ys ws (take (16 * rep.m) (drop (g * (16 * rep.m)) l))) (sym room-lent) (held g h)

-- the part of a group, lent from a and written: b is the same place
module _ (work : List ℕ) (a size : ℕ) (fits : a + size ≤ length work) (part : List ℕ) (b : ℕ) (eb : a ≡ b) (kept : length part ≡ length (take (a + size - a) (drop a work))) where
  written : take a work ++ (part ++ drop (a + size - a) (drop a work)) ≡ put work a part
  written = lent-put work a (a + size) part (let s = length-sized work a size fits in omega arith)

  part_fits : a + length part ≤ length work
  part_fits = let s = length-sized work a size fits in omega arith

  pub part_back : take size (drop b (take a work ++ (part ++ drop (a + size - a) (drop a work)))) ≡ part
  part_back =
      ap (λ (l : List ℕ). take size (drop b l)) written
      ∙ ap₂ (λ (n k : ℕ). take n (drop k (put work a part))) (sym (kept ∙ length-sized work a size fits)) (sym eb)
      ∙ mid_put work a part part_fits

  pub front_back : take b (take a work ++ (part ++ drop (a + size - a) (drop a work))) ≡ take b work
  front_back = ap (take b) written ∙ subst (λ (k : ℕ). take k (put work a part) ≡ take k work) eb (take_put work a part part_fits)
