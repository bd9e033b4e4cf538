-- Groups of sixteen words, turned one after another. Assumes nothing.
use mathlib.Core.Path.{◌≡◌, ap, ◌∙◌}
use mathlib.Core.List.{List, ◌++◌}
use Prim.Native.Nat.{ℕ, ◌+◌, ◌-◌, ◌*◌, ◌%◌, ◌≤◌, ◌<◌}
use native.Mathlib.Decide.{dec_le}
use native.Mathlib.Omega.{arith}
use lib.ListN.{length, get_or, take, drop}
use lib.Seq.{get_or-take, get_or-drop}
use Rattle.memory.specs.Lists.{put}
use Rattle.memory.proofs.Parts.{lent-put, get_or-put-before, get_or-put_in}
use Rattle.lanes.specs.Lanes.{lane}
use Rattle.turning.specs.Turns.{Transposed, Turned}

-- the groups that end at or before n are turned
pub TurnedTo : ℕ → List ℕ → List ℕ → Type 0
TurnedTo n x y = (w j q : ℕ) → 16 * w + 16 ≤ n → j < 16 → q < 16 → lane q (get_or y (16 * w + j) 0) ≡ lane j (get_or x (16 * w + q) 0)

pub turned_none : (x y : List ℕ) → TurnedTo 0 x y
unfolding TurnedTo
turned_none x y w j q h hj hq = absurd (omega arith)

pub turned_all : (n : ℕ) (x y : List ℕ) → length x ≤ n → TurnedTo n x y → Turned x y
unfolding TurnedTo Turned
turned_all n x y e t w j q h hj hq = t w j q (omega arith) hj hq

-- one group more
pub turned_more : (x y ys : List ℕ) (at n : ℕ) → at % 16 ≡ 0 → n ≡ at + 16 → at + 16 ≤ length y → length ys ≡ 16
    → TurnedTo at x y → Transposed (take (at + 16 - at) (drop at x)) ys
    → TurnedTo n x (take at y ++ (ys ++ drop (at + 16 - at) (drop at y)))
unfolding TurnedTo Transposed
turned_more x y ys at n whole next room len t f w j q h hj hq =
    let e : take at y ++ (ys ++ drop (at + 16 - at) (drop at y)) ≡ put y at ys = lent-put y at (at + 16) ys (omega arith) in
    ap (λ (l : List ℕ). lane q (get_or l (16 * w + j) 0)) e ∙ entry
  where
    fits : at + length ys ≤ length y
    fits = omega arith

    entry : lane q (get_or (put y at ys) (16 * w + j) 0) ≡ lane j (get_or x (16 * w + q) 0)
    entry =
        elim (dec_le (16 * w + 16) at) as (λ d. lane q (get_or (put y at ys) (16 * w + j) 0) ≡ lane j (get_or x (16 * w + q) 0)) [
          | yes l ↦ ap (lane q) (get_or-put-before y at ys fits (16 * w + j) (omega arith)) ∙ t w j q l hj hq
          | no l ↦ (let g : 16 * w ≡ at = omega arith in
              rw g (ap (lane q) (get_or-put_in y at ys fits j (omega arith)) ∙ f q j hq hj
              ∙ ap (lane j) (get_or-take (at + 16 - at) (drop at x) q 0 (omega arith) ∙ get_or-drop at x q 0)))
        ]
