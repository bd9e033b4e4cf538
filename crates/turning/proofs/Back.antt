-- Words by place turned back to words by party: the blocks of the padded words, and behind them the last sixteen words once more.
-- Assumes nothing.
use mathlib.Core.Path.{◌≡◌, sym, ap, ◌∙◌}
use mathlib.Core.List.{List, ◌++◌}
use Prim.Native.Nat.{ℕ, ◌+◌, ◌-◌, ◌*◌, ◌/◌, ◌≤◌, ◌<◌}
use native.Mathlib.Nat.{zero-add}
use native.Mathlib.Omega.{arith}
use lib.ListN.{length, get_or, take, drop, length-drop, get_or-append}
use lib.Seq.{length-take-le}
use Rattle.memory.specs.Lists.{over, put}
use Rattle.memory.proofs.Parts.{lent-put, get_d_part, length-put, get_or-put-before, get_or-put_in, over_fits, length_over}
use Rattle.lanes.specs.Lanes.{lane}
use Rattle.turning.specs.Turns.{Turned}
use Rattle.turning.specs.Parties.{blocks_end, TurnedBack}

-- an entry of what was written over the start of a list
pub get_d_over : (new old : List ℕ) (i : ℕ) → length new ≤ length old → i < length new → get_or (over new old) i 0 ≡ get_or new i 0
get_d_over new old i h g =
    ap (λ (l : List ℕ). get_or l i 0) (over_fits new old h) ∙ get_or-append new (drop (length new) old) 0 i g

-- what the calls leave: the padded words, with the last sixteen behind the blocks, and the turned words
module _ (words padded turned cs ys : List ℕ) (n : ℕ) (h16 : 16 ≤ length words) (h144 : length words ≤ 144)
    (hp : length padded ≡ 160) (ht : length turned ≡ 160) (hn : n ≡ (length words + 15) / 16 * 16) (hc : length cs ≡ 16) (hy : length ys ≡ n + 16) where
  abbrev filled : List ℕ
  filled = take n (over words padded) ++ (cs ++ drop (n + 16 - n) (drop n (over words padded)))

  abbrev after : List ℕ
  after = take 0 turned ++ (ys ++ drop (n + 16 - 0) (drop 0 turned))

  filled_put : filled ≡ put (over words padded) n cs
  filled_put = lent-put (over words padded) n (n + 16) cs (omega arith)

  room : n + length cs ≤ length (over words padded)
  room = rw (length_over words padded) (omega arith)

  after_entry : (i : ℕ) → i < n + 16 → get_or after i 0 ≡ get_or ys i 0
  after_entry i h =
      ap (λ (l : List ℕ). get_or l i 0) (lent-put turned 0 (n + 16) ys (omega arith))
      ∙ ap (λ (k : ℕ). get_or (put turned 0 ys) k 0) (sym (zero-add i))
      ∙ get_or-put_in turned 0 ys (omega arith) i (omega arith)

  module _ (part : cs ≡ over (take (length words - (length words - 16)) (drop (length words - 16) words)) (take (n + 16 - n) (drop n (over words padded))))
      (lanes : Turned (take (n + 16 - 0) (drop 0 filled)) ys) where
    -- lane j of a turned word is a lane of the padded words
    source : (b q j : ℕ) → q < 16 → j < 16 → 16 * b + 16 ≤ n + 16 → lane j (get_or after (16 * b + q) 0) ≡ lane q (get_or (put (over words padded) n cs) (16 * b + j) 0)
    unfolding Turned
    source b q j hq hj h =
        ap (lane j) (after_entry (16 * b + q) (omega arith))
        ∙ lanes b q j (rw (length-take-le (n + 16 - 0) (drop 0 filled) whole) (omega arith)) hq hj
        ∙ ap (lane q) (get_d_part filled 0 (n + 16) (16 * b + j) (omega arith)
        ∙ ap (λ (k : ℕ). get_or filled k 0) (zero-add (16 * b + j)) ∙ ap (λ (l : List ℕ). get_or l (16 * b + j) 0) filled_put)
      where
        whole : n + 16 - 0 ≤ length (drop 0 filled)
        whole = rw (filled_put, length-put (over words padded) n cs room, length_over words padded) (omega arith)

    block : (b q j : ℕ) → q < 16 → j < 16 → 16 * b + j < length words → lane j (get_or after (16 * b + q) 0) ≡ lane q (get_or words (16 * b + j) 0)
    block b q j hq hj h =
        source b q j hq hj (omega arith)
        ∙ ap (lane q) (get_or-put-before (over words padded) n cs room (16 * b + j) (omega arith) ∙ get_d_over words padded (16 * b + j) (omega arith) h)

    end : (q j : ℕ) → q < 16 → j < 16 → lane j (get_or after (blocks_end (length words) + q) 0) ≡ lane q (get_or words (length words - 16 + j) 0)
    unfolding blocks_end
    end q j hq hj =
        let e : (length words + 15) / 16 * 16 ≡ 16 * (n / 16) = omega arith in
        let f : 16 * (n / 16) + j ≡ n + j = omega arith in
        let c = length-take-le (length words - (length words - 16)) (drop (length words - 16) words) (rw (length-drop (length words - 16) words) (omega arith)) in
        let d = length-take-le (n + 16 - n) (drop n (over words padded)) (rw (length-drop n (over words padded), length_over words padded) (omega arith)) in
        ap (λ (k : ℕ). lane j (get_or after (k + q) 0)) e
        ∙ source (n / 16) q j hq hj (omega arith)
        ∙ ap (lane q) (ap (λ (k : ℕ). get_or (put (over words padded) n cs) k 0) f
        ∙ get_or-put_in (over words padded) n cs room j (omega arith)
        ∙ ap (λ (l : List ℕ). get_or l j 0) part
        ∙ get_d_over _ _ j (omega arith) (omega arith)
        ∙ get_d_part words (length words - 16) (length words) j (omega arith))

    pub turned_back : TurnedBack words after
    turned_back = record { blocks = block; last = end }
