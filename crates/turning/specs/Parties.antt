-- Sixteen vectors, one in each lane of a list of words, and their bytes packed together in party order.
-- The later definitions are the steps of the packing: blocks of sixteen words turned back, and a window of sixteen elements.
-- Assumes nothing.
use Rattle.std.specs.Prelude.{◌≡◌, List, ℕ, ◌+◌, ◌-◌, ◌*◌, ◌/◌, ◌≤◌, ◌<◌, length, get_or, drop}
use Rattle.field.specs.Packing.{nib}
use Rattle.lanes.specs.Lanes.{lane}

-- element k of party q, lane q of word k, is element m q + k of the bytes, where m words are packed; what lies behind the 8 m bytes is kept
pub record PartiesPacked (words before after : List ℕ) : Type 0 where
  pub elements : (q k : ℕ) → q < 16 → k < length words → nib after (length words * q + k) ≡ lane q (get_or words k 0)
  pub rest : drop (8 * length words) after ≡ drop (8 * length words) before

-- where the blocks of sixteen words that hold m words end
unfoldable pub blocks_end : ℕ → ℕ
blocks_end m = (m + 15) / 16 * 16

-- word 16 b + q of the turned words has the elements 16 b, 16 b + 1, .. of party q, and behind the blocks word q has its last sixteen
pub record TurnedBack (words turned : List ℕ) : Type 0 where
  pub blocks : (b q j : ℕ) → q < 16 → j < 16 → 16 * b + j < length words → lane j (get_or turned (16 * b + q) 0) ≡ lane q (get_or words (16 * b + j) 0)
  pub last : (q j : ℕ) → q < 16 → j < 16 → lane j (get_or turned (blocks_end (length words) + q) 0) ≡ lane q (get_or words (length words - 16 + j) 0)

-- r has the lanes of x from lane s on, and then those of y
pub record Window (x y s r : ℕ) : Type 0 where
  pub first : (i : ℕ) → i + s < 16 → lane i r ≡ lane (s + i) x
  pub second : (i : ℕ) → i < 16 → 16 ≤ i + s → lane i r ≡ lane (i + s - 16) y

-- r has the sixteen elements of party q from element k on, and where they end those of the next party
pub record ElementsFrom (words : List ℕ) (q k r : ℕ) : Type 0 where
  pub own : (i : ℕ) → i < 16 → k + i < length words → lane i r ≡ lane q (get_or words (k + i) 0)
  pub next : (i : ℕ) → i < 16 → length words ≤ k + i → q + 1 < 16 → lane i r ≡ lane (q + 1) (get_or words (k + i - length words) 0)
