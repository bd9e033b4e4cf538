-- Laws for loops over a list: the part that is still to be written, and the next of rows of one width.
-- Assumes nothing.
use mathlib.Core.Path.{◌≡◌, sym, ap, ◌∙◌}
use mathlib.Core.List.{List, ◌++◌}
use Prim.Native.Nat.{ℕ, ◌+◌, ◌*◌, ◌≤◌}
use native.Mathlib.Nat.{suc-mul, add-zero}
use native.Mathlib.Numerals.{add-one}
use lib.ListN.{length, get_or, take, drop}
use lib.Seq.{get_or-append-add, get_or-drop, length-take-le}

-- the entry that is written next is still the old one
pub copied_rest : (src dst : List ℕ) (k : ℕ) → k ≤ length src → get_or (take k src ++ drop k dst) k 0 ≡ get_or dst k 0
copied_rest src dst k h =
    ap (λ (j : ℕ). get_or (take k src ++ drop k dst) j 0) (sym (length-take-le k src h) ∙ sym (add-zero (length (take k src))))
    ∙ get_or-append-add (take k src) (drop k dst) 0 0
    ∙ get_or-drop k dst 0 0
    ∙ ap (λ (j : ℕ). get_or dst j 0) (add-zero k)

-- one row more
pub next_row : (k width : ℕ) → (k + 1) * width ≡ k * width + width
next_row k width = ap (λ (n : ℕ). n * width) (add-one k) ∙ suc-mul k width
