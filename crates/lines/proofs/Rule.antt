-- A list whose entries follow a rule, one more at a time, and the rule of a progression. Assumes nothing.
use mathlib.Core.Path.{◌≡◌, sym, ap, ap₂, ◌∙◌}
use mathlib.Core.List.{List, [], ◌∷◌, ◌++◌}
use Prim.Native.Nat.{ℕ, ◌+◌, ◌*◌, ◌%◌, ◌≤◌, ◌<◌}
use native.Mathlib.Decide.{dec_lt}
use native.Mathlib.Nat.{mul-suc}
use native.Mathlib.Numerals.{add-one}
use native.Mathlib.Omega.{arith}
use lib.ListN.{length, get_or, set, take, drop, get_or-eq_default}
use lib.Seq.{take_all, take-suc-set, drop-drop, drop-set-lt}
use Rattle.memory.specs.Lists.{table}
use Rattle.memory.proofs.Lists.{length-table, table-suc, get_or-table}

-- the entries before i follow the rule, and so does what is stored at i
pub rule_more : (f : ℕ → ℕ) (l : List ℕ) (i v : ℕ) → i < length l → take i l ≡ table i f → v ≡ f i → take (i + 1) (set l i v) ≡ table (i + 1) f
rule_more f l i v h before here =
    ap (λ (n : ℕ). take n (set l i v)) (add-one i)
    ∙ take-suc-set l i v h
    ∙ ap₂ (λ (x : List ℕ) (y : ℕ). x ++ (y ∷ [])) before here
    ∙ sym (ap (λ (n : ℕ). table n f) (add-one i) ∙ table-suc i f)

-- what is stored at i leaves the entries behind it
pub rest_more : (l old : List ℕ) (i v : ℕ) → drop i l ≡ drop i old → drop (i + 1) (set l i v) ≡ drop (i + 1) old
rest_more l old i v rest = drop-set-lt (i + 1) l i v (omega arith) ∙ sym (drop-drop 1 i l) ∙ ap (drop 1) rest ∙ drop-drop 1 i old

-- all entries follow it
pub rule_all : (f : ℕ → ℕ) (l : List ℕ) (i n : ℕ) → length l ≤ i → i ≡ n → take i l ≡ table i f → l ≡ table n f
rule_all f l i n h e before = sym (take_all i l h) ∙ before ∙ ap (λ (k : ℕ). table k f) e

-- where the rule stays below a bound, so does each entry, and those past the end, which are 0
pub rule_below : (f : ℕ → ℕ) (n b : ℕ) → 0 < b → ((i : ℕ) → f i < b) → (k : ℕ) → get_or (table n f) k 0 < b
rule_below f n b pos below k =
    elim (dec_lt k n) as (λ d. get_or (table n f) k 0 < b) [
      | yes y ↦ rw (get_or-table n f k y) (below k)
      | no y ↦ let l = length-table n f in rw (get_or-eq_default (table n f) 0 {n = k} (omega arith)) pos
    ]

-- the next of a progression
pub progression_next : (step start i x : ℕ) → x ≡ (step * i + start) % 256 → (x + step) % 256 ≡ (step * (i + 1) + start) % 256
progression_next step start i x e = let d : step * (i + 1) ≡ step * i + step = rw (add-one i) (mul-suc step i) in omega arith
