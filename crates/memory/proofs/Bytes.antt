-- Laws of lists that grow at their end, of a bound on every entry, and of a store that reads what was stored before.
-- Assumes nothing.
use mathlib.Core.Path.{◌≡◌, sym, ap, ap₂, ◌∙◌}
use mathlib.Core.List.{List, [], ◌∷◌, ◌++◌}
use Prim.Native.Nat.{ℕ, zero, suc, ◌+◌, ◌-◌, ◌≤◌, ◌<◌}
use native.Mathlib.Decide.{dec_lt}
use native.Mathlib.Omega.{arith}
use lib.ListN.{length, get_or, set, take}
use lib.Seq.{set-set, get_or-set_same, set_out, take_at, take-add}
use Rattle.memory.specs.Lists.{table, put}
use Rattle.memory.proofs.Lists.{length-table, table-add}
use Rattle.memory.proofs.Parts.{take_put, mid_put}

-- a bound on every entry, and on one entry more
pub get_or-snoc-lt : (m : ℕ) (x : List ℕ) (b : ℕ) → ((i : ℕ) → get_or x i 0 < m) → b < m → (i : ℕ) → get_or (x ++ (b ∷ [])) i 0 < m
get_or-snoc-lt m [] b h k zero = k
get_or-snoc-lt m [] b h k (suc i) = omega arith
get_or-snoc-lt m (a ∷ x) b h k zero = h 0
get_or-snoc-lt m (a ∷ x) b h k (suc i) = get_or-snoc-lt m x b (λ j. h (suc j)) k i

-- the start of a list given by its rule
pub take-table : (n k : ℕ) (f : ℕ → ℕ) → n ≤ k → take n (table k f) ≡ table n f
take-table n k f h =
    ap (λ (j : ℕ). take n (table j f)) (let e : k ≡ n + (k - n) = omega arith in e)
    ∙ ap (take n) (table-add n (k - n) f)
    ∙ take_at (table n f) (table (k - n) (λ i. f (n + i))) n (length-table n f)

-- a list up to the end of a part that was put into it
pub take_through : (old : List ℕ) (at : ℕ) (new : List ℕ) → at + length new ≤ length old → take (at + length new) (put old at new) ≡ take at old ++ new
take_through old at new h =
    take-add at (length new) (put old at new) ∙ ap₂ (λ (x y : List ℕ). x ++ y) (take_put old at new h) (mid_put old at new h)

-- a store of what is worked out from the entry that was just stored there
pub set_again : (l : List ℕ) (k u : ℕ) (f : ℕ → ℕ) → set (set l k u) k (f (get_or (set l k u) k 0)) ≡ set l k (f u)
set_again l k u f =
    elim (dec_lt k (length l)) as (λ d. set (set l k u) k (f (get_or (set l k u) k 0)) ≡ set l k (f u)) [
      | yes h ↦ set-set l k u _ ∙ ap (λ (y : ℕ). set l k (f y)) (get_or-set_same l k u 0 h)
      | no h ↦ set-set l k u _ ∙ set_out l k _ (omega arith) ∙ sym (set_out l k _ (omega arith))
    ]
