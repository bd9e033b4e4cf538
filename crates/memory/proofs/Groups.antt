-- Loops that change one entry a turn, each by its own rule: what holds of the entries passed, and that the others are as they were.
-- Assumes nothing.
use mathlib.Core.List.{List}
use mathlib.Core.Path.{◌≡◌, refl, sym, subst, ◌∙◌}
use Prim.Native.Nat.{ℕ, ◌+◌, ◌≤◌, ◌<◌}
use native.Mathlib.Omega.{arith}
use native.Mathlib.Decide.{ℕ_discrete}
use lib.ListN.{length, get_or, set, length-set}
use lib.Seq.{get_or-set_same, get_or-set_other}

-- the entries below k are related to the old ones by the rule R of their place, and the others are the old ones
pub record Stepped (R : ℕ → ℕ → ℕ → Type 0) (k : ℕ) (old new : List ℕ) : Type 0 where
  pub size : length new ≡ length old
  pub done : (j : ℕ) → j < k → R j (get_or old j 0) (get_or new j 0)
  pub rest : (j : ℕ) → k ≤ j → get_or new j 0 ≡ get_or old j 0

module _ (R : ℕ → ℕ → ℕ → Type 0) where
  pub stepped_none : (l : List ℕ) → Stepped R 0 l l
  stepped_none l = record { size = refl; done = λ j h. absurd (omega arith); rest = λ j h. refl }

  module _ (k : ℕ) (old new : List ℕ) (s : Stepped R k old new) where
    -- one entry more
    pub stepped_more : (v : ℕ) → k < length new → R k (get_or new k 0) v → Stepped R (k + 1) old (set new k v)
    stepped_more v h r = record {
      size = length-set new k v ∙ s.size;
      done = λ j g. elim (ℕ_discrete j k) as (λ d. R j (get_or old j 0) (get_or (set new k v) j 0)) [
        | yes e ↦ subst (λ (i : ℕ). R i (get_or old i 0) (get_or (set new k v) i 0)) (sym e)
            (subst (λ (x : ℕ). R k (get_or old k 0) x) (sym (get_or-set_same new k v 0 h)) (subst (λ (x : ℕ). R k x v) (s.rest k (omega arith)) r))
        | no e ↦ subst (λ (x : ℕ). R j (get_or old j 0) x) (sym (get_or-set_other new k j v 0 e)) (s.done j (omega arith))
      ];
      rest = λ j g. get_or-set_other new k j v 0 (λ e. omega arith) ∙ s.rest j (omega arith);
    }

    -- all of them
    pub stepped_all : length new ≤ k → (j : ℕ) → j < length old → R j (get_or old j 0) (get_or new j 0)
    stepped_all h j g = let e = s.size in s.done j (omega arith)
