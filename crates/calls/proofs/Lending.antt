-- The first bytes of an output or of work, lent to a routine and given back: what then stands in the whole. Every call lends in this way, `&mut x[0..k]`.
-- Assumes nothing.
use mathlib.Core.Path.{◌≡◌, sym, ap, ap₂, ◌∙◌, subst}
use mathlib.Core.Bool.{Bool, true, false, cond}
use mathlib.Core.List.{List, ◌++◌}
use Prim.Native.Nat.{ℕ, ◌-◌, ◌≤◌}
use native.Mathlib.Nat.{sub-zero}
use native.Mathlib.Omega.{arith}
use lib.ListN.{length, take, drop, replicate, take-append-drop}
use lib.Seq.{drop_at}
use Rattle.memory.specs.Lists.{over}
use Rattle.memory.proofs.Parts.{over_fits}
use Rattle.sets.specs.Sets.{params_of}
use Rattle.sets.specs.declared.Params.{Params}
use Rattle.refusals.specs.Refusals.{work_length, cleared}
use Rattle.biscuit.specs.Room.{Fits}
use Rattle.refusals.proofs.Refusals.{KnownSet}
use Rattle.biscuit.proofs.Parts.{length-first}
use Rattle.biscuit.proofs.Room.{fits}

-- ---- a set's parameters

-- the parameters that the code looked up keep the bounds
pub known_fits : (set : ℕ) (p : Params) → p ≡ params_of set → KnownSet set → Fits p
known_fits set p e k = subst Fits (sym e) (fits set k.from k.to)

-- ---- an output

-- k bytes are lent and come back as new: new is written over the whole
pub lent-over : (old new : List ℕ) (k : ℕ) → k ≤ length old → length new ≡ length (take (k - 0) old) → new ++ drop (k - 0) old ≡ over new old
lent-over old new k h e =
    ap (λ (i : ℕ). new ++ drop i old) (sub-zero k ∙ sym size) ∙ sym (over_fits new old (let s = size in omega arith))
  where
    size : length new ≡ k
    size = e ∙ length-first old k h

-- they come back as they were
pub lent-kept : (old new : List ℕ) (k : ℕ) → new ≡ take (k - 0) old → new ++ drop (k - 0) old ≡ old
lent-kept old new k e = ap (λ (l : List ℕ). l ++ drop (k - 0) old) e ∙ take-append-drop (k - 0) old

-- they come back as a result where the answer is yes, and as they were where it is no
pub lent-answered : (yes : Bool) (result old new : List ℕ) (k : ℕ) → new ≡ cond yes result (take (k - 0) old) → k ≤ length old → length new ≡ length (take (k - 0) old)
    → new ++ drop (k - 0) old ≡ cond yes (over result old) old
lent-answered true result old new k e h l = lent-over old new k h l ∙ ap (λ (x : List ℕ). over x old) e
lent-answered false result old new k e h l = lent-kept old new k e

-- ---- work

module _ (work u : List ℕ) (n : ℕ) (e : n ≡ work_length) (h : work_length ≤ length work) where
  inside : n ≤ length work
  inside = omega arith

  -- cleared, it holds nothing of u
  pub cleared-lent : length u ≡ length (take (n - 0) work) → cleared (u ++ drop (n - 0) work) ≡ cleared work
  unfolding cleared
  cleared-lent l =
      ap (λ (x : List ℕ). replicate work_length 0 ++ x)
      (drop_at u (drop (n - 0) work) work_length (l ∙ length-first work n inside ∙ e) ∙ ap (λ (i : ℕ). drop i work) (sub-zero n ∙ e))

  -- its first bytes lent and set to 0
  pub work-cleared : u ≡ replicate (length (take (n - 0) work)) 0 → u ++ drop (n - 0) work ≡ cleared work
  unfolding cleared
  work-cleared l =
      ap₂ (λ (x y : List ℕ). x ++ y) (l ∙ ap (λ (i : ℕ). replicate i 0) (length-first work n inside ∙ e)) (ap (λ (i : ℕ). drop i work) (sub-zero n ∙ e))
