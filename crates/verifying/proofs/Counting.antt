-- How many pairs of repetitions are taken: no more than there are repetitions, and none unless a repetition has sixteen parties.
-- Assumes nothing.
use mathlib.Core.Path.{◌≡◌, sym, ap}
use mathlib.Core.Bool.{Bool, cond}
use Prim.Native.Nat.{ℕ, ◌*◌, ◌/◌, ◌≤◌, ◌<◌}
use native.Mathlib.Decide.{ℕ_discrete}
use native.Mathlib.Omega.{arith}
use borrow.Author.Tests.{eq-eqb, ne_eqb}
use Rattle.sets.specs.declared.Params.{Params}
use Rattle.biscuit.specs.Room.{groups}
use Rattle.verifying.specs.Hashed.{pair_count}

module _ (P : Params) where
  pub pairs_of_sixteen : groups P ≡ 1 → P.tau / 2 ≡ pair_count P
  unfolding pair_count
  pairs_of_sixteen one = sym (ap (λ (t : Bool). cond t (P.tau / 2) 0) (eq-eqb (groups P) 1 one))

  pub pairs_of_more : (groups P ≡ 1 → ⊥) → 0 ≡ pair_count P
  unfolding pair_count
  pairs_of_more more = sym (ap (λ (t : Bool). cond t (P.tau / 2) 0) (ne_eqb (groups P) 1 more))

  pub pairs_within : 2 * pair_count P ≤ P.tau
  pairs_within = elim (ℕ_discrete (groups P) 1) as (λ d. 2 * pair_count P ≤ P.tau) [
    | yes one ↦ (let q = pairs_of_sixteen one in omega arith)
    | no more ↦ (let q = pairs_of_more more in omega arith)
  ]

  -- where a pair is taken
  pub pair_sixteen : (i : ℕ) → i < pair_count P → groups P ≡ 1
  pair_sixteen i h = elim (ℕ_discrete (groups P) 1) as (λ d. groups P ≡ 1) [
    | yes one ↦ one
    | no more ↦ (let q = pairs_of_more more in absurd (omega arith))
  ]
