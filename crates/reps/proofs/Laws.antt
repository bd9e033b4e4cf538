-- What callers cite of a repetition's numbers: they are within the bounds of the routines, and there is a group. Assumes nothing.
use mathlib.Core.Path.{◌≡◌, sym, ap, ◌∙◌, subst}
use Prim.Native.Nat.{ℕ, ◌<◌}
use Rattle.sets.specs.declared.Params.{Params}
use Rattle.group.specs.declared.Rep.{Rep}
use Rattle.group.specs.Shares.{Sized}
use Rattle.biscuit.specs.Room.{Fits, groups}
use Rattle.biscuit.proofs.Room.{some-groups, few_groups}
use Rattle.reps.specs.Reps.{rep_of}

module _ (P : Params) (f : Fits P) (e h : ℕ) (rep : Rep) (same : rep ≡ rep_of P e h) where
  pub rep_sized : Sized rep
  rep_sized =
      subst (λ (q : Rep). Sized q) (sym same)
      (record { variables = f.variables; some = f.some; equations = f.equations; seed = f.seed; groups = few_groups P f })

  pub rep_some : 0 < rep.groups
  rep_some = subst (λ (q : Rep). 0 < q.groups) (sym same) (some-groups P)

  pub rep_one : groups P ≡ 1 → rep.groups ≡ 1
  rep_one one = ap (λ (q : Rep). q.groups) same ∙ one
