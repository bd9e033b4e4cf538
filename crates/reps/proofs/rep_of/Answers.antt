-- `reps::rep_of` meets its contract. Assumes nothing.
use mathlib.Core.Path.{ap}
use Prim.Native.Nat.{ℕ}
use Rattle.sets.specs.Sets.{S}
use Rattle.reps.proofs.rep_of.Goals as goal

pub returns : goal.returns
unfolding S
returns c = ap (λ (g : ℕ). record { s = S c.args.p; n = c.args.p.n; m = c.args.p.m; e = c.args.e; hidden = c.args.hidden; groups = g }) c.groups_of.ensures
