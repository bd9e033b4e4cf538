-- `views::commit_at` meets its contract: at the party whose commitment is given that one, at every other that to its leaf.
-- Assumes nothing.
use mathlib.Core.Path.{◌≡◌, sym, ap, ap₂, ◌∙◌}
use mathlib.Core.List.{List}
use Prim.Native.Nat.{ℕ, ◌+◌, ◌*◌}
use lib.ListN.{take, drop}
use Rattle.sponge.specs.Steps.{absorbed}
use Rattle.hashes.specs.Hashes.{commit}
use Rattle.views.specs.Views.{given_in}
use Rattle.views.proofs.Absorbing.{given_is, given_another, given_none}
use Rattle.views.proofs.leaves.Leaves.commit_at.Goals.{in_default-via-in-Some+else-known-i, in_default-via-in_default}
use Rattle.views.proofs.leaves.Leaves.commit_at.Goals as goal

pub returns-in-Some : goal.returns-in-Some
returns-in-Some c =
    let a = c.args in
    c.absorb.ensures ∙ ap (absorbed a.hash) (sym (given_is a.given _ (a.i + 1) _ _ c.in-Some.is c.if-known-i.true))

pub returns-in_default : goal.returns-in_default
returns-in_default c =
    let a = c.args in
    let own = commit a.self.size a.self.of.salt.now a.self.of.e in
    let leaf = take a.self.size (drop (a.i * a.self.size) a.self.seeds.now) in
    let unknown : given_in a.given own (a.i + 1) leaf ≡ own (a.i + 1) leaf =
    elim c.in_default.branch [
      | in_default-via-in-Some+else-known-i w ↦ given_another a.given _ (a.i + 1) own leaf w.in-Some.is w.if-known-i.false
      | in_default-via-in_default w ↦ given_none a.given (a.i + 1) own leaf w.in_default.is
    ] in
    c.commit_seed.ensures
    ∙ ap (absorbed a.hash) (ap₂ (λ (n : ℕ) (x : List ℕ). commit n a.self.of.salt.now a.self.of.e (a.i + 1) x) c.leaf.ensures.1 c.leaf.ensures.0 ∙ sym unknown)
