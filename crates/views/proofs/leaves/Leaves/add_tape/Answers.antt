-- `views::add_tape` meets its contract: the leaf is a part of the leaves, by its size.
-- Assumes nothing.
use mathlib.Core.Path.{ap, ◌∙◌}
use mathlib.Core.List.{List}
use Prim.Native.Nat.{ℕ, ◌+◌}
use lib.ListN.{length}
use Rattle.field.specs.Vectors.{◌⊕◌}
use Rattle.hashes.specs.Hashes.{expand_tape}
use native.Mathlib.Omega.{arith}
use Rattle.views.proofs.Entries.{added-tape}
use Rattle.views.proofs.leaves.Leaves.add_tape.Goals as goal

pub returns : goal.returns
returns c =
    let a = c.args in
    added-tape a.self.of.salt.now _ a.self.of.e (a.i + 1) _ c.tape.new.out a.sums.now _ (omega arith) c.tape.ensures c.add.ensures
    ∙ ap (λ (x : List ℕ). a.sums.now ⊕ expand_tape a.self.of.salt.now a.self.of.e (a.i + 1) x (length a.sums.now)) c.leaf.ensures.0
