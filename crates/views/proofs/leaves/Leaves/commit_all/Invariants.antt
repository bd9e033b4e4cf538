-- `views::commit_all` meets its contract. The invariant: the hash has absorbed the commitments of the first i parties. It is said of every sponge from which
-- the first turn can have come, since the code does not hold the one it began with. Assumes nothing.
use mathlib.Core.Path.{◌≡◌}
use mathlib.Core.List.{flatten}
use lib.ListN.{take}
use Rattle.memory.specs.Sections.{pieces}
use Rattle.sponge.specs.declared.Sponge.{Sponge}
use Rattle.sponge.specs.Steps.{absorbed}
use Rattle.hashes.specs.Hashes.{commit}
use Rattle.parties.specs.Parties.{parties}
use Rattle.views.specs.Views.{given_in}
use Rattle.views.proofs.leaves.Leaves.commit_all.Given as goal

abbrev pub invariant-loop-i : goal.invariant-loop-i
invariant-loop-i l =
    (s : Sponge) → l.initial.next ≡ absorbed s (flatten (take 1 (parties (given_in l.given (commit l.self.size l.self.of.salt.now l.self.of.e)) (pieces l.self.size l.self.count l.self.seeds.now))))
    → l.next ≡ absorbed s (flatten (take l.i (parties (given_in l.given (commit l.self.size l.self.of.salt.now l.self.of.e)) (pieces l.self.size l.self.count l.self.seeds.now))))
