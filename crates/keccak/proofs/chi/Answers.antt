-- `keccak::chi` meets its contract: its 25 lanes are those of the second form of χ, as written.
-- Assumes nothing.
use borrow.Author.Rules.{rules}
use Rattle.keccak.specs.Keccak.{inverse}
use Rattle.keccak.specs.Lanes.{listed}
use Rattle.keccak.proofs.Turned.{turned_χ, χ-second}
use Rattle.keccak.proofs.chi.Goals as goal

pub returns : goal.returns
unfolding listed χ-second inverse
returns c = turned_χ _ (search rules)
