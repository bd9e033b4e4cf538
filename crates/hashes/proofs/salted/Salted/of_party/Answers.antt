-- `hashes::of_party` meets its contract: the numbers' bytes are `enc16` of each, one after another.
-- Assumes nothing.
use mathlib.Core.Path.{ap, ◌∙◌}
use mathlib.Core.List.{List, ◌∷◌, ◌++◌}
use Prim.Native.Nat.{ℕ}
use lib.ListN.{length}
use Rattle.sponge.specs.Sponge.{shake256}
use Rattle.hashes.proofs.Laws.{two_numbers}
use Rattle.hashes.proofs.salted.Salted.of_party.Goals as goal

pub returns : goal.returns
returns c =
    let a = c.args in
    c.fields.ensures
    ∙ ap (λ (x : List ℕ). shake256 (a.byte ∷ (a.self.salt.now ++ x)) (length a.out.now)) (two_numbers _ _ _ _ a.seed.now c.enc16-e.ensures c.enc16-i.ensures)
