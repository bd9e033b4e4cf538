-- `hashes::children` meets its contract: the numbers' bytes are `enc16` of each, one after another.
-- Assumes nothing.
use mathlib.Core.Path.{ap, ◌∙◌}
use mathlib.Core.List.{List, ◌∷◌, ◌++◌}
use Prim.Native.Nat.{ℕ}
use lib.ListN.{length}
use Rattle.sponge.specs.Sponge.{shake256}
use Rattle.hashes.specs.Hashes.{child_fields, child_seed}
use Rattle.hashes.proofs.Laws.{three_numbers}
use Rattle.hashes.proofs.salted.Salted.children.Goals as goal

pub returns : goal.returns
unfolding child_fields
returns c =
    let a = c.args in
    c.fields.ensures
    ∙ ap (λ (x : List ℕ). shake256 (child_seed ∷ (a.self.salt.now ++ x)) (length a.out.now))
    (three_numbers _ _ _ _ _ _ a.seed.now c.enc16-e.ensures c.enc16-k.ensures c.enc16-j.ensures)
