-- `turns::values::read_challenge` meets its contract: each repetition's challenge begins at a whole byte.
-- Assumes nothing.
use mathlib.Core.Path.{ap, ap₂, ◌∙◌}
use mathlib.Core.List.{List}
use Prim.Native.Nat.{ℕ, ◌-◌}
use lib.ListN.{take, drop}
use Rattle.forms.specs.Room.{challenge_in}
use Rattle.vectors.specs.Elements.{elements_at}
use Rattle.turns.proofs.Reading.{challenge_read}
use Rattle.turns.proofs.values.read_challenge.Goals as goal

pub returns : goal.returns
returns c =
    let r = c.args.repetition in
    let l = c.layout_of-layout.ensures in
    c.read_elements.ensures
    ∙ ap (elements_at _ _) c.requires.1
    ∙ challenge_read r.claim.p.m _ r.e
    ∙ ap (λ (b : List ℕ). challenge_in r.claim.p.m b r.e) (ap₂ (λ (i j : ℕ). take (j - i) (drop i c.args.work.now)) l.challenges l.end)
