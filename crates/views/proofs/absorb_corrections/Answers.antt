-- `views::absorb_corrections` meets its contract: the two packed corrections are absorbed as one list.
-- Assumes nothing.
use mathlib.Core.Path.{ap, ◌∙◌}
use Rattle.field.specs.Packing.{pack}
use Rattle.sponge.specs.declared.Sponge.{Sponge}
use Rattle.sponge.specs.Steps.{absorbed}
use Rattle.sponge.proofs.Laws.{absorbed-append}
use Rattle.views.proofs.absorb_corrections.Goals as goal

pub returns : goal.returns
returns c =
    let a = c.args in
    c.absorb_packed-2.ensures
    ∙ ap (λ (x : Sponge). absorbed x (pack a.dc.now)) c.absorb_packed.ensures
    ∙ absorbed-append a.hash (pack a.ds.now) (pack a.dc.now)
