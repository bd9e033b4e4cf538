-- `turns::first::absorb_first` meets its contract: the commitments by the leaves, then Δs and Δc as they stand in the values.
-- Assumes nothing.
use mathlib.Core.Path.{ap₂, ◌∙◌}
use mathlib.Core.List.{List, ◌++◌}
use native.Mathlib.Omega.{arith}
use lib.ListN.{length-take}
use Prim.Native.Nat.{ℕ}
use Rattle.memory.proofs.Xors.{part-sized}
use Rattle.field.specs.Packing.{pack}
use Rattle.sponge.specs.Steps.{absorbed}
use Rattle.turns.proofs.Reading.{values_cut, length_values}
use Rattle.turns.proofs.Opening.{first-turned}
use Rattle.turns.proofs.first.absorb_first.Goals as goal

pub slice_bounds-absorb_corrections-end : goal.slice_bounds-absorb_corrections-end
slice_bounds-absorb_corrections-end c =
    let o = c.args.opened in let l = length_values o.repetition o.values.now o.holds in omega (arith, length-take {A = ℕ})

pub slice_bounds-absorb_corrections-end-2 : goal.slice_bounds-absorb_corrections-end-2
slice_bounds-absorb_corrections-end-2 c =
    let o = c.args.opened in let l = length_values o.repetition o.values.now o.holds in omega arith

pub returns : goal.returns
returns c =
    let o = c.args.opened in
    let parts = values_cut o.repetition o.values.now o.holds in
    first-turned o _ c.args.hash c.absorb_commitments-next.result _ c.requires.1 c.absorb_commitments-next.ensures
    (c.absorb_corrections.ensures ∙ ap₂ (λ (a b : List ℕ). absorbed c.absorb_commitments-next.result (pack a ++ pack b)) parts.first (part-sized o.values.now o.repetition.claim.p.n o.repetition.claim.p.m ∙ parts.second))
