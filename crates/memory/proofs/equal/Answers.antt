-- `memory::equal` meets its contract. The invariant: both are the same exactly where `difference` is 0 and what is left of them is the same.
-- Assumes nothing.
use mathlib.Core.Path.{sym, ap, ◌∙◌}
use mathlib.Core.Logic.{inl, inr}
use Rattle.memory.proofs.Comparing.{same_lengths, left-all, left-less, left-none}
use Rattle.memory.proofs.equal.Goals as goal

pub returns-then-a-b : goal.returns-then-a-b
returns-then-a-b c = sym (same_lengths _ _ c.if-a-b.true)

pub loop-x-init : goal.loop-x-init
loop-x-init c =
    let zip = c.zip-x-items.ensures in
    let same = c.into_iter-x-iterator.ensures.into_iter_gives in
    left-all _ _ _ _ c.if-a-b.false (ap (λ z. z.a.rest.now) same ∙ ap (λ i. i.rest.now) zip.first ∙ c.iter.ensures.rest) (ap (λ z. z.b.rest.now) same ∙ zip.second.0)

pub loop-x-preserved : goal.loop-x-preserved
loop-x-preserved c = left-less _ _ _ _ _ _ _ _ _ c.loop-x.invariant c.in-Some.ensures.steps.0 c.in-Some.ensures.steps.1

pub returns : goal.returns
returns c =
    let inv = c.loop-x.invariant in
    left-none _ _ _ _ _ inv (elim c.in-None.ensures.steps [ inl e ↦ e.1.0 | inr e ↦ inv.0 ∙ e.1.0 ])
