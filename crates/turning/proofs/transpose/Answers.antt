-- `turning::transpose` meets its contract: the four stages together exchange the number of a lane and that of its word.
-- Assumes nothing.
use mathlib.Core.Path.{subst⁻¹, ◌∙◌}
use native.Mathlib.Omega.{arith}
use Rattle.memory.proofs.Stores.{over-whole}
use borrow.Author.Rules.{rules}
use Rattle.turning.specs.Turns.{Transposed}
use Rattle.turning.proofs.Stages.{four_stages, stage8, stage4, stage2, stage1}
use Rattle.turning.proofs.transpose.Goals as goal

pub stage-a-requires : goal.stage-a-requires
stage-a-requires c = (c.requires.0, stage8)

pub stage-b-requires : goal.stage-b-requires
stage-b-requires c = (search rules, stage4)

pub stage-c-requires : goal.stage-c-requires
stage-c-requires c = (search rules, stage2)

pub stage-d-requires : goal.stage-d-requires
stage-d-requires c = (search rules, stage1)

pub returns : goal.returns
returns c =
    let x = c.args.x.now in
    subst⁻¹ (Transposed x) (c.copy_words.ensures ∙ over-whole _ _ (omega arith))
    (four_stages x _ _ _ _ c.stage-a.ensures c.stage-b.ensures c.stage-c.ensures c.stage-d.ensures)
