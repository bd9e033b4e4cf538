-- `passes::commit_turn` meets its contract: the leaves that are planted are the seeds of the parties. Assumes nothing.
use mathlib.Core.Path.{ap, ◌∙◌}
use native.Mathlib.Omega.{arith}
use lib.ListN.{length}
use Rattle.passes.proofs.Bounds.{inside}
use Rattle.passes.proofs.Planting.{planted_part, length_planted}
use Rattle.passes.proofs.Committing.{committed_seeds}
use Rattle.passes.proofs.commit_turn.Goals as goal

pub slice_bounds-commit_leaves-count : goal.slice_bounds-commit_leaves-count
slice_bounds-commit_leaves-count c = (inside _ _ c.args.turn.basis.fits c.layout_of-map.ensures).leaves

pub slice_bounds-commit_leaves-start : goal.slice_bounds-commit_leaves-start
slice_bounds-commit_leaves-start c = (inside _ _ c.args.turn.basis.fits c.layout_of-map.ensures).leaves

pub slice_bounds-commit_leaves-end : goal.slice_bounds-commit_leaves-end
slice_bounds-commit_leaves-end c = let i = inside _ _ c.args.turn.basis.fits c.layout_of-map.ensures in omega arith

pub commit_leaves-requires : goal.commit_leaves-requires
commit_leaves-requires c =
    let t = c.args.turn in
    let b = t.basis in
    let h = c.requires in (
      ap length (planted_part b.p b.fits b.salt.now c.args.work.now h.1 t.e t.counted t.within _ _ c.layout_of-map.ensures c.plant.ensures)
          ∙ length_planted b.p b.fits b.salt.now c.args.work.now h.1 t.e t.counted t.within,
      h.0,
    )

pub returns-clause-commits : goal.returns-clause-commits
returns-clause-commits c =
    let t = c.args.turn in
    let b = t.basis in
    committed_seeds b.p b.fits b.salt.now c.args.work.now c.requires.1 t.e t.counted t.within _ _ c.layout_of-map.ensures c.plant.ensures _ _ _ _ _ c.commit_leaves.ensures
