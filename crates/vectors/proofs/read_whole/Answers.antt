-- `vectors::read_whole` meets its contract: what lies in whole bytes is read two elements at a time.
-- Assumes nothing.
use native.Mathlib.Omega.{arith}
use Prim.Native.Nat.{ℕ, ◌+◌, ◌*◌, ◌/◌, ◌≤◌}
use lib.ListN.{length}
use Rattle.memory.proofs.Parts.{length-lent}
use Rattle.vectors.proofs.Elements.{read_part, whole_fits, whole_size, whole-even}
use Rattle.vectors.proofs.read_whole.Goals as goal

le-add : (i n : ℕ) → i ≤ i + n
le-add i n = omega arith

pub returns : goal.returns
returns c =
    let out = c.args.out.now in
    let i = c.args.i in
    let a = (c.args.at + i) / 2 in
    let w = c.lesser-w.result in
    let fits = whole_fits (length out) i _ w c.requires.1 c.lesser-w.ensures in (
      fits,
      read_part c.args.bytes.now c.args.at i a (a + w) (i + w * 2) _ out _ _ c.requires.1 (whole-even (c.args.at + i) c.if-at-i-eq1.false) (le-add i (w * 2)) (whole_size i a w)
          (length-lent out i (i + w * 2) (le-add i (w * 2)) fits) c.halves.ensures,
    )
