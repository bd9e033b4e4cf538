-- `checking::check` is safe and ends: no line is longer than sixteen bytes. Assumes nothing.
use mathlib.Core.Path.{◌≡◌, sym, ap, ◌∙◌, subst}
use Prim.Native.Nat.{ℕ, ◌≤◌}
use native.Mathlib.Omega.{arith}
use lib.ListN.{length}
use lib.Seq.{length-take-le}
use Rattle.memory.proofs.Parts.{length_over}
use Rattle.report.proofs.Clips.{line_fits}
use Rattle.checking.proofs.check.Goals as goal

pub slice_bounds-line-end : goal.slice_bounds-line-end
slice_bounds-line-end g c =
    let w = c.clip_line-count in
    let f : w.result ≤ 16 = subst (λ (n : ℕ). n ≤ 16) (sym w.ensures.0) (line_fits _) in
    let k : length w.new.line ≡ 16 = ap length w.ensures.1 ∙ length_over _ _ in
    omega arith

pub slice_bounds-write_all-end : goal.slice_bounds-write_all-end
slice_bounds-write_all-end g c =
    let w = c.clip_line-count in
    let f : w.result ≤ 16 = subst (λ (n : ℕ). n ≤ 16) (sym w.ensures.0) (line_fits _) in
    let k : length w.new.line ≡ 16 = ap length w.ensures.1 ∙ length_over _ _ in
    sym (length-take-le w.result w.new.line (omega arith))
