-- `vectors::read_elements` meets its contract: what its three parts read, one behind the other, is all.
-- Assumes nothing.
use mathlib.Core.Path.{subst, ◌∙◌}
use Prim.Native.Nat.{ℕ}
use lib.ListN.{length}
use Rattle.vectors.specs.Elements.{ReadTo}
use Rattle.vectors.proofs.Elements.{read_all}
use Rattle.vectors.proofs.read_elements.Goals as goal

pub returns : goal.returns
returns c =
    let first = c.read_first-i in
    let whole = c.read_whole-f in
    let rest = c.read_rest in
    let before = whole.auto.out ∙ first.auto.out in
    let done = rest.ensures (whole.ensures.1 first.ensures.1) in
    read_all c.args.bytes.now c.args.at (length c.args.out.now) _ (rest.auto.out ∙ before) (subst (λ (n : ℕ). ReadTo c.args.bytes.now c.args.at n rest.new.out) before done)
