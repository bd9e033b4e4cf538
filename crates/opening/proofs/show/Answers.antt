-- `opening::show` meets its contract: the sections of the repetition with i before it are lent, and come back in their places.
-- Assumes nothing.
use mathlib.Core.Path.{◌∙◌}
use Prim.Native.Nat.{◌+◌, ◌*◌}
use native.Mathlib.Omega.{arith}
use Rattle.opening.specs.Shown.{leaf_under, shown_under}
use Rattle.opening.proofs.Showing.{part-put, section_size, under_part}
use Rattle.biscuit.proofs.Room.{hidden_from_one, hidden-within}
use Rattle.opening.proofs.show.Goals as goal

pub show_one-requires : goal.show_one-requires
show_one-requires c =
    let a = c.args in
    let h = c.requires in
    let e = c.hidden_party-h.ensures in
    let f = hidden_from_one a.l a.hidden.now (a.i + 1) in
    let t = hidden-within a.l a.hidden.now (a.i + 1) in
    (omega arith, omega arith, omega arith, omega arith, section_size _ _ a.l a.s (omega arith) (omega arith))

pub returns : goal.returns
returns c =
    let a = c.args in
    let h = c.requires in
    let one = c.show_one in
    let e = c.hidden_party-h.ensures in
    let w = a.l * a.s + 2 * a.s in record {
      shown = part-put a.out.now one.new.out _ (a.i * w) w h.6 one.auto.out
          (one.ensures.shown ∙ under_part (λ k r i. shown_under k a.salt.now (a.i + 1) a.l r i) a.roots.now (a.i * a.s) a.s _ _ h.5 e);
      leaf = part-put a.roots.now one.new.root _ (a.i * a.s) a.s h.5 one.auto.root
          (one.ensures.leaf ∙ under_part (λ k r i. leaf_under k a.salt.now (a.i + 1) a.l r i) a.roots.now (a.i * a.s) a.s _ _ h.5 e);
    }
