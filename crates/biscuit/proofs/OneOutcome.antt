-- Each public function of this crate has one outcome: its promise is an equation to a definition of the arguments, for a record field by field.
-- The four calls themselves are in the crates `calls` and `desk`, and so are their theorems. Assumes nothing.
use mathlib.Core.Path.{◌≡◌, sym, ap, ◌∙◌}
use Prim.Native.Nat.{ℕ}
use Rattle.memory.specs.Outcome.{OneOutcome}
use Rattle.sets.specs.declared.Params.{Params}
use Rattle.biscuit.specs.declared.Layout.{Layout}
use Rattle.biscuit.specs.Room.{LayoutOf}
use Rattle.biscuit.proofs.layout_of as layout_of
use Rattle.biscuit.proofs.groups_of as groups_of
use Rattle.biscuit.proofs.packing_at as packing_at_lem

pub groups_of_one_outcome : OneOutcome groups_of.Kinds.ps groups_of.Kinds.r groups_of.Reads.Asked groups_of.Reads.Learnt
groups_of_one_outcome κs a good asked o q x y = ap (λ (z : ℕ). (z, (tt, tt))) (x.promised ∙ sym y.promised)

pub packing_at_one_outcome : OneOutcome packing_at_lem.Kinds.ps packing_at_lem.Kinds.r packing_at_lem.Reads.Asked packing_at_lem.Reads.Learnt
packing_at_one_outcome κs a good asked o q x y = ap (λ (z : ℕ). (z, (tt, tt))) (x.promised ∙ sym y.promised)

-- the places, as numbers, are fixed one by one
layout_fixed : {P : Params} {x y : Layout} → LayoutOf P x → LayoutOf P y → x ≡ y
layout_fixed p q = λ i. record {
  leaves = (p.leaves ∙ sym q.leaves) i;
  room = (p.room ∙ sym q.room) i;
  roots = (p.roots ∙ sym q.roots) i;
  challenges = (p.challenges ∙ sym q.challenges) i;
  end = (p.end ∙ sym q.end) i;
}

pub layout_of_one_outcome : OneOutcome layout_of.Kinds.ps layout_of.Kinds.r layout_of.Reads.Asked layout_of.Reads.Learnt
layout_of_one_outcome κs a good asked o q x y = ap (λ (l : Layout). (l, (tt, tt))) (layout_fixed x.promised y.promised)
