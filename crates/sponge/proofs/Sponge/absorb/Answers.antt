-- `sponge::Sponge::absorb` meets its contract. The loop's invariant: absorbing what is left makes the same sponge as absorbing all of the bytes,
-- and the place is in the block. A turn takes as many bytes as the block has room for (`absorb_turn`). The measure is how many are left.
-- Assumes nothing.
use mathlib.Core.Path.{◌≡◌, ap, sym, ◌∙◌}
use mathlib.Core.List.{List}
use Prim.Native.Nat.{ℕ, ◌%◌}
use lib.ListN.{length}
use Rattle.std.proofs.Common.{rules}
use Rattle.sponge.specs.declared.Sponge.{Sponge}
use Rattle.sponge.specs.Sponge.{rate}
use Rattle.sponge.specs.Steps.{sponge, within, absorbed, xor_bytes}
use Rattle.sponge.proofs.Absorb.{absorbed_none, absorbed-within, turned-place, absorb_turn}
use Rattle.sponge.proofs.Sponge.absorb.Goals as goal

whole : (s : Sponge) (x : List ℕ) → absorbed (sponge s.lanes (s.at % rate)) x ≡ absorbed s x
unfolding within
whole s x = absorbed-within s x

pub loop-rest-preserved : goal.loop-rest-preserved
loop-rest-preserved c =
    let l = c.loop-rest in
    let part = c.split_at in
    let t = c.turn-at in
    let r = sponge t.new.lanes t.result in (
      turned-place _ _ r t.ensures.sponge,
      ap (absorbed r) part.ensures.back
          ∙ absorb_turn l.lanes l.rest.now l.at _ _ r l.invariant.0 c.lesser-n.ensures (c.xor.ensures ∙ ap (xor_bytes l.lanes l.at) part.ensures.front) t.ensures.sponge
          ∙ l.invariant.1,
    )

pub returns : goal.returns
returns c =
    let l = c.loop-rest in
    let none : length l.rest.now ≡ 0 = search rules in
    sym (absorbed_none l.lanes l.at l.rest.now l.invariant.0 none) ∙ l.invariant.1 ∙ whole c.args.self c.args.bytes.now
