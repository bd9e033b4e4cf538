-- `turns::second::absorb_second` meets its contract: circuit and leaves lie in the part of work that the answers are lent, and behind it nothing changes.
-- Assumes nothing.
use mathlib.Core.Path.{refl, ap, ◌∙◌}
use native.Mathlib.Omega.{arith}
use Prim.Native.Nat.{ℕ}
use lib.ListN.{length-take}
use Rattle.biscuit.specs.Verify.{f}
use Rattle.biscuit.proofs.Room.{mapped}
use Rattle.sponge.specs.Steps.{absorbed}
use Rattle.turns.specs.Turns.{key_of}
use Rattle.turns.proofs.Reading.{length_values, values-elements}
use Rattle.turns.proofs.Turning.{rooms_length, rooms_circuit, rooms_leaves, rooms_back_front, rooms_back_held, rooms_back_rest}
use Rattle.turns.proofs.Opening.{answered_by}
use Rattle.reps.proofs.Laws.{rep_sized, rep_some}
use Rattle.turns.proofs.Answering.{rep_variables, rep_equations, rep_values, rep_circuit, rep_leaves, rep_front, rep_rooms, rep_holds}
use Rattle.turns.proofs.second.absorb_second.Goals as goal

pub slice_bounds-answers-end-2 : goal.slice_bounds-answers-end-2
slice_bounds-answers-end-2 c = let m = mapped c.args.opened.repetition.claim.p in omega (arith, length-take {A = ℕ})

pub answers-requires : goal.answers-requires
answers-requires c =
    let o = c.args.opened in
    let p = o.repetition.claim.p in
    let fit = o.repetition.claim.fits in
    let r = c.rep_of-rep.ensures in (
      rep_sized p fit _ _ _ r,
      rep_some p fit _ _ _ r,
      c.salt.ensures.short,
      rep_values p fit _ _ _ r o.values.now (length_values o.repetition o.values.now o.holds),
      values-elements o.repetition o.values.now o.holds,
      rooms_length p c.args.work.now c.requires.0 _ c.layout_of-layout.ensures.roots ∙ rep_rooms p fit _ _ _ r,
    )

pub returns : goal.returns
returns c =
    let o = c.args.opened in
    let claim = o.repetition.claim in
    let p = claim.p in
    let fit = claim.fits in
    let w = c.args.work.now in
    let l = c.layout_of-layout.ensures.roots in
    let r = c.rep_of-rep.ensures in
    let a = c.answers in record {
      answered = a.ensures.absorbs p (f p (key_of claim)) (rep_variables p fit _ _ _ r) (rep_equations p fit _ _ _ r)
          (rep_holds p fit _ _ _ r (f p (key_of claim)) _ _ (rooms_circuit p w c.requires.0 _ l _ (rep_circuit p fit _ _ _ r)) c.requires.1)
          ∙ ap (absorbed c.args.hash)
          (answered_by o claim refl _ _ _ r c.salt.ensures.is (rooms_leaves p w c.requires.0 _ l _ _ (rep_circuit p fit _ _ _ r) (rep_leaves p fit _ _ _ r) ∙ c.requires.2));
      left = record {
        front = rooms_back_front p w c.requires.0 _ l a.new.work a.auto.work _ (rep_front p fit _ _ _ r) a.ensures.kept;
        room = rooms_back_held p w c.requires.0 _ l a.new.work a.auto.work _ _ _ _ _ r c.salt.ensures.is (rep_circuit p fit _ _ _ r) (rep_leaves p fit _ _ _ r) a.ensures.room;
        rest = rooms_back_rest p w c.requires.0 _ l a.new.work a.auto.work;
      };
    }
