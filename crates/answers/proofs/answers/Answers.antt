-- `answers::answers` meets its contract. The first pass absorbs every α and fills the room, and the rest absorbs every v and changes no byte of work.
-- Assumes nothing.
use mathlib.Core.Path.{refl, sym}
use Rattle.answers.specs.Passes.{circuit_of, leaves_of}
use Rattle.answers.proofs.Values.{sums_passed, vs_of_lem, all_answers}
use Rattle.answers.proofs.Turning.{zeros_sized, zeros_part, lent_same, folded_same}
use Rattle.answers.proofs.Work.{room-held}
use Rattle.answers.proofs.answers.Goals as goal

pub first_pass-first-requires : goal.first_pass-first-requires
first_pass-first-requires c =
    let z = c.requires.0.equations in
    let m = c.args.rep.m in
    (c.requires.1, zeros_sized 121 _ z, zeros_sized 121 _ z, zeros_sized 121 _ z, zeros_part 121 m, zeros_part 121 m, zeros_part 121 m, c.requires.5)

pub returns : goal.returns
returns c =
    let f = c.first_pass-first in
    let r = c.args.rep in
    let w = c.args.work.now in
    let v = c.args.values.now in record {
      absorbs = (λ P h en em ec.
          all_answers r (circuit_of r w) c.args.salt.now (leaves_of r w) v c.requires.3 c.requires.1 _ _ _ f.ensures.absorbs
          (c.finish.ensures _ _ _
          (λ alpha given d. vs_of_lem r (circuit_of r w) c.args.salt.now (leaves_of r w) v c.requires.3 c.requires.1 alpha given _ _ _ (sums_passed r (circuit_of r w) c.args.salt.now (leaves_of r w) v c.requires.3 c.requires.1 _ _ _ _ f.ensures.keeps)
          (folded_same _ _ _ _ _ _ _ _ _ _ refl (lent_same 121 c.args.rep.m f.new.sa c.requires.0.equations f.auto.sa) (lent_same 121 c.args.rep.m f.new.sy c.requires.0.equations f.auto.sy) (lent_same 121 c.args.rep.m f.new.sw c.requires.0.equations f.auto.sw) d))
          (room-held r f.new.work _ _ c.room_at-a.ensures (sym f.auto.work) _ _ f.ensures.keeps.kept)) P h en em ec);
      kept = f.ensures.kept;
      room = f.ensures.keeps.kept;
    }
