-- `answers::first::taken_at` meets its contract. The part of the group is lent from the work, and what lies in front of it stays.
-- Assumes nothing.
use mathlib.Core.Path.{ap}
use native.Mathlib.Omega.{arith}
use Prim.Native.Nat.{ℕ, ◌+◌, ◌*◌}
use Rattle.memory.proofs.Lists.{room}
use Rattle.answers.specs.Passes.{room_at}
use Rattle.answers.proofs.Turning.{turn_done}
use Rattle.answers.proofs.Work.{part_back, front_back}
use Rattle.answers.proofs.first.taken_at.Goals as goal

pub returns : goal.returns
returns c =
    let a = c.room_at in
    let e = a.ensures in
    let l = c.requires.8 in
    let t = c.taken in record {
      turned = (λ circuit salt leaves values size held.
          turn_done c.args.rep c.args.g circuit salt leaves values _ _ _ _ _ _ _ _ _ _ _ _ _ (part_back c.args.work.now (a.result + c.args.g * (16 * c.args.rep.m)) (16 * c.args.rep.m) (omega (arith, room c.args.g c.args.rep.groups (16 * c.args.rep.m) c.requires.1)) t.new.part (room_at c.args.rep + c.args.g * (16 * c.args.rep.m)) (ap (λ (k : ℕ). k + c.args.g * (16 * c.args.rep.m)) e) t.auto.part) c.requires.2 size c.requires.1 held t.ensures);
      kept = front_back c.args.work.now (a.result + c.args.g * (16 * c.args.rep.m)) (16 * c.args.rep.m) (omega (arith, room c.args.g c.args.rep.groups (16 * c.args.rep.m) c.requires.1)) t.new.part (room_at c.args.rep + c.args.g * (16 * c.args.rep.m)) (ap (λ (k : ℕ). k + c.args.g * (16 * c.args.rep.m)) e) t.auto.part;
    }
