-- What the promise of the one public function of this crate settles, whatever it reads from: it hands no value back and changes nothing that is lent, so that any two of its outcomes in which it did not fail are
-- equal. Whether reading or printing fails is for no promise to say, and what it reads and prints is no part of it: no contract can speak of what is read from a file or written to one. Assumes nothing.
use mathlib.Core.Path.{refl, ap}
use denote.RattleType.{RattleType}
use denote.Param.Laws.{Laws}
use mir.Syntax.{Dict}
use Rattle.std.specs.Prelude.{IsOk}
use Rattle.std.specs.declared.io.traits.Read.{Ghosts}
use Rattle.memory.specs.Outcome.{OneOutcomeWhere}
use Rattle.memory.proofs.Outcomes.{ok_same}
use Rattle.checking.proofs.check as check

pub check_one_outcome :
    (T : RattleType) (L : Laws T) (R : Ghosts T.Denot) (d e : Dict)
    → OneOutcomeWhere (check.Kinds.ps T L) (check.Kinds.r T L) (check.Reads.Asked T L R d e) (check.Reads.Learnt T L R d e) (λ κs a o. IsOk o.0)
check_one_outcome T L R d e κs a good asked o q x y g h = ap (λ r. (r, o.1)) (ok_same (λ x y. refl) o.0 q.0 g h)
