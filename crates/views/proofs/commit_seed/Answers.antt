-- `views::commit_seed` meets its contract: what is absorbed is the part of the room that was filled.
-- Assumes nothing.
use mathlib.Core.Path.{refl}
use native.Mathlib.Omega.{arith}
use Rattle.views.proofs.Absorbing.{absorbed-commitment}
use Rattle.views.proofs.commit_seed.Goals as goal

pub returns : goal.returns
returns c =
    let a = c.args in
    let m = c.commit in
    absorbed-commitment a.of.salt.now a.seed.now a.of.e a.i _ _ m.new.out a.hash _ refl (omega arith) m.ensures c.absorb.ensures
