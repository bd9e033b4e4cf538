-- What words hold after a call: the values of the forms at the shares of sixteen parties, a party to a lane (algorithm 9 of the submission, lines 2 to 6, without the constants).
-- Assumes nothing.
use Rattle.std.specs.Prelude.{List, ℕ}
use Rattle.field.specs.Vectors.{◌!◌}
use Rattle.lanes.specs.Lanes.{Holds}
use Rattle.forms.specs.Circuit.{Circuit, linear}

-- the words x, y and z hold in lane q the forms A1, A2 and A0 without their constants, at the share of party q
pub record HoldsForms (f : Circuit) (share : ℕ → List ℕ) (x y z : List ℕ) : Type 0 where
  pub A1 : Holds (λ q k. linear f.A1 (share q) ! k) x
  pub A2 : Holds (λ q k. linear f.A2 (share q) ! k) y
  pub A0 : Holds (λ q k. linear f.A0 (share q) ! k) z
