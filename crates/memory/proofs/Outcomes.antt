-- Outcomes in which nothing failed, for the theorems on what promises settle. Assumes nothing.
use mathlib.Core.Path.{◌≡◌, sym, ap}
use Rattle.std.specs.Prelude.{Ok, Err, IsOk}
use Rattle.std.specs.declared.result.Result.{Result}
use Rattle.std.proofs.Common.{true≢false}

-- two results that are `Ok` are equal, where any two values are
pub ok_same : {A E : Type 0} → ((x y : A) → x ≡ y) → (r q : Result A E) → IsOk r → IsOk q → r ≡ q
ok_same same (Ok x) (Ok y) g h = ap Ok (same x y)
ok_same same (Ok x) (Err e) g h = absurd (true≢false (sym h))
ok_same same (Err e) q g h = absurd (true≢false (sym g))
