-- How large the shown sections of a signature are at most: no place in them is too large a number. Assumes nothing.
use Prim.Native.Nat.{◌+◌, ◌*◌, ◌≤◌}
use native.Mathlib.Nat.{mul-le-mul}
use native.Mathlib.Omega.{arith}
use Rattle.sets.specs.Sets.{S}
use Rattle.sets.specs.declared.Params.{Params}
use Rattle.biscuit.specs.Room.{Fits}

module _ (P : Params) (f : Fits P) where
  -- path and commitment of one repetition
  pub shown_small : P.l * S P ≤ 256
  shown_small = let a = mul-le-mul {n₁ = P.l} {m₁ = S P} {n₂ = 8} {m₂ = 32} f.levels f.seed in omega arith

  pub all_shown_small : P.tau * (P.l * S P + 2 * S P) ≤ 23360
  all_shown_small =
      let a = shown_small in
      let s = f.seed in
      let b = mul-le-mul {n₁ = P.tau} {m₁ = P.l * S P + 2 * S P} {n₂ = 73} {m₂ = 320} f.repetitions (omega arith) in
      omega arith
