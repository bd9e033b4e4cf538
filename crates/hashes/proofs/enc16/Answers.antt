-- `hashes::enc16` meets its contract: the two bytes of x modulo 65536 are those of x.
-- Assumes nothing.
use mathlib.Core.Path.{◌≡◌, ap₂, ◌∙◌}
use mathlib.Core.List.{[], ◌∷◌}
use Prim.Native.Nat.{ℕ, ◌/◌, ◌%◌}
use native.Mathlib.Omega.{arith}
use Rattle.hashes.specs.Hashes.{enc16}
use Rattle.hashes.proofs.enc16.Goals as goal

pub returns : goal.returns
unfolding enc16
returns c =
    let x = c.args.x in
    let low : x % 65536 % 256 ≡ x % 256 = omega arith in
    let high : x % 65536 / 256 % 256 ≡ x / 256 % 256 = omega arith in
    c.to_le_bytes.ensures ∙ ap₂ (λ (a b : ℕ). a ∷ b ∷ []) low high
