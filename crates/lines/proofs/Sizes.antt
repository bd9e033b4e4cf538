-- Sizes that are products, for the proofs of the test programs. Assumes nothing.
use mathlib.Core.Path.{◌≡◌}
use Prim.Native.Nat.{ℕ, ◌*◌}

-- k seeds of s bytes, where a seed has s bytes
pub seeds : (k s : ℕ) {n r : ℕ} → n ≡ k * s → r ≡ s → n ≡ k * r
seeds k s h e = cc
