-- The walk over the lanes by which FIPS 202, section 3.2.2, gives the offsets of ρ. Table 2 lists what comes of it, and proofs/Offsets.antt shows that.
-- Assumes nothing.
use Rattle.std.specs.Prelude.{ℕ, zero, suc, ◌+◌, ◌*◌, ◌/◌, ◌%◌}

-- 3.2.2, step 3b: from (x, y) to (y, (2x + 3y) mod 5)
unfoldable pub onward : ℕ × ℕ → ℕ × ℕ
onward p = (p.1, (2 * p.0 + 3 * p.1) % 5)

-- 3.2.2, steps 2 and 3b: the lane (x, y) at t
unfoldable pub walk : ℕ → ℕ × ℕ
walk zero = (1, 0)
walk (suc t) = onward (walk t)

-- 3.2.2, step 3a: the offset at t
unfoldable pub shift : ℕ → ℕ
shift t = (t + 1) * (t + 2) / 2
