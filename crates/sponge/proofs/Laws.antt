-- What callers cite of the sponge: pieces and turns, the standard's SHAKE256, lengths and bounds. The definitions stay shut for them.
-- Assumes nothing.
use mathlib.Core.Path.{◌≡◌, refl, sym, ap, ◌∙◌, subst}
use mathlib.Core.List.{List, ◌++◌}
use Prim.Native.Nat.{ℕ, suc, ◌+◌, ◌-◌, ◌/◌, ◌<◌}
use native.Mathlib.Omega.{arith}
use lib.ListN.{length, get_or, take, replicate}
use Rattle.sponge.specs.declared.Sponge.{Sponge}
use Rattle.sponge.specs.declared.Tape.{Tape}
use Rattle.sponge.specs.Sponge.{rate, padded, absorbing, squeezing, shake256}
use Rattle.sponge.specs.Steps.{fresh, absorbed, finished, given, moved}
use Rattle.sponge.proofs.Absorb as absorb
use Rattle.sponge.proofs.Squeeze as squeeze

-- absorbing in pieces is absorbing the whole
pub absorbed-append : (s : Sponge) (x y : List ℕ) → absorbed (absorbed s x) y ≡ absorbed s (x ++ y)
absorbed-append = absorb.absorbed-append

-- squeezing in turns is one long squeeze
pub given-append : (t : Tape) (m n : ℕ) → given t (m + n) ≡ given t m ++ given (moved t m) n
given-append = squeeze.given-append

pub moved-append : (t : Tape) (m n : ℕ) → moved (moved t m) n ≡ moved t (m + n)
moved-append = squeeze.moved-append

-- byte by byte is block by block: FIPS 202's SHAKE256
pub given-shake256 : (m : List ℕ) (n : ℕ) → given (finished (absorbed fresh m)) n ≡ shake256 m n
unfolding fresh shake256
given-shake256 m n =
    ap (λ (t : Tape). given t n) (absorb.finished-blocks (length m / rate) (replicate 25 0) m refl)
    ∙ squeeze.given-squeezing ((n - 1) / rate + 1) (absorbing (suc (length m / rate)) (replicate 25 0) (padded m)) n (omega arith)
    ∙ ap (λ (k : ℕ). take n (squeezing ((n - 1) / rate + 1) (absorbing k (replicate 25 0) (padded m)))) blocks
  where
    blocks : suc (length m / rate) ≡ length (padded m) / rate
    blocks = rw absorb.length-padded (omega arith)

-- lengths and bounds
pub length-given : (t : Tape) (n : ℕ) → length (given t n) ≡ n
length-given = squeeze.length-given

pub given-bytes : (t : Tape) (n i : ℕ) → get_or (given t n) i 0 < 256
given-bytes = squeeze.given-bytes

pub length-shake256 : (m : List ℕ) (n : ℕ) → length (shake256 m n) ≡ n
length-shake256 m n = ap length (sym (given-shake256 m n)) ∙ length-given (finished (absorbed fresh m)) n

pub shake256-bytes : (m : List ℕ) (n i : ℕ) → get_or (shake256 m n) i 0 < 256
shake256-bytes m n i = subst (λ (l : List ℕ). get_or l i 0 < 256) (given-shake256 m n) (given-bytes (finished (absorbed fresh m)) n i)
