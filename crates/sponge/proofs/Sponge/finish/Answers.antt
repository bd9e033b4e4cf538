-- `sponge::Sponge::finish` meets its contract: the two bytes that it xors in and the permutation are those of `finished`.
-- Assumes nothing.
use mathlib.Core.Path.{◌∙◌, ap}
use mathlib.Core.List.{List}
use Prim.Native.Nat.{ℕ, ◌-◌}
use Rattle.keccak.specs.Keccak.{keccak_f}
use Rattle.sponge.specs.Sponge.{rate}
use Rattle.sponge.specs.Steps.{tape, xor_byte, finished}
use Rattle.sponge.proofs.Sponge.finish.Goals as goal

pub returns : goal.returns
unfolding finished
returns c = ap (λ (S : List ℕ). tape S 0) (c.permute.ensures ∙ ap keccak_f
    (c.xor_byte-2.ensures ∙ ap (λ (S : List ℕ). xor_byte S (rate - 1) 0x80) c.xor_byte.ensures))
