-- `hashes::fields` meets its contract: what is hashed is the part of the block that was assembled, and behind it the block is still 0.
-- Assumes nothing.
use mathlib.Core.Path.{ap, ◌∙◌}
use mathlib.Core.List.{List}
use Prim.Native.Nat.{ℕ}
use lib.ListN.{length}
use native.Mathlib.Omega.{arith}
use Rattle.sponge.specs.Sponge.{shake256}
use Rattle.hashes.proofs.Laws.{behind_fields, only_fields}
use Rattle.hashes.proofs.fields.Goals as goal

pub short-requires : goal.short-requires
short-requires c =
    let a = c.args in
    let m = c.assemble-n in
    (omega (arith, m.ensures.0), m.auto.block, behind_fields a.byte a.salt.now a.numbers.now a.seed.now _ 136 m.result m.ensures.0 m.ensures.1)

pub returns : goal.returns
returns c =
    let a = c.args in
    let m = c.assemble-n in
    c.short.ensures
    ∙ ap (λ (x : List ℕ). shake256 x (length a.out.now)) (only_fields a.byte a.salt.now a.numbers.now a.seed.now _ 136 m.result m.ensures.0 m.ensures.1)
