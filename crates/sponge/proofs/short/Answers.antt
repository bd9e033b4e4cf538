-- `sponge::short` meets its contract: what is xored in and permuted is the tape of the first n bytes (`short-tape`), and up to a block of it is given straight from the state.
-- Assumes nothing.
use mathlib.Core.Path.{sym, ap, ◌∙◌}
use native.Mathlib.Omega.{arith}
use lib.ListN.{length, take}
use Rattle.sponge.specs.declared.Tape.{Tape}
use Rattle.sponge.specs.Steps.{given}
use Rattle.sponge.proofs.Absorb.{short-tape}
use Rattle.sponge.proofs.Squeeze.{given_run}
use Rattle.sponge.proofs.Laws.{given-shake256}
use Rattle.sponge.proofs.short.Goals as goal

pub returns-then-out-le-RATE : goal.returns-then-out-le-RATE
returns-then-out-le-RATE c =
    let a = c.args in
    let q = c.requires in
    let n = length a.out.now in
    c.give.ensures
    ∙ sym (given_run _ 0 n (omega arith))
    ∙ ap (λ (t : Tape). given t n) (short-tape a.block.now a.n _ _ _ _ (omega arith) (omega arith) q.2 c.xor_words.ensures c.xor_byte.ensures c.xor_byte-2.ensures c.permute.ensures)
    ∙ given-shake256 (take a.n a.block.now) n

pub returns : goal.returns
returns c =
    let a = c.args in
    let q = c.requires in
    let n = length a.out.now in
    c.squeeze.ensures.0
    ∙ ap (λ (t : Tape). given t n) (short-tape a.block.now a.n _ _ _ _ (omega arith) (omega arith) q.2 c.xor_words.ensures c.xor_byte.ensures c.xor_byte-2.ensures c.permute.ensures)
    ∙ given-shake256 (take a.n a.block.now) n
