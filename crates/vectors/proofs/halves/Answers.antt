-- `vectors::halves` meets its contract. The invariant: the elements of the first k bytes are written, and the entries behind them are as they were.
-- Assumes nothing.
use mathlib.Core.Path.{◌≡◌, sym, ap, ◌∙◌}
use mathlib.Core.List.{◌++◌}
use Prim.Native.Nat.{ℕ, ◌+◌, ◌*◌, ◌/◌, ◌%◌}
use native.Mathlib.Omega.{arith}
use lib.ListN.{length, get_or, take, drop, length-set}
use Rattle.memory.proofs.Xors.{written_more, written_all}
use Rattle.field.specs.Packing.{unpack}
use Rattle.field.proofs.Packing.{length-unpack, get_or-unpack, nib-even, nib_odd}
use Rattle.vectors.proofs.halves.Goals as goal

pub loop-k-preserved : goal.loop-k-preserved
loop-k-preserved c =
    let l = c.loop-k in
    let bytes = c.args.bytes.now in
    let out = c.args.out.now in
    let target = unpack (length out) bytes in
    let size = length-unpack (length out) bytes in
    let room = c.requires in
    let byte = c.type_inv.bytes l.k in
    let low = nib-even bytes l.k in
    let high = nib_odd bytes l.k in
    let first = get_or-unpack (length out) bytes (l.k * 2) (omega arith) in
    let second = get_or-unpack (length out) bytes (l.k * 2 + 1) (omega arith) in
    let once = written_more target out l.out (l.k * 2) _ (omega arith) size l.invariant.1 (sym (first ∙ low)) in
    let small : get_or bytes l.k 0 / 16 % 16 ≡ get_or bytes l.k 0 / 16 = omega arith in
    let twice = written_more target out _ (l.k * 2 + 1) _ (omega arith) size once (sym (second ∙ high ∙ small)) in
    let next : l.k * 2 + 1 + 1 ≡ (l.k + 1) * 2 = omega arith in (
      simp length-set (omega arith),
      twice ∙ ap (λ (n : ℕ). take n target ++ drop n out) next,
    )

pub returns : goal.returns
returns c =
    let l = c.loop-k in
    let bytes = c.args.bytes.now in
    let out = c.args.out.now in
    let size = length-unpack (length out) bytes in
    let room = c.requires in
    l.invariant.1 ∙ written_all (unpack (length out) bytes) out (l.k * 2) size (omega arith)
