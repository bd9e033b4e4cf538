-- `signing::sections::write_head` meets its contract: the parts follow each other. Assumes nothing.
use mathlib.Core.Path.{refl}
use native.Mathlib.Omega.{arith}
use Prim.Native.Nat.{◌+◌}
use lib.ListN.{length}
use Rattle.signing.proofs.Assembling.{copied, three_copied}
use Rattle.signing.proofs.sections.write_head.Goals as goal

pub returns : goal.returns
returns c =
    let u = c.args.salt.now in
    let v = c.args.h1.now in
    let w = c.args.h2.now in
    let a = length u in
    let b = length u + length v in
    three_copied c.args.signature.now u v w _ _ _ a b c.requires.3 refl refl
    (copied _ 0 a u _ (omega arith) c.copy_from_slice.ensures.after)
    (copied _ a b v _ (omega arith) c.copy_from_slice-2.ensures.after)
    (copied _ b (b + length w) w _ (omega arith) c.copy_from_slice-3.ensures.after)
