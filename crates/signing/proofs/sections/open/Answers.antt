-- `signing::sections::open` meets its contract: the second hash gives the hidden parties, and the head leaves the packing as it was. Assumes nothing.
use mathlib.Core.Path.{◌∙◌}
use native.Mathlib.Nat.{sub-zero}
use native.Mathlib.Omega.{arith}
use lib.Seq.{length-take-le}
use Rattle.signing.proofs.Closing.{head_parts_fit, closed}
use Rattle.signing.proofs.sections.open.Goals as goal

pub write_head-requires : goal.write_head-requires
write_head-requires c =
    let b = c.args.basis in
    let pre = c.requires in
    let small = b.fits.seed in
    let salt = b.salted in
    let first = pre.0 in
    let second = pre.1 in
    (omega arith, omega arith, omega arith, head_parts_fit b.p b.fits c.args.signature.now b.salt.now c.args.h1.now c.args.h2.now pre.2 salt first second)

pub returns : goal.returns
returns c =
    let b = c.args.basis in
    let pre = c.requires in
    let many = b.fits.repetitions in
    closed b.p b.fits c.args.signature.now b.salt.now c.args.h1.now c.args.h2.now pre.2 b.salted pre.0 pre.1 b.secret.now _ c.args.work.now _ _ _ (length-take-le _ _ (omega arith) ∙ sub-zero _) c.tape_bytes.ensures c.write_head.ensures c.open_hidden.ensures
