-- `signing::sign` meets its contract: a consistent key signs, any other leaves the output alone. Assumes nothing.
use mathlib.Core.Path.{sym, ◌∙◌}
use native.Mathlib.Nat.{sub-zero}
use native.Mathlib.Omega.{arith}
use lib.Seq.{length-take-le}
use Rattle.biscuit.proofs.Parts.{length-first_back}
use Rattle.keys.proofs.Made.{circuit-room}
use Rattle.signing.proofs.Keyed.{keyed-secret, keyed-elements, keyed-circuit, wrote, left_alone}
use Rattle.signing.proofs.sign.Goals as goal
use Rattle.signing.proofs.sign.Goals.{then-consistent, else-consistent}

pub slice_bounds-consistent-end : goal.slice_bounds-consistent-end
slice_bounds-consistent-end c = let h = circuit-room c.args.p c.requires.0 in omega arith

pub write-requires : goal.write-requires
write-requires c =
    let k = c.consistent-consistent in
    let h = circuit-room c.args.p c.requires.0 in
    let n = c.circuit_len-e.ensures in
    let pre = c.requires in
    let v = pre.0.variables in
    let w = pre.0.equations in (
      pre.0,
      k.auto.secret ∙ length-take-le _ _ (omega arith) ∙ sub-zero _,
      keyed-elements c.args.p c.args.sk.now c.args.random.now c.args.message.now _ k.ensures.1,
      pre.2,
      length-first_back c.args.work.now k.new.circuit c.circuit_len-e.result (omega arith) k.auto.circuit ∙ pre.3,
    )

pub returns : goal.returns
returns c =
    let k = c.consistent-consistent in
    let told = k.ensures.0 in
    let a = c.args in (
      told,
      elim c.if-consistent.branch [
        | then-consistent w ↦ w.signature-is ∙ wrote a.p a.sk.now a.random.now a.message.now _ a.signature.now _
            (w.write.ensures (keyed-secret a.p a.sk.now a.random.now a.message.now _ k.ensures.1) (keyed-circuit a.p a.sk.now a.random.now a.message.now _ a.work.now c.circuit_len-e.result k.ensures.2))
            (sym w.if-consistent.true ∙ told)
        | else-consistent w ↦ w.signature-is ∙ left_alone a.p a.sk.now a.random.now a.message.now a.signature.now _ (sym w.if-consistent.false ∙ told)
      ],
    )
