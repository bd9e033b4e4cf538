-- `keys::public_half` meets its contract: the public key is written where the secret key is consistent. Assumes nothing.
use mathlib.Core.Path.{sym, ◌∙◌}
use native.Mathlib.Omega.{arith}
use Rattle.biscuit.specs.Keys.{consistent_key}
use Rattle.keys.proofs.Made.{circuit-room}
use Rattle.keys.proofs.Read.{seed_inside, half_size, half_bytes, half_written, half_kept}
use Rattle.keys.proofs.public_half.Goals as goal
use Rattle.keys.proofs.public_half.Goals.{then-right, else-right}

pub slice_bounds-consistent-end : goal.slice_bounds-consistent-end
slice_bounds-consistent-end c = let r = circuit-room c.args.p c.requires.0 in omega arith

pub slice_bounds-write_public-end : goal.slice_bounds-write_public-end
slice_bounds-write_public-end c = let h = seed_inside c.args.p c.args.sk.now c.requires.1 in omega arith

pub write_public-requires : goal.write_public-requires
write_public-requires c = half_size c.args.p c.args.sk.now _ _ c.requires.1 c.consistent-right.ensures.1 c.requires.2

pub returns : goal.returns
returns c =
    let told = c.consistent-right.ensures.0 in
    let is = consistent_key c.args.p c.args.sk.now in (
      told,
      elim c.if-right.branch [
        | then-right w ↦ w.pk-is ∙ half_written is _ _ _ (sym told ∙ w.if-right.true) (half_bytes c.args.p c.args.sk.now _ _ c.consistent-right.ensures.1 w.write_public.ensures)
        | else-right w ↦ w.pk-is ∙ half_kept is _ _ (sym told ∙ w.if-right.false)
      ],
    )
