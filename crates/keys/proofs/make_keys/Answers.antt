-- `keys::make_keys` meets its contract: both keys are written from the values that were worked out. Assumes nothing.
use mathlib.Core.Path.{◌∙◌}
use native.Mathlib.Omega.{arith}
use borrow.Author.Rules.{rules}
use Rattle.keys.proofs.Made.{circuit-room, secret_size, secret_small, public_size, secret-bytes, public_bytes_lem}
use Rattle.keys.proofs.make_keys.Goals as goal

pub slice_bounds-key_values-end : goal.slice_bounds-key_values-end
slice_bounds-key_values-end c = let r = circuit-room c.args.p c.requires.0 in omega arith

pub write_secret-requires : goal.write_secret-requires
write_secret-requires c =
    let r = secret_small c.args.p c.requires.0 in
    let v = c.key_values.auto in
    (secret_size c.args.p _ _ _ _ _ c.requires.3 c.requires.1 (v.s ∙ search rules) (v.t ∙ search rules) (v.y ∙ search rules), omega arith)

pub write_public-requires : goal.write_public-requires
write_public-requires c = public_size c.args.p _ _ _ c.requires.4 c.requires.1 (c.key_values.auto.t ∙ search rules)

pub returns : goal.returns
returns c =
    let values = c.key_values.ensures in (
      secret-bytes c.args.p c.args.circuit_seed.now c.args.secret_seed.now _ _ _ _ values c.write_secret.ensures,
      public_bytes_lem c.args.p c.args.circuit_seed.now c.args.secret_seed.now _ _ _ _ values c.write_public.ensures,
    )
