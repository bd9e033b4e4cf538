-- `keys::read_secret` meets its contract. Assumes nothing.
use mathlib.Core.Path.{◌∙◌}
use native.Mathlib.Omega.{arith}
use Rattle.keys.proofs.Read.{seed_inside, elements_read}
use Rattle.keys.proofs.read_secret.Goals as goal

pub slice_bounds-unpack_into-count : goal.slice_bounds-unpack_into-count
slice_bounds-unpack_into-count c =
    let h = seed_inside c.args.p c.args.sk.now c.requires.1 in
    omega arith

pub slice_bounds-unpack_into-start : goal.slice_bounds-unpack_into-start
slice_bounds-unpack_into-start c =
    let h = seed_inside c.args.p c.args.sk.now c.requires.1 in
    omega arith

pub returns : goal.returns
returns c =
    c.unpack_into.ensures ∙ elements_read c.args.p c.args.sk.now _ c.requires.2
