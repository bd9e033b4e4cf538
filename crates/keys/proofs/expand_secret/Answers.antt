-- `keys::expand_secret` meets its contract: there is room for the bytes of the tape. Assumes nothing.
use mathlib.Core.Path.{◌≡◌, ap, ◌∙◌}
use native.Mathlib.Omega.{arith}
use borrow.Author.Rules.{rules}
use lib.ListN.{length, take, replicate}
use Prim.Native.Nat.{ℕ, ◌-◌}
use Rattle.field.specs.Packing.{packed_length, unpack}
use Rattle.keys.proofs.Made.{expanded}
use Rattle.keys.proofs.expand_secret.Goals as goal

pub returns : goal.returns
unfolding packed_length
returns c =
    let n = c.div_ceil.ensures in
    let room : length (take (c.div_ceil.result - 0) (replicate {A = ℕ} 59 0)) ≡ c.div_ceil.result = search rules in
    let size : c.div_ceil.result ≡ packed_length (length c.args.s.now) = omega arith in
    c.unpack_into.ensures ∙ ap (unpack (length c.args.s.now)) c.tape_bytes.ensures ∙ expanded c.args.seed.now _ _ (room ∙ size)
