-- The places of a signature's sections are small, and they fit the signature; the parts of work that are lent lie in work. Assumes nothing.
use mathlib.Core.Path.{◌≡◌, refl}
use Prim.Native.Nat.{ℕ, ◌+◌, ◌*◌, ◌/◌, ◌≤◌}
use native.Mathlib.Omega.{arith}
use Rattle.field.specs.Packing.{packed_length}
use Rattle.sets.specs.Sets.{S, signature_length}
use Rattle.sets.specs.declared.Params.{Params}
use Rattle.biscuit.specs.Room.{Fits}
use Rattle.biscuit.specs.Signature.{head_length, shown_length, packing_at, vector_count}

module _ (P : Params) (f : Fits P) where
  pub seed_small : P.bits / 8 ≤ 32
  unfolding S
  seed_small = f.seed

-- the sections of a signature, as they follow each other
pub record Sections (P : Params) : Type 0 where
  pub head : head_length P ≡ 2 * S P + 2 * S P + 2 * S P
  pub body : packing_at P ≡ head_length P + P.tau * (P.l * S P + 2 * S P)
  pub whole : signature_length P ≡ packing_at P + packed_length (vector_count P)

pub sections : (P : Params) → Sections P
unfolding head_length shown_length packing_at vector_count signature_length
sections P = record { head = refl; body = refl; whole = refl }

-- the first place as the code has it
pub head_at : (P : Params) → 2 * (P.bits / 8) + 2 * (P.bits / 8) + 2 * (P.bits / 8) ≡ head_length P
unfolding head_length S
head_at P = refl

-- the bytes of salt and of each hash as the code has them
pub two_seeds : (P : Params) → P.bits / 8 * 2 ≡ 2 * S P
unfolding S
two_seeds P = omega arith

-- the places in a signature, one behind the other
pub record Places (a b size : ℕ) : Type 0 where
  pub body : a ≤ b
  pub packing : b ≤ size

pub places : (P : Params) (a b size : ℕ) → a ≡ head_length P → b ≡ packing_at P → size ≡ signature_length P → Places a b size
places P a b size h g e = let k = sections P in let inner = k.body in let whole = k.whole in record { body = omega arith; packing = omega arith }
