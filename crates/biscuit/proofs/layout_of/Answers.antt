-- `biscuit::layout_of` meets its contract: no sum is larger than the last one. Assumes nothing.
use mathlib.Core.Path.{refl}
use native.Mathlib.Omega.{arith}
use Rattle.field.specs.Packing.{packed_length}
use Rattle.sets.specs.Sets.{S}
use Rattle.biscuit.specs.Room.{leaves_at, room_at, roots_at, challenges_at, room_end}
use Rattle.biscuit.proofs.Room.{sums_bounded, few_groups}
use Rattle.biscuit.proofs.layout_of.Goals as goal

pub overflow_mul-challenges : goal.overflow_mul-challenges
overflow_mul-challenges c =
    let bound = sums_bounded _ c.requires _ _ c.groups_of-g.ensures c.circuit_len-leaves.ensures in
    let count = c.groups_of-g.ensures in
    let few = few_groups _ c.requires in
    let most = c.requires.equations in
    omega arith

pub returns : goal.returns
unfolding leaves_at room_at roots_at challenges_at room_end packed_length S
returns c =
    let e = c.groups_of-g.ensures in
    let d = c.circuit_len-leaves.ensures in
    record {
      leaves = d;
      room = rw e (rw d refl);
      roots = rw e (rw d refl);
      challenges = rw e (rw d refl);
      end = rw e (rw d refl);
    }
