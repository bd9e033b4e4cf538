-- Where a call keeps what in its work buffer, and the bounds on the parameters that the routines lean on. Offsets are formulas over the parameters: the circuit comes first, then
-- the leaves of one repetition, the room of its groups of sixteen parties, the roots and the challenges of all repetitions. Assumes nothing.
use Rattle.std.specs.Prelude.{◌≡◌, List, ℕ, ◌+◌, ◌-◌, ◌*◌, ◌%◌, ◌^◌, ◌≤◌, take, drop}
use Rattle.field.specs.Packing.{packed_length}
use Rattle.sets.specs.Sets.{S, N}
use Rattle.sets.specs.declared.Params.{Params}
use Rattle.forms.specs.Room.{circuit_length}
use Rattle.refusals.specs.Refusals.{work_length}
use Rattle.biscuit.specs.declared.Layout.{Layout}
use Rattle.biscuit.specs.Signature.{vector_count}

-- the groups of sixteen parties
unfoldable pub groups : Params → ℕ
groups P = 2 ^ (P.l - 4)

-- where the leaves of one repetition begin: behind the circuit
unfoldable pub leaves_at : Params → ℕ
leaves_at P = circuit_length P.n P.m

-- where the room of the groups begins
unfoldable pub room_at : Params → ℕ
room_at P = leaves_at P + 16 * groups P * S P

-- where the roots begin
unfoldable pub roots_at : Params → ℕ
roots_at P = room_at P + groups P * (16 * P.m)

-- where the challenges begin
unfoldable pub challenges_at : Params → ℕ
challenges_at P = roots_at P + P.tau * S P

-- the bytes that are used
unfoldable pub room_end : Params → ℕ
room_end P = challenges_at P + P.tau * packed_length P.m

-- the root of repetition e, S bytes for each repetition
unfoldable pub root_in : ℕ → List ℕ → ℕ → List ℕ
root_in S roots e = take S (drop ((e - 1) * S) roots)

-- the bounds within which the routines work; every set keeps them
pub record Fits (P : Params) : Type 0 where
  pub variables : P.n ≤ 118
  pub some : 16 ≤ P.m
  pub equations : P.m ≤ 121
  pub repetitions : P.tau ≤ 73
  pub «repeated» : 1 ≤ P.tau
  pub seed : S P ≤ 32
  pub sixteen : 4 ≤ P.l
  pub levels : P.l ≤ 8
  pub parties : N P ≡ 16 * groups P
  pub enough : room_end P ≤ work_length
  pub even : vector_count P % 2 ≡ 0

-- the places, as numbers
pub record LayoutOf (P : Params) (layout : Layout) : Type 0 where
  pub leaves : layout.leaves ≡ leaves_at P
  pub room : layout.room ≡ room_at P
  pub roots : layout.roots ≡ roots_at P
  pub challenges : layout.challenges ≡ challenges_at P
  pub end : layout.end ≡ room_end P
