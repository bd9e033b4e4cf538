-- What the parts of a case are to each other: the sizes are those that the routines take, and the work has the circuit, the leaves and the room of the answers. Assumes nothing.
use Rattle.std.specs.Prelude.{◌≡◌, ◌+◌, ◌*◌, ◌^◌, ◌≤◌, ◌<◌}
use Rattle.std.specs.Option.{ForSome}
use Rattle.forms.specs.Room.{circuit_length}
use Rattle.test_parties.specs.declared.cases.Case.{Case}

pub record Laid (k : Case) : Type 0 where
  pub party : ForSome k.hidden (λ party. (1 ≤ party) × (party ≤ 16 * k.groups))
  pub seed : k.s ≤ 32
  pub variables : k.n ≤ 118
  pub some : 16 ≤ k.m
  pub equations : k.m ≤ 121
  pub levels : k.l ≤ 8
  pub one : 0 < k.groups
  pub groups : k.groups ≤ 16
  pub parties : 16 * k.groups ≡ 2 ^ k.l
  pub seeds : 16 * k.groups * k.s ≡ 2 ^ k.l * k.s
  pub path : k.way ≡ k.l * k.s
  pub short : k.way ≤ 256
  pub circuit : k.leaves ≡ circuit_length k.n k.m
  pub leaves : k.room ≡ k.leaves + 16 * k.groups * k.s
  pub room : k.end ≡ k.room + k.groups * (16 * k.m)
  pub enough : k.end ≤ 60768
