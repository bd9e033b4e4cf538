-- The bounds that the loops lean on, as sums of numbers: where the parts of work and of the packing end. Assumes nothing.
use mathlib.Core.Path.{◌≡◌}
use Prim.Native.Nat.{ℕ, ◌+◌, ◌-◌, ◌*◌, ◌≤◌}
use native.Mathlib.Nat.{mul-le-mul_right}
use native.Mathlib.Omega.{arith}
use Rattle.field.specs.Packing.{packed_length}
use Rattle.sets.specs.Sets.{S}
use Rattle.sets.specs.declared.Params.{Params}
use Rattle.refusals.specs.Refusals.{work_length}
use Rattle.biscuit.specs.Signature.{vector_count}
use Rattle.biscuit.specs.Room.{Fits, LayoutOf, roots_at}
use Rattle.biscuit.specs.declared.Layout.{Layout}
use Rattle.biscuit.proofs.Repeated.{among, among_end}
use Rattle.biscuit.proofs.Room.{mapped}

-- the root of repetition e lies in work
pub root-end : (P : Params) (e s roots : ℕ) → Fits P → 1 ≤ e → e ≤ P.tau → s ≡ S P → roots ≡ roots_at P → roots + (e - 1) * s + s ≤ work_length
root-end P e s roots f h k es er = among_end e P.tau (S P) (roots_at P) work_length s roots h k (let m = mapped P in let enough = f.enough in omega arith) es er

-- the parts of work lie in it, one behind the other
pub record Inside (map : Layout) : Type 0 where
  pub leaves : map.leaves ≤ map.room
  pub room : map.room ≤ map.roots
  pub roots : map.roots ≤ map.challenges
  pub challenges : map.challenges ≤ map.end
  pub end : map.end ≤ work_length

pub inside : (P : Params) (map : Layout) → Fits P → LayoutOf P map → Inside map
inside P map f l = let m = mapped P in let enough = f.enough in record {
  leaves = omega (arith, l.leaves, l.room);
  room = omega (arith, l.room, l.roots);
  roots = omega (arith, l.roots, l.challenges);
  challenges = omega (arith, l.challenges, l.end);
  end = omega (arith, l.end);
}

-- ---- the packing

-- the bytes of the packing, and what they hold
pub packing_holds : (P : Params) → P.tau * (P.n + P.m) + P.tau * P.m ≤ 2 * packed_length (vector_count P)
unfolding packed_length vector_count
packing_holds P = omega arith

pub packing_small : (P : Params) → Fits P → packed_length (vector_count P) ≤ 16384
unfolding packed_length vector_count
packing_small P f =
    let a = f.variables in
    let b = f.equations in
    let t = f.repetitions in
    let x = mul-le-mul_right {m = P.tau} {n = 73} (P.n + P.m) t in
    let y = mul-le-mul_right {m = P.tau} {n = 73} P.m t in
    omega arith

-- the corrections of repetition e lie in it
pub corrections-end : (P : Params) (e : ℕ) → 1 ≤ e → e ≤ P.tau → (e - 1) * (P.n + P.m) + (P.n + P.m) ≤ 2 * packed_length (vector_count P)
corrections-end P e h k = let a = among e P.tau (P.n + P.m) h k in let b = packing_holds P in omega arith

-- and so does the hidden α of repetition e
pub alpha-end : (P : Params) (e : ℕ) → 1 ≤ e → e ≤ P.tau → P.tau * (P.n + P.m) + (e - 1) * P.m + P.m ≤ 2 * packed_length (vector_count P)
alpha-end P e h k = let a = among e P.tau P.m h k in let b = packing_holds P in omega arith
