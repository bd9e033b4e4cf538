-- What the answers of a repetition are lent: its numbers, and the parts of work as the code cuts them.
-- Assumes nothing.
use mathlib.Core.Path.{◌≡◌, sym, ap, ◌∙◌, subst}
use mathlib.Core.List.{List}
use Prim.Native.Nat.{ℕ, ◌+◌, ◌-◌, ◌*◌}
use native.Mathlib.Omega.{arith}
use lib.ListN.{length}
use Rattle.sets.specs.declared.Params.{Params}
use Rattle.forms.specs.Circuit.{Circuit}
use Rattle.forms.specs.Room.{circuit_length, HoldsCircuit}
use Rattle.group.specs.declared.Rep.{Rep}
use Rattle.group.specs.Shares.{values_length}
use Rattle.biscuit.specs.Room.{Fits, leaves_at, room_at, roots_at}
use Rattle.biscuit.proofs.Room.{mapped}
use Rattle.reps.specs.Reps.{rep_of}
use Rattle.turns.proofs.Sizes.{leaves_is, roots_is, leaves-groups}

-- ---- the numbers of a repetition

module _ (P : Params) (f : Fits P) (e h : ℕ) (rep : Rep) (same : rep ≡ rep_of P e h) where
  pub rep_variables : P.n ≡ rep.n
  rep_variables = sym (ap (λ (q : Rep). q.n) same)

  pub rep_equations : P.m ≡ rep.m
  rep_equations = sym (ap (λ (q : Rep). q.m) same)

  pub rep_values : (v : List ℕ) → length v ≡ P.n + 4 * P.m → length v ≡ values_length rep
  rep_values v h = subst (λ (q : Rep). length v ≡ values_length q) (sym same) (omega arith)

  pub rep_circuit : circuit_length rep.n rep.m ≡ leaves_at P
  rep_circuit = ap (λ (q : Rep). circuit_length q.n q.m) same ∙ sym (leaves_is P)

  pub rep_leaves : 16 * rep.groups * rep.s ≡ room_at P - leaves_at P
  rep_leaves = ap (λ (q : Rep). 16 * q.groups * q.s) same ∙ sym (leaves-groups P)

  pub rep_front : circuit_length rep.n rep.m + 16 * rep.groups * rep.s ≡ room_at P
  rep_front = let a = rep_circuit in let b = rep_leaves in let m = mapped P in omega arith

  pub rep_rooms : roots_at P ≡ circuit_length rep.n rep.m + 16 * rep.groups * rep.s + rep.groups * (16 * rep.m)
  rep_rooms = roots_is P ∙ sym (ap (λ (q : Rep). circuit_length q.n q.m + 16 * q.groups * q.s + q.groups * (16 * q.m)) same)

  pub rep_holds : (c : Circuit) (a b : List ℕ) → a ≡ b → HoldsCircuit P.n P.m c b → HoldsCircuit rep.n rep.m c a
  rep_holds c a b ab held = subst (λ (q : Rep). HoldsCircuit q.n q.m c a) (sym same) (subst (HoldsCircuit P.n P.m c) (sym ab) held)
