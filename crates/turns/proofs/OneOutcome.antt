-- Both public functions of this crate have one outcome: two hashes, and work. `turn` gives the room in work by half bytes: that its entries are bytes is what their type, u8, says.
-- Assumes nothing.
use mathlib.Core.Path.{◌≡◌, sym, ap₂, ◌∙◌}
use mathlib.Core.List.{List, ◌++◌}
use Prim.Native.Nat.{ℕ, ◌-◌, ◌*◌, ◌≤◌}
use native.Mathlib.Omega.{arith}
use lib.ListN.{length, drop}
use Rattle.memory.specs.Outcome.{OneOutcome}
use Rattle.memory.proofs.Parts.{three_parts, length-lent}
use Rattle.field.specs.Packing.{Bytes}
use Rattle.sets.specs.declared.Params.{Params}
use Rattle.biscuit.specs.Room.{groups, room_at, roots_at, room_end}
use Rattle.biscuit.proofs.Room.{mapped}
use Rattle.answers.proofs.Room.{bytes_drop, bytes_take, room_fixed}
use Rattle.reps.specs.Reps.{rep_of}
use Rattle.turns.specs.Turns.{room_part, Answered}
use Rattle.turns.proofs.turn as turn
use Rattle.turns.proofs.turn_two as turn_two

-- work after the answers of a repetition
answered_fixed : (P : Params) (e h : ℕ) (salt values before v w : List ℕ) → room_end P ≤ length v → room_end P ≤ length w → Bytes v → Bytes w
    → Answered P (rep_of P e h) salt values before v → Answered P (rep_of P e h) salt values before w → v ≡ w
answered_fixed P e h salt values before v w lv lw hv hw x y =
    let m = mapped P in
    sym (three_parts v (room_at P) (roots_at P) (omega arith))
    ∙ ap₂ (λ (l r : List ℕ). l ++ r) (x.front ∙ sym y.front)
    (ap₂ (λ (l r : List ℕ). l ++ r)
    (room_fixed (rep_of P e h) _ salt _ values (room_part P v) (room_part P w) (size v lv) (size w lw)
    (bytes_take (roots_at P - room_at P) (drop (room_at P) v) (bytes_drop (room_at P) v hv)) (bytes_take (roots_at P - room_at P) (drop (room_at P) w) (bytes_drop (room_at P) w hw)) x.room y.room)
    (x.rest ∙ sym y.rest))
    ∙ three_parts w (room_at P) (roots_at P) (omega arith)
  where
    size : (l : List ℕ) → room_end P ≤ length l → length (room_part P l) ≡ groups P * (16 * P.m)
    size l enough =
        let m = mapped P in
        length-lent l (room_at P) (roots_at P) (omega arith) (omega arith) ∙ (let q : roots_at P - room_at P ≡ groups P * (16 * P.m) = omega arith in q)

pub turn_one_outcome : OneOutcome turn.Kinds.ps turn.Kinds.r turn.Reads.Asked (λ κs a r e. turn.Reads.Learnt κs a r e × Bytes e.1.1.0.now)
turn_one_outcome κs a good asked o q x y =
    let p = x.promised.0 in
    let r = y.promised.0 in
    let k = x.kept.1.1.0 in
    let l = y.kept.1.1.0 in
    let n = asked.0 in
    let first = p.0.first ∙ sym r.0.first in
    let second = p.0.second ∙ sym r.0.second in
    let work = answered_fixed a.1.0.claim.p a.1.0.e _ _ _ _ _ _ (omega arith) (omega arith) x.promised.1 y.promised.1 p.1 r.1 in
    λ i. (record { first = first i; second = second i }, (tt, (tt, (work i, tt))))

pub turn_two_one_outcome : OneOutcome turn_two.Kinds.ps turn_two.Kinds.r turn_two.Reads.Asked turn_two.Reads.Learnt
turn_two_one_outcome κs a good asked o q x y =
    let p = x.promised in
    let r = y.promised in
    let first = p.0.first ∙ sym r.0.first in
    let second = p.0.second ∙ sym r.0.second in
    let work = p.1 ∙ sym r.1 in
    λ i. (record { first = first i; second = second i }, (tt, (tt, (work i, tt))))
