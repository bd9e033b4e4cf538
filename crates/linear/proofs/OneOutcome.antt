-- Each public function of this crate has one outcome. A promise over every circuit that the bytes hold, and every sixteen vectors that the words hold, speaks of something: bytes hold the circuit that is read
-- from them, and words their own lanes. That a word is below 2 ^ 64 is what the type of the entries, u64, says. Assumes nothing.
use mathlib.Core.Path.{sym, ap, ap₂, ◌∙◌}
use mathlib.Core.List.{List}
use Prim.Native.Nat.{ℕ}
use lib.ListN.{length}
use Rattle.memory.specs.Lists.{table}
use Rattle.memory.specs.Outcome.{OneOutcome}
use Rattle.memory.proofs.Lists.{get_or-table}
use Rattle.memory.proofs.Words.{Below}
use Rattle.field.specs.Vectors.{◌!◌}
use Rattle.lanes.specs.Lanes.{lane, Holds}
use Rattle.lanes.proofs.OneOutcome.{Three, three_fix}
use Rattle.forms.specs.Room.{circuit_in}
use Rattle.forms.proofs.Room.{holds_circuit}
use Rattle.linear.proofs.linear_forms as linear-forms
use Rattle.linear.proofs.linear_two as linear-two

-- ---- what is there to speak of

-- the vector that stands in lane q of the words
pub in_lane : List ℕ → ℕ → List ℕ
in_lane words q = table (length words) (λ i. lane q (words ! i))

-- words hold the vectors of their lanes
pub holds_lanes : (words : List ℕ) → Holds (λ q i. in_lane words q ! i) words
unfolding Holds in_lane
holds_lanes words k q h g = sym (get_or-table (length words) (λ i. lane q (words ! i)) k h)

-- ---- the forms

pub linear_forms_one_outcome :
    OneOutcome linear-forms.Kinds.ps linear-forms.Kinds.r linear-forms.Reads.Asked
    (λ κs a r e. linear-forms.Reads.Learnt κs a r e × (Below 64 e.1.1.1.1.0.now × Below 64 e.1.1.1.1.1.0.now × Below 64 e.1.1.1.1.1.1.0.now))
linear_forms_one_outcome κs a good asked o q x y =
    let f = circuit_in a.1.0 a.1.1.0 a.0.now in
    let shares = a.1.1.1.0.now in
    let h = holds_circuit a.1.0 a.1.1.0 a.0.now in
    let s = x.promised.0 f (in_lane shares) h (holds_lanes shares) in
    let t = y.promised.0 f (in_lane shares) h (holds_lanes shares) in
    let k = x.kept.1.1.1.1 in
    let l = y.kept.1.1.1.1 in
    ap (λ (v : Three). (tt, (tt, (tt, (tt, (tt, v))))))
    (three_fix _ _ _ o.1.1.1.1.1 q.1.1.1.1.1 (k.0 ∙ sym l.0) (k.1.0 ∙ sym l.1.0) (k.1.1.0 ∙ sym l.1.1.0)
    x.promised.1 y.promised.1 (s.A1, s.A2, s.A0) (t.A1, t.A2, t.A0))

pub linear_two_one_outcome :
    OneOutcome linear-two.Kinds.ps linear-two.Kinds.r linear-two.Reads.Asked
    (λ κs a r e. linear-two.Reads.Learnt κs a r e
    × (Below 64 e.1.1.1.1.1.0.now × Below 64 e.1.1.1.1.1.1.0.now × Below 64 e.1.1.1.1.1.1.1.0.now)
    × (Below 64 e.1.1.1.1.1.1.1.1.0.now × Below 64 e.1.1.1.1.1.1.1.1.1.0.now × Below 64 e.1.1.1.1.1.1.1.1.1.1.0.now))
linear_two_one_outcome κs a good asked o q x y =
    let f = circuit_in a.1.0 a.1.1.0 a.0.now in
    let shares = a.1.1.1.0.now in
    let others = a.1.1.1.1.0.now in
    let h = holds_circuit a.1.0 a.1.1.0 a.0.now in
    let s = x.promised.0.0 f (in_lane shares) h (holds_lanes shares) in
    let t = y.promised.0.0 f (in_lane shares) h (holds_lanes shares) in
    let u = x.promised.0.1 f (in_lane others) h (holds_lanes others) in
    let v = y.promised.0.1 f (in_lane others) h (holds_lanes others) in
    let k = x.kept.1.1.1.1.1 in
    let l = y.kept.1.1.1.1.1 in
    let i = o.1.1.1.1.1.1 in
    let j = q.1.1.1.1.1.1 in
    ap₂ (λ (b c : Three). (tt, (tt, (tt, (tt, (tt, (tt, (b.0, (b.1.0, (b.1.1.0, c))))))))))
    (three_fix _ _ _ (i.0, (i.1.0, (i.1.1.0, tt))) (j.0, (j.1.0, (j.1.1.0, tt)))
    (k.0 ∙ sym l.0) (k.1.0 ∙ sym l.1.0) (k.1.1.0 ∙ sym l.1.1.0)
    x.promised.1 y.promised.1 (s.A1, s.A2, s.A0) (t.A1, t.A2, t.A0))
    (three_fix _ _ _ i.1.1.1 j.1.1.1
    (k.1.1.1.0 ∙ sym l.1.1.1.0) (k.1.1.1.1.0 ∙ sym l.1.1.1.1.0) (k.1.1.1.1.1.0 ∙ sym l.1.1.1.1.1.0)
    x.promised.2 y.promised.2 (u.A1, u.A2, u.A0) (v.A1, v.A2, v.A0))
