-- `group` and `two_groups` have one outcome each. Their promises are said lane by lane: a word is fixed by its sixteen lanes. That a word is below 2 ^ 64 is what the type of the entries, u64, says. Assumes nothing.
use mathlib.Core.Path.{sym, ap, ap₂, ◌∙◌}
use Rattle.memory.specs.Outcome.{OneOutcome}
use Rattle.memory.proofs.Words.{Below}
use Rattle.lanes.proofs.OneOutcome.{Three, three_fix}
use Rattle.group.proofs.group as group
use Rattle.group.proofs.two_groups as two-groups

pub group_one_outcome :
    OneOutcome group.Kinds.ps group.Kinds.r group.Reads.Asked
    (λ κs a r e. group.Reads.Learnt κs a r e × (Below 64 e.1.1.1.1.0.now × Below 64 e.1.1.1.1.1.0.now × Below 64 e.1.1.1.1.1.1.0.now))
group_one_outcome κs a good asked o q x y =
    let s = x.promised.0 in
    let t = y.promised.0 in
    let k = x.kept.1.1.1.1 in
    let l = y.kept.1.1.1.1 in
    ap (λ (v : Three). (tt, (tt, (tt, (tt, (tt, v))))))
    (three_fix _ _ _ o.1.1.1.1.1 q.1.1.1.1.1 (k.0 ∙ sym l.0) (k.1.0 ∙ sym l.1.0) (k.1.1.0 ∙ sym l.1.1.0)
    x.promised.1 y.promised.1 (s.alpha, s.second_form, s.rest) (t.alpha, t.second_form, t.rest))

pub two_groups_one_outcome :
    OneOutcome two-groups.Kinds.ps two-groups.Kinds.r two-groups.Reads.Asked
    (λ κs a r e.
    two-groups.Reads.Learnt κs a r e
    × ((Below 64 e.1.1.1.1.1.1.1.0.now × Below 64 e.1.1.1.1.1.1.1.1.0.now × Below 64 e.1.1.1.1.1.1.1.1.1.0.now)
    × (Below 64 e.1.1.1.1.1.1.1.1.1.1.0.now × Below 64 e.1.1.1.1.1.1.1.1.1.1.1.0.now × Below 64 e.1.1.1.1.1.1.1.1.1.1.1.1.0.now)))
two_groups_one_outcome κs a good asked o q x y =
    let s = x.promised.0 in
    let t = y.promised.0 in
    let k = x.kept.1.1.1.1.1.1.1 in
    let l = y.kept.1.1.1.1.1.1.1 in
    let d = o.1.1.1.1.1.1.1.1 in
    let e = q.1.1.1.1.1.1.1.1 in
    ap₂ (λ (v w : Three). (tt, (tt, (tt, (tt, (tt, (tt, (tt, (tt, (v.0, (v.1.0, (v.1.1.0, w))))))))))))
    (three_fix _ _ _ (d.0, (d.1.0, (d.1.1.0, tt))) (e.0, (e.1.0, (e.1.1.0, tt))) (k.0 ∙ sym l.0) (k.1.0 ∙ sym l.1.0) (k.1.1.0 ∙ sym l.1.1.0)
    x.promised.1.0 y.promised.1.0 (s.0.alpha, s.0.second_form, s.0.rest) (t.0.alpha, t.0.second_form, t.0.rest))
    (three_fix _ _ _ d.1.1.1 e.1.1.1 (k.1.1.1.0 ∙ sym l.1.1.1.0) (k.1.1.1.1.0 ∙ sym l.1.1.1.1.0) (k.1.1.1.1.1.0 ∙ sym l.1.1.1.1.1.0)
    x.promised.1.1 y.promised.1.1 (s.1.alpha, s.1.second_form, s.1.rest) (t.1.alpha, t.1.second_form, t.1.rest))
