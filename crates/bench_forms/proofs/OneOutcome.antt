-- Each public function of this crate has one outcome. Where the sizes fit the words are fixed lane by lane, and where they don't nothing has changed; sizes fit or don't. That a word is below 2 ^ 64 is what
-- the type of the entries, u64, says. Assumes nothing.
use mathlib.Core.Path.{sym, ap, ◌∙◌}
use mathlib.Core.List.{List}
use Prim.Native.Nat.{ℕ}
use native.Mathlib.Decide.{dec_le, ℕ_discrete}
use lib.ListN.{length}
use Rattle.memory.specs.Outcome.{OneOutcome}
use Rattle.memory.proofs.Words.{Below}
use Rattle.lanes.proofs.OneOutcome.{Three, three_fix}
use Rattle.forms.specs.Room.{circuit_length, circuit_in}
use Rattle.forms.proofs.Room.{holds_circuit}
use Rattle.linear.proofs.OneOutcome.{in_lane, holds_lanes}
use Rattle.bench_forms.specs.Fit.{FormsFit}
use Rattle.bench_forms.proofs.bench_linear_forms as linear-forms
use Rattle.bench_forms.proofs.bench_tape_bytes as tape-bytes

-- sizes fit or don't
by_fit : {A : Type 0} (circuit shares x y z : List ℕ) → (FormsFit circuit shares x y z → A) → ((FormsFit circuit shares x y z → ⊥) → A) → A
by_fit {A} circuit shares x y z fit not =
    elim (dec_le (length shares) 118) as (λ d. A) [
      | no n ↦ not (λ f. n f.variables)
      | yes a ↦
          elim (dec_le (length x) 121) as (λ d. A) [
            | no n ↦ not (λ f. n f.equations)
            | yes b ↦
                elim (ℕ_discrete (length y) (length x)) as (λ d. A) [
                  | no n ↦ not (λ f. n f.second)
                  | yes c ↦
                      elim (ℕ_discrete (length z) (length x)) as (λ d. A) [
                        | no n ↦ not (λ f. n f.third)
                        | yes d ↦
                            elim (ℕ_discrete (length circuit) (circuit_length (length shares) (length x))) as (λ d. A) [
                              | no n ↦ not (λ f. n f.whole)
                              | yes e ↦ fit (record { variables = a; equations = b; second = c; third = d; whole = e })
                            ]
                      ]
                ]
          ]
    ]

pub linear_forms_one_outcome :
    OneOutcome linear-forms.Kinds.ps linear-forms.Kinds.r linear-forms.Reads.Asked
    (λ κs a r e. linear-forms.Reads.Learnt κs a r e × (Below 64 e.1.1.0.now × Below 64 e.1.1.1.0.now × Below 64 e.1.1.1.1.0.now))
linear_forms_one_outcome κs a good asked o q x y =
    let circuit = a.0.now in
    let shares = a.1.0.now in
    let xs = a.1.1.0.now in
    let f = circuit_in (length shares) (length xs) circuit in
    let h = holds_circuit (length shares) (length xs) circuit in
    let k = x.kept.1.1 in
    let l = y.kept.1.1 in
    by_fit circuit shares xs a.1.1.1.0.now a.1.1.1.1.0.now
    (λ fit.
    let s = x.promised.0.0 f (in_lane shares) fit h (holds_lanes shares) in
    let t = y.promised.0.0 f (in_lane shares) fit h (holds_lanes shares) in
    ap (λ (v : Three). (tt, (tt, (tt, v))))
    (three_fix _ _ _ o.1.1.1 q.1.1.1 (k.0 ∙ sym l.0) (k.1.0 ∙ sym l.1.0) (k.1.1.0 ∙ sym l.1.1.0)
    x.promised.1 y.promised.1 (s.A1, s.A2, s.A0) (t.A1, t.A2, t.A0)))
    (λ no.
    let s = x.promised.0.1 no in
    let t = y.promised.0.1 no in
    λ i. (tt, (tt, (tt, ((s.0 ∙ sym t.0) i, ((s.1 ∙ sym t.1) i, ((s.2 ∙ sym t.2) i, tt)))))))

pub tape_bytes_one_outcome : OneOutcome tape-bytes.Kinds.ps tape-bytes.Kinds.r tape-bytes.Reads.Asked tape-bytes.Reads.Learnt
tape_bytes_one_outcome κs a good asked o q x y = ap (λ (l : List ℕ). (tt, (tt, (l, tt)))) (x.promised ∙ sym y.promised)
