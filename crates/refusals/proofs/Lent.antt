-- What lent bytes hold afterwards, by the number: work cleared or kept, an output written or kept. Assumes nothing.
use mathlib.Core.Path.{◌≡◌, refl, ap, ap₂, ◌∙◌}
use mathlib.Core.List.{List, ◌++◌}
use Prim.Native.Nat.{ℕ, ◌≤◌}
use native.Mathlib.Omega.{arith}
use lib.ListN.{length, take, drop, replicate, length-append, length-replicate, length-drop}
use lib.Seq.{take_at, drop_at, length-take-le}
use Rattle.std.proofs.lemmas.Bool.Decides.{nat_tests}
use Rattle.memory.specs.Lists.{over}
use Rattle.refusals.specs.Refusals.{work_length, cleared, work_after, output_after}

-- clearing n bytes is clearing the work, for whoever keeps the number a variable
pub cleared-first : (n : ℕ) (work : List ℕ) → n ≡ work_length → replicate n 0 ++ drop n work ≡ cleared work
unfolding cleared
cleared-first n work e = ap (λ (k : ℕ). replicate k 0 ++ drop k work) e

pub length-cleared : (work : List ℕ) → work_length ≤ length work → length (cleared work) ≡ length work
unfolding cleared
length-cleared work h =
    let zeros = length-replicate {A = ℕ} work_length 0 in
    let rest = length-drop work_length work in
    length-append (replicate work_length 0) (drop work_length work) ∙ omega arith

-- work whose first n bytes were lent and came back holding u, and which were then cleared
pub cleared_again : (n : ℕ) (work u v : List ℕ) → n ≡ work_length → n ≤ length work → length u ≡ length (take n work)
    → v ≡ replicate (length (take n (u ++ drop n work))) 0 → v ++ drop n (u ++ drop n work) ≡ cleared work
cleared_again n work u v e h l f =
    let size = l ∙ length-take-le n work h in
    ap₂ (λ (a b : List ℕ). a ++ b)
    (f ∙ ap (λ (k : ℕ). replicate k 0) (ap length (take_at u (drop n work) n size) ∙ size))
    (drop_at u (drop n work) n size)
    ∙ cleared-first n work e

-- after a refusal of sizes work is as it was
pub work_after_refused : (number : ℕ) (work : List ℕ) → 1 ≤ number → number ≤ 7 → work_after number work ≡ work
unfolding work_after
work_after_refused number work a b = grind (arith, nat_tests)

pub output_after_refused : (number : ℕ) (result output : List ℕ) → (number ≡ 0 → ⊥) → output_after number result output ≡ output
unfolding output_after
output_after_refused number result output n = grind (arith, nat_tests)

-- after 8 and 9, and after 0, it is cleared
pub work_after_inconsistent : (work : List ℕ) → work_after 8 work ≡ cleared work
unfolding work_after
work_after_inconsistent work = refl

pub work_after_not_accepted : (work : List ℕ) → work_after 9 work ≡ cleared work
unfolding work_after
work_after_not_accepted work = refl

pub work_after-done : (work : List ℕ) → work_after 0 work ≡ cleared work
unfolding work_after
work_after-done work = refl

pub output_after-done : (result output : List ℕ) → output_after 0 result output ≡ over result output
unfolding output_after
output_after-done result output = refl

-- an envelope's refusals leave it as it was
pub work_after-envelope : (work : List ℕ) → (work_after 10 work ≡ work) × (work_after 11 work ≡ work)
unfolding work_after
work_after-envelope work = (refl, refl)
