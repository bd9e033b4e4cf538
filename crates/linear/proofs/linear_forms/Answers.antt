-- `linear::linear_forms` meets its contract: the three tables are added to words of zeros. Assumes nothing.
use mathlib.Core.Path.{◌≡◌, ap, ◌∙◌}
use mathlib.Core.List.{List}
use Prim.Native.Nat.{ℕ, ◌<◌}
use native.Mathlib.Omega.{arith}
use lib.ListN.{get_or, replicate}
use Rattle.memory.proofs.Xors.{get_or_zeros}
use Rattle.linear.proofs.Shares.{linear_values}
use Rattle.linear.proofs.linear_forms.Goals as goal

pub returns : goal.returns
returns c =
    let a = c.args in
    let t = c.of-tables.result in
    let p = c.of-tables.ensures in
    let r = c.add_tables in
    let none = λ (x : List ℕ) (n : ℕ) (e : x ≡ replicate n 0) (k : ℕ) (h : k < a.m). ap (λ (l : List ℕ). get_or l k 0) e ∙ get_or_zeros n k in
    λ f share circuit shares.
    linear_values a.circuit.now a.n a.m a.shares.now share c.requires.3 shares c.fill.new.self c.fill-2.new.self c.fill-3.new.self r.new.x r.new.y r.new.z
    (record { table = t.first.bytes.now; width = t.first.width; rows = t.first.rows; stands = p.first; before = omega arith; after = omega arith; added = r.ensures.0 })
    (record { table = t.second.bytes.now; width = t.second.width; rows = t.second.rows; stands = p.second; before = omega arith; after = omega arith; added = r.ensures.1 })
    (record { table = t.third.bytes.now; width = t.third.width; rows = t.third.rows; stands = p.third; before = omega arith; after = omega arith; added = r.ensures.2 })
    (none c.fill.new.self _ (c.fill.ensures.after (λ y e. e))) (none c.fill-2.new.self _ (c.fill-2.ensures.after (λ y e. e)))
    (none c.fill-3.new.self _ (c.fill-3.ensures.after (λ y e. e))) f circuit
