-- `lines::elements` meets its contract. The invariant: the bytes passed are what the old ones leave modulo 16, and the others are the old ones.
-- Assumes nothing.
use mathlib.Core.Path.{◌≡◌, refl, sym, ap, ◌∙◌, subst}
use mathlib.Core.List.{List}
use Prim.Native.Nat.{ℕ, ◌+◌, ◌%◌, ◌<◌}
use native.Mathlib.Nat.{mod-lt}
use native.Mathlib.Omega.{arith}
use lib.ListN.{length, get_or, drop}
use lib.Seq.{get_or-drop}
use Rattle.memory.specs.Lists.{table}
use Rattle.lines.proofs.Rule.{rule_more, rest_more, rule_all, rule_below}
use Rattle.lines.proofs.elements.Goals as goal

-- the entry at the place is the old one
same_at : (l old : List ℕ) (i : ℕ) → drop i l ≡ drop i old → get_or l i 0 ≡ get_or old i 0
same_at l old i e =
    let at : i ≡ i + 0 = omega arith in
    ap (λ (k : ℕ). get_or l k 0) at ∙ sym (get_or-drop i l 0 0) ∙ ap (λ (r : List ℕ). get_or r 0 0) e ∙ get_or-drop i old 0 0 ∙ ap (λ (k : ℕ). get_or old k 0) (sym at)

pub loop-b-init : goal.loop-b-init
unfolding table
loop-b-init c = (refl, refl)

pub loop-b-preserved : goal.loop-b-preserved
loop-b-preserved c =
    let l = c.loop-b in
    let old = c.args.out.now in (
      rule_more (λ (i : ℕ). get_or old i 0 % 16) l.out l.b-index _ (omega arith) l.invariant.0 (ap (λ (b : ℕ). b % 16) (same_at l.out old l.b-index l.invariant.1)),
      rest_more l.out old l.b-index _ l.invariant.1,
    )

pub returns : goal.returns
returns c =
    let l = c.loop-b in
    let old = c.args.out.now in
    let f : ℕ → ℕ = λ i. get_or old i 0 % 16 in
    let e = rule_all f l.out l.b-index (length old) (omega arith) (omega arith) l.invariant.0 in
    (omega arith, subst (λ (x : List ℕ). (k : ℕ) → get_or x k 0 < 16) (sym e) (rule_below f (length old) 16 (omega arith) (λ i. mod-lt (get_or old i 0) (omega arith))), e)
