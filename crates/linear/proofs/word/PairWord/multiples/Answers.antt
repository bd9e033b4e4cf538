-- The multiples of a pair of words are those of its words, side by side. Assumes nothing.
use mathlib.Core.Path.{◌≡◌, ap, ◌∙◌}
use mathlib.Core.List.{List}
use Prim.Native.Nat.{ℕ, ◌-◌}
use native.Mathlib.Decide.{dec_lt}
use native.Mathlib.Omega.{arith}
use lib.ListN.{get_or}
use Rattle.std.proofs.lemmas.Bool.{lt-ltb, le-ltb}
use Rattle.field.specs.Field.{mul}
use Rattle.lanes.specs.Lanes.{lane, Multiples}
use Rattle.linear.specs.Word.{MultiplesOf, two_words}
use Rattle.linear.proofs.Sides.{first, second, side_at}
use Rattle.linear.proofs.word.PairWord.multiples.Goals as goal

pub returns : goal.returns
unfolding MultiplesOf Multiples
returns c =
    let p = c.args.self in
    let t = c.join.new.pairs in
    λ e q he hq.
    let low = ap (lane q) (side_at (λ w. w.first) 0 first t e ∙ ap (λ (l : List ℕ). get_or l e 0) c.join.ensures.0) in
    let high = ap (lane (q - 16)) (side_at (λ w. w.second) 16 second t e ∙ ap (λ (l : List ℕ). get_or l e 0) c.join.ensures.1) in
    elim (dec_lt q 16) as (λ d. two_words.lane q (get_or t e two_words.zero) ≡ mul e (two_words.lane q p)) [
      | yes y ↦ rw (lt-ltb q 16 y) (low ∙ c.multiples.ensures e q he y)
      | no y ↦ rw (le-ltb q 16 (omega arith)) (high ∙ c.multiples-2.ensures e (q - 16) he (omega arith))
    ]
