-- `linear::sums::fill_one` meets its contract: the multiples of the first word are what the bytes below 16 pick, and each step doubles how many bytes have their sum.
-- Assumes nothing.
use mathlib.Core.Path.{◌≡◌}
use Prim.Native.Nat.{ℕ, ◌<◌}
use native.Mathlib.Omega.{arith}
use lib.ListN.{length}
use Rattle.std.proofs.lemmas.List.{get_or_default}
use Rattle.linear.specs.Rows.{PairsOf}
use Rattle.linear.proofs.Pairs.{pairs_first, pairs_spread, above_1, above_2, above_4, above_8}
use Rattle.linear.proofs.sums.fill_one.Goals as goal

pub returns : goal.returns
unfolding PairsOf
returns g c =
    let v = g.W.Word.view in
    let adds = g.met.W.Word.adds in
    let a = c.args in
    let u = c.multiples-2 in
    let t = c.multiples.new.table in
    let m = c.multiples.ensures in
    let size : length t ≡ 16 = omega arith in
    let word = λ (h : ℕ) (x : g.row.W.Denot) (k : h < 16). get_or_default t h x v.zero (omega arith) in
    let s1 = c.spread in
    let s2 = c.spread-2 in
    let s3 = c.spread-3 in
    let s4 = c.spread-4 in
    let p0 = pairs_first v a.low a.high a.out.now u.new.table u.ensures c.requires u.auto.table in
    let p1 = pairs_spread v adds 1 a.low a.high _ t _ s1.new.out above_1 (omega arith) m (word 1 c.index-multiples-1.result (omega arith)) s1.ensures p0 in
    let p2 = pairs_spread v adds 2 a.low a.high _ t s1.new.out s2.new.out above_2 (omega arith) m (word 2 c.index-multiples-2.result (omega arith)) s2.ensures p1 in
    let p3 = pairs_spread v adds 4 a.low a.high _ t s2.new.out s3.new.out above_4 (omega arith) m (word 4 c.index-multiples-4.result (omega arith)) s3.ensures p2 in
    pairs_spread v adds 8 a.low a.high _ t s3.new.out s4.new.out above_8 (omega arith) m (word 8 c.index-multiples-8.result (omega arith)) s4.ensures p3
