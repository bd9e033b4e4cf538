-- `linear::sums::spread` meets its contract. The invariant: the first k sums are written, and the words before and behind them are as they were. Assumes nothing.
use mathlib.Core.Path.{◌≡◌}
use Prim.Native.Nat.{ℕ, ◌+◌, ◌≤◌, ◌<◌}
use lib.ListN.{get_or}
use Rattle.linear.proofs.sums.spread.Given as goal

abbrev pub invariant-loop-k : goal.invariant-loop-k
invariant-loop-k g l =
    let v = g.W.Word.view in record {
      added : (j : ℕ) → j < l.k → get_or l.out (l.n + j) v.zero ≡ v.sum (get_or l.initial.out j v.zero) l.w;
      before : (j : ℕ) → j < l.n → get_or l.out j v.zero ≡ get_or l.initial.out j v.zero;
      behind : (j : ℕ) → l.n + l.k ≤ j → get_or l.out j v.zero ≡ get_or l.initial.out j v.zero;
    }
