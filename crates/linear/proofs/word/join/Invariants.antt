-- `linear::word::join` meets its contract. The invariant: the first i words of each vector are written. Assumes nothing.
use mathlib.Core.Path.{◌≡◌}
use Rattle.std.proofs.Common.{take, map}
use Rattle.linear.proofs.word.join.Given as goal

abbrev pub invariant-loop-i : goal.invariant-loop-i
invariant-loop-i l = (map (λ p. p.first) (take l.i l.pairs) ≡ take l.i l.firsts) × (map (λ p. p.second) (take l.i l.pairs) ≡ take l.i l.seconds)
