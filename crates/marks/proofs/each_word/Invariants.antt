-- `marks::each_word` meets its contract. The invariant: the words below k are what `next` gave, and the others are as they were.
-- Assumes nothing.
use Prim.Native.Nat.{◌^◌, ◌<◌}
use Rattle.memory.proofs.Groups.{Stepped}
use Rattle.marks.proofs.each_word.Given as goal

abbrev pub invariant-loop-k : goal.invariant-loop-k
invariant-loop-k g l = Stepped (λ j x y. (x < 2 ^ 64) × goal.F-post g l.next j x y) l.k l.initial.words l.words
