-- `marks::store_words` meets its contract. The invariant: the words below k are written, and what lies behind all of them is kept. Assumes nothing.
use mathlib.Core.Path.{◌≡◌}
use Prim.Native.Nat.{◌*◌}
use lib.ListN.{length, drop}
use Rattle.marks.proofs.Stored.{StoredTo}
use Rattle.marks.proofs.store_words.Given as goal

abbrev pub invariant-loop-k : goal.invariant-loop-k
invariant-loop-k l = (length l.bytes ≡ length l.initial.bytes) × StoredTo l.k l.words l.bytes × (drop (8 * length l.words) l.bytes ≡ drop (8 * length l.words) l.initial.bytes)
