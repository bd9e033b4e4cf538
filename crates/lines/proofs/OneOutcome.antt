-- What the promises of this crate settle. Those that fill a part have one outcome. Those that print hand no value back and change nothing that is lent: any two of their outcomes in which all was printed are
-- equal. Whether printing fails is for no promise to say, and what they print is no part of it: no contract can speak of what is written to a file. Assumes nothing.
use mathlib.Core.Path.{refl, sym, ap, ◌∙◌}
use mathlib.Core.List.{List}
use Prim.Native.Nat.{ℕ}
use Rattle.std.specs.Prelude.{IsOk}
use Rattle.memory.specs.Outcome.{OneOutcome, OneOutcomeWhere}
use Rattle.memory.proofs.Outcomes.{ok_same}
use Rattle.lines.proofs.words as words
use Rattle.lines.proofs.number as number
use Rattle.lines.proofs.bytes_line as bytes-line
use Rattle.lines.proofs.digest_line as digest-line
use Rattle.lines.proofs.hash_line as hash-line
use Rattle.lines.proofs.progression as progression
use Rattle.lines.proofs.elements as elements

pub words_one_outcome : OneOutcomeWhere words.Kinds.ps words.Kinds.r words.Reads.Asked words.Reads.Learnt (λ κs a o. IsOk o.0)
words_one_outcome κs a good asked o q x y g h = ap (λ r. (r, o.1)) (ok_same (λ x y. refl) o.0 q.0 g h)

pub number_one_outcome : OneOutcomeWhere number.Kinds.ps number.Kinds.r number.Reads.Asked number.Reads.Learnt (λ κs a o. IsOk o.0)
number_one_outcome κs a good asked o q x y g h = ap (λ r. (r, o.1)) (ok_same (λ x y. refl) o.0 q.0 g h)

pub bytes_line_one_outcome : OneOutcomeWhere bytes-line.Kinds.ps bytes-line.Kinds.r bytes-line.Reads.Asked bytes-line.Reads.Learnt (λ κs a o. IsOk o.0)
bytes_line_one_outcome κs a good asked o q x y g h = ap (λ r. (r, o.1)) (ok_same (λ x y. refl) o.0 q.0 g h)

pub digest_line_one_outcome : OneOutcomeWhere digest-line.Kinds.ps digest-line.Kinds.r digest-line.Reads.Asked digest-line.Reads.Learnt (λ κs a o. IsOk o.0)
digest_line_one_outcome κs a good asked o q x y g h = ap (λ r. (r, o.1)) (ok_same (λ x y. refl) o.0 q.0 g h)

pub hash_line_one_outcome : OneOutcomeWhere hash-line.Kinds.ps hash-line.Kinds.r hash-line.Reads.Asked hash-line.Reads.Learnt (λ κs a o. IsOk o.0)
hash_line_one_outcome κs a good asked o q x y g h = ap (λ r. (r, o.1)) (ok_same (λ x y. refl) o.0 q.0 g h)

pub progression_one_outcome : OneOutcome progression.Kinds.ps progression.Kinds.r progression.Reads.Asked progression.Reads.Learnt
progression_one_outcome κs a good asked o q x y = ap (λ (l : List ℕ). (tt, (tt, (tt, (l, tt))))) (x.promised ∙ sym y.promised)

pub elements_one_outcome : OneOutcome elements.Kinds.ps elements.Kinds.r elements.Reads.Asked elements.Reads.Learnt
elements_one_outcome κs a good asked o q x y = ap (λ (l : List ℕ). (tt, (l, tt))) (x.promised.2 ∙ sym y.promised.2)
