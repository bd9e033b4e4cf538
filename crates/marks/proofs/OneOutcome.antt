-- Each public function of this crate has one outcome. Promises are said word by word and lane by lane: a word is fixed by its sixteen lanes, bytes by their half bytes, and a list by its length and its entries.
-- That the entries of a lent part are below 2 ^ 64 or 256 is what their type, u64 or u8, says of them. Assumes nothing.
use mathlib.Core.Path.{◌≡◌, sym, ap, ◌∙◌, subst}
use mathlib.Core.List.{List}
use Prim.Native.Nat.{ℕ, ◌+◌, ◌*◌, ◌/◌, ◌%◌, ◌<◌}
use native.Mathlib.Omega.{arith}
use lib.ListN.{length}
use lib.Seq.{ext_get_or}
use Rattle.memory.specs.Outcome.{OneOutcome}
use Rattle.memory.proofs.Words.{Below}
use Rattle.field.specs.Packing.{Bytes, nib}
use Rattle.lanes.specs.Lanes.{lane, WordAt}
use Rattle.lanes.proofs.Laws.{lanes_fix}
use Rattle.lanes.proofs.OneOutcome.{words_by_lanes, bytes_in_front}
use Rattle.marks.specs.Marks.{Mark, EachWord, MarkedWord, MultipliedWord, ClearedWord, Marked, MarkedBytes, Multiplied, Cleared, HoldsWords, WordsStored}
use Rattle.marks.proofs.mark as mark
use Rattle.marks.proofs.add_marked as add-marked
use Rattle.marks.proofs.add_constants as add-constants
use Rattle.marks.proofs.multiply_add as multiply-add
use Rattle.marks.proofs.clear_marked as clear-marked
use Rattle.marks.proofs.add_words as add_words
use Rattle.marks.proofs.load_words as load-words
use Rattle.marks.proofs.store_words as store_words_lem
use Rattle.marks.proofs.fold_into as fold-into

pub mark_one_outcome : OneOutcome mark.Kinds.ps mark.Kinds.r mark.Reads.Asked mark.Reads.Learnt
unfolding Mark
mark_one_outcome κs a good asked o q x y =
    ap (λ (w : ℕ). (w, (tt, (tt, tt)))) (lanes_fix o.0 q.0 x.ranged y.ranged (λ k h. x.promised k h ∙ sym (y.promised k h)))

-- ---- word by word

-- a rule that gives each lane of the new word fixes the words
each_lane_fixes : (old x y : List ℕ) (f : ℕ → ℕ → ℕ → ℕ) → length x ≡ length old → length y ≡ length old → Below 64 x → Below 64 y
    → EachWord (λ k u v. (q : ℕ) → q < 16 → lane q v ≡ f k u q) old x → EachWord (λ k u v. (q : ℕ) → q < 16 → lane q v ≡ f k u q) old y → x ≡ y
unfolding EachWord
each_lane_fixes old x y f ex ey hx hy p r =
    words_by_lanes x y (ex ∙ sym ey) hx hy (λ k q l g. let n : k < length old = omega arith in p k n q g ∙ sym (r k n q g))

-- a rule that gives the new entry fixes the entries
each_entry_fixes : (old x y : List ℕ) (f : ℕ → ℕ → ℕ) → length x ≡ length old → length y ≡ length old
    → EachWord (λ k u v. v ≡ f k u) old x → EachWord (λ k u v. v ≡ f k u) old y → x ≡ y
unfolding EachWord
each_entry_fixes old x y f ex ey p r = ext_get_or 0 x y (ex ∙ sym ey) (λ k l. let n : k < length old = omega arith in p k n ∙ sym (r k n))

pub add_marked_one_outcome :
    OneOutcome add-marked.Kinds.ps add-marked.Kinds.r add-marked.Reads.Asked (λ κs a r e. add-marked.Reads.Learnt κs a r e × Below 64 e.0.now)
unfolding Marked MarkedWord
add_marked_one_outcome κs a good asked o q x y =
    ap (λ (l : List ℕ). (tt, (l, (tt, (tt, tt)))))
    (each_lane_fixes a.0.now o.1.0 q.1.0 _ x.kept.0 y.kept.0 x.promised.1 y.promised.1 x.promised.0 y.promised.0)

pub add_constants_one_outcome :
    OneOutcome add-constants.Kinds.ps add-constants.Kinds.r add-constants.Reads.Asked (λ κs a r e. add-constants.Reads.Learnt κs a r e × Below 64 e.0.now)
unfolding MarkedBytes MarkedWord
add_constants_one_outcome κs a good asked o q x y =
    ap (λ (l : List ℕ). (tt, (l, (tt, (tt, (tt, tt))))))
    (each_lane_fixes a.0.now o.1.0 q.1.0 _ x.kept.0 y.kept.0 x.promised.1 y.promised.1 x.promised.0 y.promised.0)

pub multiply_add_one_outcome :
    OneOutcome multiply-add.Kinds.ps multiply-add.Kinds.r multiply-add.Reads.Asked (λ κs a r e. multiply-add.Reads.Learnt κs a r e × Below 64 e.0.now)
unfolding Multiplied MultipliedWord
multiply_add_one_outcome κs a good asked o q x y =
    ap (λ (l : List ℕ). (tt, (l, (tt, (tt, tt)))))
    (each_lane_fixes a.0.now o.1.0 q.1.0 _ x.kept.0 y.kept.0 x.promised.1 y.promised.1 x.promised.0 y.promised.0)

pub clear_marked_one_outcome :
    OneOutcome clear-marked.Kinds.ps clear-marked.Kinds.r clear-marked.Reads.Asked (λ κs a r e. clear-marked.Reads.Learnt κs a r e × Below 64 e.0.now)
unfolding Cleared ClearedWord
clear_marked_one_outcome κs a good asked o q x y =
    ap (λ (l : List ℕ). (tt, (l, (tt, tt))))
    (each_lane_fixes a.0.now o.1.0 q.1.0 _ x.kept.0 y.kept.0 x.promised.1 y.promised.1 x.promised.0 y.promised.0)

pub add_words_one_outcome : OneOutcome add_words.Kinds.ps add_words.Kinds.r add_words.Reads.Asked add_words.Reads.Learnt
add_words_one_outcome κs a good asked o q x y =
    ap (λ (l : List ℕ). (tt, (l, (tt, tt)))) (each_entry_fixes a.0.now o.1.0 q.1.0 _ x.kept.0 y.kept.0 x.promised y.promised)

pub load_words_one_outcome :
    OneOutcome load-words.Kinds.ps load-words.Kinds.r load-words.Reads.Asked (λ κs a r e. load-words.Reads.Learnt κs a r e × Below 64 e.1.0.now)
unfolding WordAt
load_words_one_outcome κs a good asked o q x y =
    ap (λ (l : List ℕ). (tt, (tt, (l, tt))))
    (each_lane_fixes a.1.0.now o.1.1.0 q.1.1.0 _ x.kept.1.0 y.kept.1.0 x.promised.1 y.promised.1 x.promised.0 y.promised.0)

pub fold_into_one_outcome : OneOutcome fold-into.Kinds.ps fold-into.Kinds.r fold-into.Reads.Asked fold-into.Reads.Learnt
fold_into_one_outcome κs a good asked o q x y =
    ap (λ (l : List ℕ). (tt, (tt, (l, tt)))) (each_entry_fixes a.1.0.now o.1.1.0 q.1.1.0 _ x.kept.1.0 y.kept.1.0 x.promised y.promised)

-- ---- words to bytes

-- the bytes after the words are stored
words_stored_fix : (words old x y : List ℕ) → length x ≡ length y → Bytes x → Bytes y → WordsStored words old x → WordsStored words old y → x ≡ y
unfolding HoldsWords
words_stored_fix words old x y e hx hy p r =
    bytes_in_front (8 * length words) x y e hx hy (λ i h.
    let j : 16 * (i / 16) + i % 16 ≡ i = omega arith in
    let k : i / 16 < length words = omega arith in
    let l : i % 16 < 16 = omega arith in
    subst (λ (n : ℕ). nib x n ≡ nib y n) j (p.elements (i / 16) (i % 16) k l ∙ sym (r.elements (i / 16) (i % 16) k l))) (p.rest ∙ sym r.rest)

pub store_words_one_outcome :
    OneOutcome store_words_lem.Kinds.ps store_words_lem.Kinds.r store_words_lem.Reads.Asked (λ κs a r e. store_words_lem.Reads.Learnt κs a r e × Bytes e.1.0.now)
store_words_one_outcome κs a good asked o q x y =
    ap (λ (l : List ℕ). (tt, (tt, (l, tt))))
    (words_stored_fix a.0.now a.1.0.now o.1.1.0 q.1.1.0 (x.kept.1.0 ∙ sym y.kept.1.0) x.promised.1 y.promised.1 x.promised.0 y.promised.0)
