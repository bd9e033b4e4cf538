-- Each public function of this crate has one outcome. Most promises are said lane by lane: a word is fixed by its sixteen lanes, and bytes by their half bytes. That the
-- entries of a lent part are below 2 ^ 64 or 256 is what their type, u64 or u8, says of them. Assumes nothing.
use mathlib.Core.Path.{◌≡◌, refl, sym, ap, ap₂, ◌∙◌, subst}
use mathlib.Core.List.{List}
use Prim.Native.Nat.{ℕ, ◌+◌, ◌-◌, ◌*◌, ◌<◌}
use native.Mathlib.Decide.{dec_lt}
use native.Mathlib.Omega.{arith}
use lib.ListN.{length, get_or, drop}
use Rattle.memory.specs.Outcome.{OneOutcome}
use Rattle.memory.proofs.Words.{Below}
use Rattle.field.specs.Packing.{Bytes, nib}
use Rattle.field.proofs.Packing.{nib-drop, bytes_by_halves}
use Rattle.lanes.specs.Lanes.{lane, Holds, Times, Multiples, WordAt}
use Rattle.lanes.proofs.Laws.{lanes_fix, words_fix}
use Rattle.lanes.proofs.times as times
use Rattle.lanes.proofs.multiples as multiples
use Rattle.lanes.proofs.word_at as word_at
use Rattle.lanes.proofs.put_word as put_word
use Rattle.lanes.proofs.copy_words as copy-words

-- words that agree in every lane are one list
pub words_by_lanes : (x y : List ℕ) → length x ≡ length y → Below 64 x → Below 64 y
    → ((k q : ℕ) → k < length x → q < 16 → lane q (get_or x k 0) ≡ lane q (get_or y k 0)) → x ≡ y
unfolding Holds
words_by_lanes x y e hx hy h = words_fix (λ q k. lane q (get_or y k 0)) x y e hx hy h (λ k q l g. refl)

-- three lists of words, as a function leaves them that writes three, are fixed by what each holds
abbrev pub Three : Type 0
Three = List ℕ × (List ℕ × (List ℕ × Unit {0}))

abbrev pub HoldThree : (f g h : ℕ → ℕ → ℕ) → Three → Type 0
HoldThree f g h v = Holds f v.0 × Holds g v.1.0 × Holds h v.1.1.0

abbrev pub BelowThree : Three → Type 0
BelowThree v = Below 64 v.0 × Below 64 v.1.0 × Below 64 v.1.1.0

pub three_fix : (f g h : ℕ → ℕ → ℕ) (v w : Three) → length v.0 ≡ length w.0 → length v.1.0 ≡ length w.1.0 → length v.1.1.0 ≡ length w.1.1.0
    → BelowThree v → BelowThree w → HoldThree f g h v → HoldThree f g h w → v ≡ w
three_fix f g h v w d e n hv hw p r =
    ap₂ (λ (x : List ℕ) (l : List ℕ × List ℕ). (x, (l.0, (l.1, tt))))
    (words_fix f v.0 w.0 d hv.0 hw.0 p.0 r.0)
    (ap₂ (λ (y z : List ℕ). (y, z))
    (words_fix g v.1.0 w.1.0 e hv.1 hw.1 p.1 r.1)
    (words_fix h v.1.1.0 w.1.1.0 n hv.2 hw.2 p.2 r.2))

-- bytes that agree in every half byte in front of a place, and in all that lies behind it, are one list
pub bytes_in_front : (n : ℕ) (x y : List ℕ) → length x ≡ length y → Bytes x → Bytes y → ((i : ℕ) → i < n * 2 → nib x i ≡ nib y i) → drop n x ≡ drop n y → x ≡ y
bytes_in_front n x y e hx hy front rest = bytes_by_halves x y hx hy e (λ i l. half i)
  where
    behind : (i : ℕ) → nib x (n * 2 + i) ≡ nib y (n * 2 + i)
    behind i = sym (nib-drop n x i) ∙ ap (λ (l : List ℕ). nib l i) rest ∙ nib-drop n y i

    half : (i : ℕ) → nib x i ≡ nib y i
    half i =
        elim (dec_lt i (n * 2)) as (λ d. nib x i ≡ nib y i) [
          | yes l ↦ front i l
          | no l ↦ (let j : n * 2 + (i - n * 2) ≡ i = omega arith in subst (λ (k : ℕ). nib x k ≡ nib y k) j (behind (i - n * 2)))
        ]

pub times_one_outcome : OneOutcome times.Kinds.ps times.Kinds.r times.Reads.Asked times.Reads.Learnt
unfolding Times
times_one_outcome κs a good asked o q x y =
    ap (λ (w : ℕ). (w, (tt, (tt, tt)))) (lanes_fix o.0 q.0 x.ranged y.ranged (λ k h. x.promised k h ∙ sym (y.promised k h)))

pub multiples_one_outcome :
    OneOutcome multiples.Kinds.ps multiples.Kinds.r multiples.Reads.Asked (λ κs a r e. multiples.Reads.Learnt κs a r e × Below 64 e.1.0.now)
unfolding Multiples
multiples_one_outcome κs a good asked o q x y =
    let g = x.kept.1.0 in
    let h = y.kept.1.0 in
    ap (λ (l : List ℕ). (tt, (tt, (l, tt))))
    (words_by_lanes o.1.1.0 q.1.1.0 (g ∙ sym h) x.promised.1 y.promised.1
    (λ k j l m. let n : k < 16 = omega arith in x.promised.0 k j n m ∙ sym (y.promised.0 k j n m)))

pub word_at_one_outcome : OneOutcome word_at.Kinds.ps word_at.Kinds.r word_at.Reads.Asked word_at.Reads.Learnt
unfolding WordAt
word_at_one_outcome κs a good asked o q x y =
    ap (λ (w : ℕ). (w, (tt, (tt, tt)))) (lanes_fix o.0 q.0 x.ranged y.ranged (λ k h. x.promised k h ∙ sym (y.promised k h)))

pub put_word_one_outcome : OneOutcome put_word.Kinds.ps put_word.Kinds.r put_word.Reads.Asked put_word.Reads.Learnt
put_word_one_outcome κs a good asked o q x y = ap (λ (l : List ℕ). (tt, (l, (tt, (tt, tt))))) (x.promised ∙ sym y.promised)

pub copy_words_one_outcome : OneOutcome copy-words.Kinds.ps copy-words.Kinds.r copy-words.Reads.Asked copy-words.Reads.Learnt
copy_words_one_outcome κs a good asked o q x y = ap (λ (l : List ℕ). (tt, (tt, (l, tt)))) (x.promised ∙ sym y.promised)
