-- Words written to bytes one after another. Assumes nothing.
use mathlib.Core.List.{List}
use mathlib.Core.Path.{◌≡◌, sym, ap, ◌∙◌}
use Prim.Native.Nat.{ℕ, ◌+◌, ◌*◌, ◌≤◌, ◌<◌}
use native.Mathlib.Decide.{dec_lt}
use native.Mathlib.Omega.{arith}
use lib.ListN.{length, get_or, drop}
use Rattle.memory.specs.Lists.{put}
use Rattle.field.specs.Packing.{nib}
use Rattle.lanes.specs.Lanes.{lane, word_bytes}
use Rattle.lanes.proofs.Bytes.{nib-put-before, nib-put_word, length-word_bytes, put-behind}
use Rattle.marks.specs.Marks.{HoldsWords, WordsStored}

-- the first n words are written
unfoldable pub StoredTo : ℕ → List ℕ → List ℕ → Type 0
StoredTo n words bytes = (k q : ℕ) → k < n → q < 16 → nib bytes (16 * k + q) ≡ lane q (get_or words k 0)

pub stored_none : (words bytes : List ℕ) → StoredTo 0 words bytes
unfolding StoredTo
stored_none words bytes k q h l = absurd (omega arith)

-- one word more
pub stored_more : (words bytes new : List ℕ) (n : ℕ) → 8 * n + 8 ≤ length bytes → new ≡ put bytes (8 * n) (word_bytes (get_or words n 0)) → StoredTo n words bytes → StoredTo (n + 1) words new
unfolding StoredTo
stored_more words bytes new n room e s k q h l =
    ap (λ (x : List ℕ). nib x (16 * k + q)) e
    ∙ elim (dec_lt k n) as (λ d. nib (put bytes (8 * n) (word_bytes (get_or words n 0))) (16 * k + q) ≡ lane q (get_or words k 0)) [
      | yes y ↦ (let z = length-word_bytes (get_or words n 0) in nib-put-before bytes (8 * n) (word_bytes (get_or words n 0)) (omega arith) (16 * k + q) (omega arith)) ∙ s k q y l
      | no y ↦ (let i : k ≡ n = omega arith in
          let j : 16 * k + q ≡ 2 * (8 * n) + q = omega arith in
          ap (nib (put bytes (8 * n) (word_bytes (get_or words n 0)))) j ∙ nib-put_word bytes (8 * n) (get_or words n 0) q room l ∙ ap (λ (x : ℕ). lane q (get_or words x 0)) (sym i))
    ]

-- what lies behind all words is not touched
pub behind_more : (words old bytes new : List ℕ) (n : ℕ) → n < length words → 8 * length words ≤ length bytes → new ≡ put bytes (8 * n) (word_bytes (get_or words n 0))
    → drop (8 * length words) bytes ≡ drop (8 * length words) old → drop (8 * length words) new ≡ drop (8 * length words) old
behind_more words old bytes new n h room e s =
    ap (drop (8 * length words)) e ∙ put-behind bytes (8 * n) (8 * length words) (get_or words n 0) (omega arith) (omega arith) ∙ s

pub stored_all : (words old bytes : List ℕ) (n : ℕ) → length words ≤ n → StoredTo n words bytes → drop (8 * length words) bytes ≡ drop (8 * length words) old → WordsStored words old bytes
unfolding StoredTo HoldsWords
stored_all words old bytes n h s r = record { elements = λ k q l g. s k q (omega arith) g; rest = r }
