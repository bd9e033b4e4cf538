-- The parts of an envelope laid one behind the other over the start of an output, and bytes cut into parts and put together again.
-- Assumes nothing.
use mathlib.Core.Path.{◌≡◌, refl, sym, ap, ap₂, ◌∙◌}
use mathlib.Core.List.{List, [], ◌∷◌, ◌++◌, append_assoc}
use Prim.Native.Nat.{ℕ, ◌+◌, ◌-◌, ◌≤◌}
use native.Mathlib.Nat.{zero-add}
use native.Mathlib.Omega.{arith}
use lib.ListN.{length, get_or, take, drop, length-append, length-drop, take-append-drop}
use lib.Seq.{take_all, drop-drop}
use Rattle.memory.specs.Lists.{over, put}
use Rattle.memory.proofs.Parts.{length-put, put_next, over-put, back}
use Rattle.memory.proofs.Sections.{put-nil, copied_part}
use Rattle.envelope.specs.Envelope.{header, header_bytes, envelope_of, between}
use Rattle.envelope.proofs.Heading.{header-bytes}

pub length-header : (version set length : ℕ) → lib.ListN.length (header_bytes (header version set length)) ≡ 3
length-header version set length = ap lib.ListN.length (header-bytes version set length)

pub length-envelope : (set : ℕ) (pk sig msg : List ℕ) → length (envelope_of set pk sig msg) ≡ 3 + length pk + length sig + length msg
unfolding envelope_of
length-envelope set pk sig msg = let h = length-header 1 set (length msg) in simp length-append (omega arith)

-- ---- a part of an output that is lent, copied over, and comes back

-- `laid` stands at the start of y, which was x; one part more is copied behind it
laid_next : (x y laid part l : List ℕ) (a e : ℕ) → y ≡ put x 0 laid → length laid ≡ a → a + length part ≡ e → e ≤ length x → l ≡ over part (between a e y)
    → back y a e l ≡ put x 0 (laid ++ part)
laid_next x y laid part l a e p s t h copied =
    let size : 0 + length laid ≤ length x = omega arith in
    let long : length y ≡ length x = ap length p ∙ length-put x 0 laid size in
    copied_part y a e part l (omega arith) (omega arith) (omega arith) copied
    ∙ ap₂ (λ (z : List ℕ) (k : ℕ). put z k part) p (sym s ∙ sym (zero-add (length laid)))
    ∙ put_next x 0 laid size part

-- header, key, signature and message, each copied behind the one before
module _ (set : ℕ) (x head pk sig msg l₁ l₂ l₃ l₄ : List ℕ) (at behind end : ℕ) where
  pub four_parts : head ≡ header_bytes (header 1 set (length msg)) → 3 + length pk ≡ at → at + length sig ≡ behind → behind + length msg ≡ end → end ≤ length x
      → l₁ ≡ over head (between 0 3 x)
      → l₂ ≡ over pk (between 3 at (back x 0 3 l₁))
      → l₃ ≡ over sig (between at behind (back (back x 0 3 l₁) 3 at l₂))
      → l₄ ≡ over msg (between behind end (back (back (back x 0 3 l₁) 3 at l₂) at behind l₃))
      → back (back (back (back x 0 3 l₁) 3 at l₂) at behind l₃) behind end l₄ ≡ over (envelope_of set pk sig msg) x
  unfolding envelope_of
  four_parts e f g i h a b c d =
      let three : length head ≡ 3 = ap length e ∙ length-header 1 set (length msg) in
      let none : put x 0 [] ≡ x = put-nil x 0 in
      let first = laid_next x x [] head l₁ 0 3 (sym none) refl (omega arith) (omega arith) a in
      let second = laid_next x _ head pk l₂ 3 at first three f (omega arith) b in
      let third = laid_next x _ (head ++ pk) sig l₃ at behind second (simp length-append (omega arith)) g (omega arith) c in
      let last = laid_next x _ ((head ++ pk) ++ sig) msg l₄ behind end third (simp length-append (omega arith)) i h d in
      let size : length (((head ++ pk) ++ sig) ++ msg) ≤ length x = simp length-append (omega arith) in
      last
      ∙ sym (over-put (((head ++ pk) ++ sig) ++ msg) x size)
      ∙ ap (λ (l : List ℕ). over l x) (simp append_assoc (ap (λ (l : List ℕ). l ++ (pk ++ (sig ++ msg))) e))

-- ---- a list cut and put together again

-- the first three bytes, by entries
pub first_three : (e : List ℕ) → 3 ≤ length e → take 3 e ≡ get_or e 0 0 ∷ get_or e 1 0 ∷ get_or e 2 0 ∷ []
first_three [] h = absurd (omega arith)
first_three (a ∷ []) h = absurd (omega arith)
first_three (a ∷ b ∷ []) h = absurd (omega arith)
first_three (a ∷ b ∷ c ∷ e) h = refl

-- a list cut at three places is put together again
pub cut_in_four : (e : List ℕ) (i j k n : ℕ) → i ≤ j → j ≤ k → k ≤ n → length e ≡ n
    → take i e ++ (take (j - i) (drop i e) ++ (take (k - j) (drop j e) ++ take (n - k) (drop k e))) ≡ e
cut_in_four e i j k n a b c h =
    let last : take (n - k) (drop k e) ≡ drop k e = take_all (n - k) (drop k e) (simp length-drop (omega arith)) in
    let third : take (k - j) (drop j e) ++ drop k e ≡ drop j e = behind j k b in
    let second : take (j - i) (drop i e) ++ drop j e ≡ drop i e = behind i j a in
    ap (λ (l : List ℕ). take i e ++ (take (j - i) (drop i e) ++ l)) (ap (λ (l : List ℕ). take (k - j) (drop j e) ++ l) last ∙ third)
    ∙ ap (λ (l : List ℕ). take i e ++ l) second
    ∙ take-append-drop i e
  where
    behind : (i j : ℕ) → i ≤ j → take (j - i) (drop i e) ++ drop j e ≡ drop i e
    behind i j h =
        ap (λ (l : List ℕ). take (j - i) (drop i e) ++ l) (ap (λ (k : ℕ). drop k e) (let f : j ≡ i + (j - i) = omega arith in f) ∙ sym (drop-drop (j - i) i e))
        ∙ take-append-drop (j - i) (drop i e)
