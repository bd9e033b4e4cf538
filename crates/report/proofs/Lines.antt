-- The two lines: how long they are, and how their parts are laid one behind the other.
-- Assumes nothing.
use mathlib.Core.Path.{◌≡◌, sym, ap, ap₂, ◌∙◌}
use mathlib.Core.List.{List, ◌++◌, append_assoc}
use Prim.Native.Nat.{ℕ, ◌+◌, ◌≤◌, ◌<◌}
use native.Mathlib.Nat.{zero-add}
use native.Mathlib.Omega.{arith}
use lib.ListN.{length, length-append}
use Rattle.memory.specs.Lists.{over, put}
use Rattle.memory.proofs.Parts.{put_next, over-put}
use Rattle.envelope.specs.declared.Header.{Header}
use Rattle.report.specs.Decimal.{decimal}
use Rattle.report.specs.Report.{genuine_word, refused_word, space, line_end, genuine_line, refused_line}
use Rattle.report.proofs.Digits.{decimal-short}

-- ---- lengths

pub length_refused : (number : ℕ) → length (refused_line number) ≡ 9 + length (decimal number)
unfolding refused_line refused_word
length_refused number = simp length-append (omega arith)

pub length_genuine : (h : Header) → length (genuine_line h) ≡ 10 + length (decimal h.set) + length (decimal h.length)
unfolding genuine_line genuine_word
length_genuine h = simp length-append (omega arith)

-- sixteen bytes are room for every line
pub refused_fits : (number : ℕ) → number < 256 → length (refused_line number) ≤ 16
refused_fits number h =
    let l = length_refused number in
    let d = decimal-short 2 number (omega arith) in
    omega arith

pub genuine_fits : (h : Header) → h.set < 10 → h.length < 100000 → length (genuine_line h) ≤ 16
genuine_fits h s n =
    let l = length_genuine h in
    let d = decimal-short 0 h.set (omega arith) in
    let e = decimal-short 4 h.length (omega arith) in
    omega arith

-- ---- parts laid one behind the other

-- `laid` stands at the start of t, which was text; one part more is put behind it
put_on : (text t laid part u : List ℕ) (at : ℕ) → t ≡ put text 0 laid → at ≡ length laid → at + length part ≤ length text → u ≡ put t at part → u ≡ put text 0 (laid ++ part)
put_on text t laid part u at p e h q =
    q ∙ ap₂ (λ (x : List ℕ) (k : ℕ). put x k part) p (e ∙ sym (zero-add (length laid))) ∙ put_next text 0 laid (omega arith) part

module _ (text : List ℕ) (number : ℕ) (room : length (refused_line number) ≤ length text) (t₁ t₂ t₃ : List ℕ) (i j k : ℕ) where
  pub refused_laid : i ≡ 0 + 8 → t₁ ≡ put text 0 refused_word → j ≡ i + length (decimal number) → t₂ ≡ put t₁ i (decimal number) → k ≡ j + 1 → t₃ ≡ put t₂ j line_end
      → (k ≡ length (refused_line number)) × (t₃ ≡ put text 0 (refused_line number))
  unfolding refused_line refused_word
  refused_laid a p b q c r =
      let l = length_refused number in
      let second = put_on text t₁ refused_word (decimal number) t₂ i p (omega arith) (omega arith) q in
      let third = put_on text t₂ (refused_word ++ decimal number) line_end t₃ j second (simp length-append (omega arith)) (omega arith) r in
      (omega arith, third)

module _ (text : List ℕ) (h : Header) (room : length (genuine_line h) ≤ length text) (t₁ t₂ t₃ t₄ t₅ : List ℕ) (i₁ i₂ i₃ i₄ i₅ : ℕ) where
  pub genuine_laid : i₁ ≡ 0 + 8 → t₁ ≡ put text 0 genuine_word → i₂ ≡ i₁ + length (decimal h.set) → t₂ ≡ put t₁ i₁ (decimal h.set)
      → i₃ ≡ i₂ + 1 → t₃ ≡ put t₂ i₂ space → i₄ ≡ i₃ + length (decimal h.length) → t₄ ≡ put t₃ i₃ (decimal h.length)
      → i₅ ≡ i₄ + 1 → t₅ ≡ put t₄ i₄ line_end
      → (i₅ ≡ length (genuine_line h)) × (t₅ ≡ put text 0 (genuine_line h))
  unfolding genuine_line genuine_word
  genuine_laid a₁ p₁ a₂ p₂ a₃ p₃ a₄ p₄ a₅ p₅ =
      let l = length_genuine h in
      let second = put_on text t₁ genuine_word (decimal h.set) t₂ i₁ p₁ (omega arith) (omega arith) p₂ in
      let third = put_on text t₂ (genuine_word ++ decimal h.set) space t₃ i₂ second (simp length-append (omega arith)) (omega arith) p₃ in
      let fourth = put_on text t₃ ((genuine_word ++ decimal h.set) ++ space) (decimal h.length) t₄ i₃ third (simp length-append (omega arith)) (omega arith) p₄ in
      let fifth = put_on text t₄ (((genuine_word ++ decimal h.set) ++ space) ++ decimal h.length) line_end t₅ i₄ fourth (simp length-append (omega arith)) (omega arith) p₅ in
      (omega arith, fifth ∙ ap (put text 0) (simp append_assoc))

-- ---- a line that is put where it is written over the start

pub put_over : (text new before after : List ℕ) (n : ℕ) → text ≡ new → length text ≤ length before → n ≡ length new → after ≡ put before 0 new
    → (n ≡ length text) × (after ≡ over text before)
put_over text new before after n e room c p =
    let size = ap length e in
    (c ∙ sym size, p ∙ sym (over-put new before (omega arith)) ∙ ap (λ (x : List ℕ). over x before) (sym e))
