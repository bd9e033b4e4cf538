-- Parts of a list that are lent, come back and are laid one behind the other: the steps that the crate memory lacks. Assumes nothing.
use mathlib.Core.Path.{◌≡◌, refl, sym, ap, ap₂, ◌∙◌}
use mathlib.Core.List.{List, [], ◌++◌, append_assoc, append-nil}
use Prim.Native.Nat.{ℕ, ◌+◌, ◌-◌, ◌≤◌}
use native.Mathlib.Nat.{sub-zero}
use native.Mathlib.Omega.{arith}
use lib.ListN.{length, take, drop, length-append}
use lib.Seq.{take_at, drop_at, take-take, drop-drop, drop-length}
use Rattle.memory.specs.Lists.{put}
use Rattle.memory.proofs.Parts.{length-lent, length_back, take_put, drop-put}
use Rattle.memory.proofs.Sections.{drop-take}

-- ---- one part

-- the lengths of the first entries, lent and back
pub length-first : (x : List ℕ) (e : ℕ) → e ≤ length x → length (take (e - 0) x) ≡ e
length-first x e h = length-lent x 0 e (omega arith) h ∙ sub-zero e

pub length-first_back : (x new : List ℕ) (e : ℕ) → e ≤ length x → length new ≡ length (take (e - 0) x) → length (new ++ drop (e - 0) x) ≡ length x
length-first_back x new e h n = length_back x new 0 e (omega arith) h (n ∙ length-lent x 0 e (omega arith) h)

-- a part of the first n entries
pub part_of_taken : (x : List ℕ) (a k n : ℕ) → a + k ≤ n → take k (drop a (take n x)) ≡ take k (drop a x)
part_of_taken x a k n h =
    let e : n ≡ a + (n - a) = omega arith in
    ap (λ (j : ℕ). take k (drop a (take j x))) e ∙ ap (take k) (drop-take a (n - a) x) ∙ take-take k (n - a) (drop a x) (omega arith)

-- what lies in front of a part that was put stays
pub take-before-put : (old : List ℕ) (at : ℕ) (new : List ℕ) (k : ℕ) → at + length new ≤ length old → k ≤ at → take k (put old at new) ≡ take k old
take-before-put old at new k fits h = sym (take-take k at (put old at new) h) ∙ ap (take k) (take_put old at new fits) ∙ take-take k at old h

-- and what lies behind it
pub drop-behind-put : (old : List ℕ) (at : ℕ) (new : List ℕ) (k : ℕ) → at + length new ≤ length old → at + length new ≤ k → drop k (put old at new) ≡ drop k old
drop-behind-put old at new k fits h =
    let q : k ≡ at + length new + (k - (at + length new)) = omega arith in
    ap (λ (i : ℕ). drop i (put old at new)) q
    ∙ sym (drop-drop (k - (at + length new)) (at + length new) (put old at new))
    ∙ ap (drop (k - (at + length new))) (drop-put old at new fits)
    ∙ drop-drop (k - (at + length new)) (at + length new) old
    ∙ ap (λ (i : ℕ). drop i old) (sym q)

-- ---- parts one behind the other

-- a part is written behind those that stand already
section_more : (p x cur old : List ℕ) (a e : ℕ) → length p ≡ a → length x ≡ e - a → a ≤ e → cur ≡ p ++ drop a old
    → take a cur ++ (x ++ drop (e - a) (drop a cur)) ≡ (p ++ x) ++ drop e old
section_more p x cur old a e ep ex h ec =
    let z : a + (e - a) ≡ e = omega arith in
    ap₂ (λ (u v : List ℕ). u ++ (x ++ drop (e - a) v))
    (ap (take a) ec ∙ take_at p (drop a old) a ep)
    (ap (drop a) ec ∙ drop_at p (drop a old) a ep)
    ∙ ap (λ (v : List ℕ). p ++ (x ++ v)) (drop-drop (e - a) a old ∙ ap (λ (k : ℕ). drop k old) z)
    ∙ sym (append_assoc p x (drop e old))

-- how long the four parts are that end at a, b, c and d
pub record FourSizes (a b c d first second third fourth : ℕ) : Type 0 where
  pub first_is : first ≡ a
  pub second_is : second ≡ b - a
  pub third_is : third ≡ c - b
  pub fourth_is : fourth ≡ d - c

-- three parts of a list of d entries lent one after another, up to a, b and c
module _ (x y z old v₁ v₂ v₃ : List ℕ) (a b c d : ℕ) (ab : a ≤ b) (bc : b ≤ c) (cd : c ≤ d) (room : length old ≡ d)
    (e₁ : v₁ ≡ take 0 old ++ (x ++ drop (a - 0) (drop 0 old)))
    (e₂ : v₂ ≡ take a v₁ ++ (y ++ drop (b - a) (drop a v₁)))
    (e₃ : v₃ ≡ take b v₂ ++ (z ++ drop (c - b) (drop b v₂))) where
  module _ (kx : length x ≡ length (take (a - 0) (drop 0 old))) (ky : length y ≡ length (take (b - a) (drop a v₁))) (kz : length z ≡ length (take (c - b) (drop b v₂))) where
    size_first : length (take (a - 0) (drop 0 old)) ≡ a
    size_first = length-first old a (omega arith)

    whole₁ : length v₁ ≡ d
    whole₁ = ap length e₁ ∙ length-first_back old x a (omega arith) kx ∙ room

    size_second : length (take (b - a) (drop a v₁)) ≡ b - a
    size_second = let l = whole₁ in length-lent v₁ a b ab (omega arith)

    whole₂ : length v₂ ≡ d
    whole₂ = let l = whole₁ in ap length e₂ ∙ length_back v₁ y a b ab (omega arith) (ky ∙ size_second) ∙ l

    size_third : length (take (c - b) (drop b v₂)) ≡ c - b
    size_third = let l = whole₂ in length-lent v₂ b c bc (omega arith)

    whole₃ : length v₃ ≡ d
    whole₃ = let l = whole₂ in ap length e₃ ∙ length_back v₂ z b c bc (omega arith) (kz ∙ size_third) ∙ l

    size_fourth : length (take (d - c) (drop c v₃)) ≡ d - c
    size_fourth = let l = whole₃ in length-lent v₃ c d cd (omega arith)

    -- each of them and the rest, as they are lent
    pub four_sizes : FourSizes a b c d (length (take (a - 0) (drop 0 old))) (length (take (b - a) (drop a v₁))) (length (take (c - b) (drop b v₂))) (length (take (d - c) (drop c v₃)))
    four_sizes = record { first_is = size_first; second_is = size_second; third_is = size_third; fourth_is = size_fourth }

    pub four_length : (w v₄ : List ℕ) → v₄ ≡ take c v₃ ++ (w ++ drop (d - c) (drop c v₃)) → length w ≡ length (take (d - c) (drop c v₃)) → length v₄ ≡ length old
    four_length w v₄ e₄ kw = let l = whole₃ in ap length e₄ ∙ length_back v₃ w c d cd (omega arith) (kw ∙ size_fourth) ∙ (l ∙ sym room)

  -- with the rest lent too, they are the whole
  pub four_sections : (w v₄ : List ℕ) → v₄ ≡ take c v₃ ++ (w ++ drop (d - c) (drop c v₃))
      → length x ≡ a → length y ≡ b - a → length z ≡ c - b → length w ≡ d - c → v₄ ≡ x ++ (y ++ (z ++ w))
  four_sections w v₄ e₄ lx ly lz lw =
      let first : length x ≡ a - 0 = omega arith in
      let s₁ : v₁ ≡ x ++ drop a old = e₁ ∙ section_more [] x old old 0 a refl first (omega arith) refl in
      let s₂ : v₂ ≡ (x ++ y) ++ drop b old = e₂ ∙ section_more x y v₁ old a b lx ly ab s₁ in
      let s₃ : v₃ ≡ ((x ++ y) ++ z) ++ drop c old = e₃ ∙ section_more (x ++ y) z v₂ old b c (simp length-append (omega arith)) lz bc s₂ in
      e₄
      ∙ section_more ((x ++ y) ++ z) w v₃ old c d (simp length-append (omega arith)) lw cd s₃
      ∙ ap (λ (l : List ℕ). (((x ++ y) ++ z) ++ w) ++ l) (ap (λ (k : ℕ). drop k old) (sym room) ∙ drop-length old)
      ∙ append-nil (((x ++ y) ++ z) ++ w)
      ∙ append_assoc (x ++ y) z w
      ∙ append_assoc x y (z ++ w)
