-- A number in decimal, digit by digit: one digit below 10, and otherwise those of the tenth and one more; how many there are.
-- Assumes nothing.
use mathlib.Core.Path.{◌≡◌, sym, ap, ap₂, ◌∙◌}
use mathlib.Core.Bool.{Bool, cond}
use mathlib.Core.List.{List, [], ◌∷◌, ◌++◌}
use Prim.Native.Nat.{ℕ, zero, suc, ◌+◌, ◌/◌, ◌%◌, ◌^◌, ◌≤◌, ◌<◌}
use native.Mathlib.Nat.{pow-suc}
use native.Mathlib.Omega.{arith}
use native.Mathlib.Decide.{dec_lt}
use lib.ListN.{length, set, length-append}
use borrow.Author.Tests.{lt-ltb, le-ltb}
use Rattle.memory.specs.Lists.{put}
use Rattle.memory.proofs.Parts.{length-put, put_next, set-put}
use Rattle.report.specs.Decimal.{digit, last_digits, decimal}

one-digit : (many n : ℕ) → n < 10 → last_digits (suc many) n ≡ digit n ∷ []
unfolding last_digits
one-digit many n h = ap (λ (b : Bool). cond b (digit n ∷ []) (last_digits many (n / 10) ++ (digit (n % 10) ∷ []))) (lt-ltb n 10 h)

more_digits : (many n : ℕ) → 10 ≤ n → last_digits (suc many) n ≡ last_digits many (n / 10) ++ (digit (n % 10) ∷ [])
unfolding last_digits
more_digits many n h = ap (λ (b : Bool). cond b (digit n ∷ []) (last_digits many (n / 10) ++ (digit (n % 10) ∷ []))) (le-ltb n 10 h)

-- more than enough digits are enough
enough_digits : (f g n : ℕ) → n < f → n < g → last_digits f n ≡ last_digits g n
enough_digits zero g n h k = absurd (omega arith)
enough_digits (suc f) zero n h k = absurd (omega arith)
enough_digits (suc f) (suc g) n h k =
    elim (dec_lt n 10) as (λ d. last_digits (suc f) n ≡ last_digits (suc g) n) [
      | yes l ↦ one-digit f n l ∙ sym (one-digit g n l)
      | no l ↦ (let t : 10 ≤ n = omega arith in
          more_digits f n t
          ∙ ap (λ (x : List ℕ). x ++ (digit (n % 10) ∷ [])) (enough_digits f g (n / 10) (omega arith) (omega arith))
          ∙ sym (more_digits g n t))
    ]

pub decimal-one : (n : ℕ) → n < 10 → decimal n ≡ digit n ∷ []
unfolding decimal
decimal-one n h = one-digit n n h

pub decimal_more : (n : ℕ) → 10 ≤ n → decimal n ≡ decimal (n / 10) ++ (digit (n % 10) ∷ [])
unfolding decimal
decimal_more n h =
    more_digits n n h ∙ ap (λ (x : List ℕ). x ++ (digit (n % 10) ∷ [])) (enough_digits n (suc (n / 10)) (n / 10) (omega arith) (omega arith))

-- a number below a power of ten has no more digits
pub decimal-short : (k n : ℕ) → n < 10 ^ suc k → length (decimal n) ≤ suc k
decimal-short zero n h =
    let e = ap length (decimal-one n (let p = pow-suc 10 0 in omega arith)) in
    omega arith
decimal-short (suc k) n h =
    elim (dec_lt n 10) as (λ d. length (decimal n) ≤ suc (suc k)) [
      | yes l ↦ (let e = ap length (decimal-one n l) in omega arith)
      | no l ↦ (let p = pow-suc 10 (suc k) in
          let r = decimal-short k (n / 10) (omega arith) in
          let e = ap length (decimal_more n (omega arith)) ∙ length-append (decimal (n / 10)) (digit (n % 10) ∷ []) in
          omega arith)
    ]

-- ---- digits put into a text from the place `at` on

pub room_of_tenth : (n at size : ℕ) → 10 ≤ n → at + length (decimal n) ≤ size → at + length (decimal (n / 10)) + 1 ≤ size
room_of_tenth n at size h room =
    let e = ap length (decimal_more n h) ∙ length-append (decimal (n / 10)) (digit (n % 10) ∷ []) in
    omega arith

module _ (n at : ℕ) (text : List ℕ) (room : at + length (decimal n) ≤ length text) where
  pub one-room : n < 10 → at < length text
  one-room h = let e = ap length (decimal-one n h) in omega arith

  pub one_place : n < 10 → at + 1 ≡ at + length (decimal n)
  one_place h = let e = ap length (decimal-one n h) in omega arith

  pub one-put : n < 10 → set text at (digit n) ≡ put text at (decimal n)
  one-put h = set-put text at (digit n) (one-room h) ∙ ap (put text at) (sym (decimal-one n h))

  -- the digits of the tenth are put, and the last digit behind them
  module _ (h : 10 ≤ n) (last : ℕ) (mid : List ℕ) (there : last ≡ at + length (decimal (n / 10))) (laid : mid ≡ put text at (decimal (n / 10))) where
    tenth_fits : at + length (decimal (n / 10)) ≤ length text
    tenth_fits = let r = room_of_tenth n at (length text) h room in omega arith

    pub last-room : last < length mid
    last-room =
        let r = room_of_tenth n at (length text) h room in
        let e = ap length laid ∙ length-put text at (decimal (n / 10)) tenth_fits in
        omega arith

    pub last-place : last + 1 ≡ at + length (decimal n)
    last-place =
        let e = ap length (decimal_more n h) ∙ length-append (decimal (n / 10)) (digit (n % 10) ∷ []) in
        omega arith

    pub last-put : set mid last (digit (n % 10)) ≡ put text at (decimal n)
    last-put =
        set-put mid last (digit (n % 10)) last-room
        ∙ ap₂ (λ (l : List ℕ) (k : ℕ). put l k (digit (n % 10) ∷ [])) laid there
        ∙ put_next text at (decimal (n / 10)) tenth_fits (digit (n % 10) ∷ [])
        ∙ ap (put text at) (sym (decimal_more n h))
