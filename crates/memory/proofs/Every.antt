-- Facts about all small numbers, or about all entries of a table, by one test that antt computes: a law turns the passed test into the fact at each place.
-- `same1`, `same2` and `same3` are for equations between functions of one, two and three numbers, `same_entries` for a table and its rule.
-- Assumes nothing.
use mathlib.Core.Path.{◌≡◌, ◌∙◌, subst, sym}
use mathlib.Core.Bool.{Bool, true, false}
use mathlib.Core.List.{List, [], ◌∷◌}
use Prim.Native.Nat.{ℕ, zero, suc, ◌+◌, ◌<◌}
use native.Mathlib.Nat.{add-zero, zero-add, add-suc, suc-add, le_of_suc-le-suc, not-suc-le-zero}
use native.Mathlib.Decide.{dec_lt}
use native.Mathlib.Omega.{arith}
use lib.Dec.{T, eqb, eqb→eq}
use lib.ListN.{length, get_or}

-- both tests pass
abbrev pub both : Bool → Bool → Bool
both true b = b
both false b = false

pub both_left : (a b : Bool) → T (both a b) → T a
both_left true b t = tt
both_left false b t = t

pub both_right : (a b : Bool) → T (both a b) → T b
both_right true b t = t
both_right false b t = absurd t

-- the test f passes at each number below n
abbrev pub every : ℕ → (ℕ → Bool) → Bool
every zero f = true
every (suc n) f = both (f n) (every n f)

-- the test f passes at each two numbers below n
abbrev pub every2 : ℕ → (ℕ → ℕ → Bool) → Bool
every2 n f = every n (λ a. every n (f a))

-- the test f passes at each three numbers below n
abbrev pub every3 : ℕ → (ℕ → ℕ → ℕ → Bool) → Bool
every3 n f = every n (λ a. every2 n (f a))

pub every_at : (n : ℕ) (f : ℕ → Bool) → T (every n f) → (k : ℕ) → k < n → T (f k)
every_at zero f t k h = absurd (not-suc-le-zero h)
every_at (suc n) f t k h =
    elim (dec_lt k n) as (λ d. T (f k)) [
      | yes y ↦ every_at n f (both_right (f n) (every n f) t) k y
      | no y ↦
          let e : n ≡ k = omega arith in
          subst (λ (m : ℕ). T (f m)) e (both_left (f n) (every n f) t)
    ]

pub every2_at : (n : ℕ) (f : ℕ → ℕ → Bool) → T (every2 n f) → (a b : ℕ) → a < n → b < n → T (f a b)
every2_at n f t a b ha hb = every_at n (f a) (every_at n (λ x. every n (f x)) t a ha) b hb

pub every3_at : (n : ℕ) (f : ℕ → ℕ → ℕ → Bool) → T (every3 n f) → (a b c : ℕ) → a < n → b < n → c < n → T (f a b c)
every3_at n f t a b c ha hb hc = every2_at n (f a) (every_at n (λ x. every2 n (f x)) t a ha) b c hb hc

-- two functions that a test finds equal below n are equal there
pub same1 : (n : ℕ) (f g : ℕ → ℕ) → T (every n (λ a. eqb (f a) (g a))) → (a : ℕ) → a < n → f a ≡ g a
same1 n f g t a ha = eqb→eq (f a) (g a) (every_at n (λ x. eqb (f x) (g x)) t a ha)

pub same2 : (n : ℕ) (f g : ℕ → ℕ → ℕ) → T (every2 n (λ a b. eqb (f a b) (g a b)))
    → (a b : ℕ) → a < n → b < n → f a b ≡ g a b
same2 n f g t a b ha hb = eqb→eq (f a b) (g a b) (every2_at n (λ x y. eqb (f x y) (g x y)) t a b ha hb)

pub same3 : (n : ℕ) (f g : ℕ → ℕ → ℕ → ℕ) → T (every3 n (λ a b c. eqb (f a b c) (g a b c)))
    → (a b c : ℕ) → a < n → b < n → c < n → f a b c ≡ g a b c
same3 n f g t a b c ha hb hc =
    eqb→eq (f a b c) (g a b c) (every3_at n (λ x y z. eqb (f x y z) (g x y z)) t a b c ha hb hc)

-- the test f passes at each entry of a list and its place, counted from i
abbrev pub every_entry : (ℕ → ℕ → Bool) → ℕ → List ℕ → Bool
every_entry f i [] = true
every_entry f i (x ∷ xs) = both (f i x) (every_entry f (suc i) xs)

every_entry_from : (f : ℕ → ℕ → Bool) (xs : List ℕ) (i : ℕ) → T (every_entry f i xs)
    → (k : ℕ) → k < length xs → T (f (i + k) (get_or xs k 0))
every_entry_from f [] i t k h = absurd (not-suc-le-zero h)
every_entry_from f (x ∷ xs) i t zero h =
    subst (λ (m : ℕ). T (f m x)) (sym (add-zero i)) (both_left (f i x) (every_entry f (suc i) xs) t)
every_entry_from f (x ∷ xs) i t (suc k) h =
    subst (λ (m : ℕ). T (f m (get_or xs k 0))) (suc-add i k ∙ sym (add-suc i k))
    (every_entry_from f xs (suc i) (both_right (f i x) (every_entry f (suc i) xs) t) k (le_of_suc-le-suc h))

pub every_entry_at : (f : ℕ → ℕ → Bool) (xs : List ℕ) → T (every_entry f 0 xs) → (k : ℕ) → k < length xs → T (f k (get_or xs k 0))
every_entry_at f xs t k h = subst (λ (m : ℕ). T (f m (get_or xs k 0))) (zero-add k) (every_entry_from f xs 0 t k h)

-- a table whose every entry a test finds equal to its rule follows the rule
pub same_entries : (xs : List ℕ) (f : ℕ → ℕ) → T (every_entry (λ k x. eqb x (f k)) 0 xs)
    → (k : ℕ) → k < length xs → get_or xs k 0 ≡ f k
same_entries xs f t k h = eqb→eq (get_or xs k 0) (f k) (every_entry_at (λ j x. eqb x (f j)) xs t k h)
