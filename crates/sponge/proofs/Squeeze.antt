-- Squeezing: in turns as in one go, within a block by the bytes of the state, and a long output as the blocks of FIPS 202.
-- Assumes nothing.
use mathlib.Core.Path.{◌≡◌, refl, sym, ap, ap₂, ◌∙◌}
use mathlib.Core.Bool.{Bool, cond}
use mathlib.Core.List.{List, [], ◌∷◌, ◌++◌, append_assoc, append-nil}
use Prim.Native.Nat.{ℕ, zero, suc, ◌+◌, ◌-◌, ◌*◌, ◌≤◌, ◌<◌, min}
use native.Mathlib.Nat.{add-zero, add-suc, zero-add, mod-lt}
use native.Mathlib.Decide.{dec_lt}
use native.Mathlib.Omega.{arith}
use borrow.Author.Tests.{lt-ltb, le-ltb}
use lib.ListN.{length, get_or, take, drop, length-append, length-drop}
use lib.Seq.{take-append-le, take-append-add, take-nil, length-take-le}
use borrow.Rule.Slice.PartMut.{put_mid}
use Rattle.std.proofs.lemmas.Slice.{take-put_mid}
use Rattle.memory.specs.Lists.{table}
use Rattle.memory.proofs.Lists.{length-table, table_same}
use Rattle.memory.proofs.Bytes.{take-table, get_or-snoc-lt}
use Rattle.keccak.specs.Keccak.{keccak_f}
use Rattle.sponge.specs.declared.Tape.{Tape}
use Rattle.sponge.specs.Sponge.{rate, byte_at, squeezing}
use Rattle.sponge.specs.Steps.{tape, ready, next, moved, given, bytes_from}

-- ---- in turns

pub moved-append : (t : Tape) (m n : ℕ) → moved (moved t m) n ≡ moved t (m + n)
unfolding moved
moved-append t m zero = ap (moved t) (sym (add-zero m))
moved-append t m (suc n) =
    ap (λ (u : Tape). tape (ready u).lanes ((ready u).at + 1)) (moved-append t m n) ∙ ap (moved t) (sym (add-suc m n))

pub given-append : (t : Tape) (m n : ℕ) → given t (m + n) ≡ given t m ++ given (moved t m) n
unfolding given
given-append t m zero = ap (given t) (add-zero m) ∙ sym (append-nil (given t m))
given-append t m (suc n) =
    ap (given t) (add-suc m n)
    ∙ ap₂ (λ (x : List ℕ) (u : Tape). x ++ (next u ∷ [])) (given-append t m n) (sym (moved-append t m n))
    ∙ append_assoc (given t m) (given (moved t m) n) (next (moved (moved t m) n) ∷ [])

pub length-given : (t : Tape) (n : ℕ) → length (given t n) ≡ n
unfolding given
length-given t zero = refl
length-given t (suc n) = length-append (given t n) (next (moved t n) ∷ []) ∙ (let e = length-given t n in omega arith)

next_byte : (t : Tape) → next t < 256
unfolding next byte_at
next_byte t = mod-lt _ (omega arith)

pub given-bytes : (t : Tape) (n i : ℕ) → get_or (given t n) i 0 < 256
unfolding given
given-bytes t zero i = omega arith
given-bytes t (suc n) i = get_or-snoc-lt 256 (given t n) (next (moved t n)) (given-bytes t n) (next_byte (moved t n)) i

-- ---- a tape that has a byte to give

pub ready_open : (S : List ℕ) (at : ℕ) → at < rate → ready (tape S at) ≡ tape S at
unfolding ready
ready_open S at h = ap (λ (b : Bool). cond b (tape S at) (tape (keccak_f S) 0)) (lt-ltb at rate h)

pub ready_spent : (S : List ℕ) (at : ℕ) → rate ≤ at → ready (tape S at) ≡ tape (keccak_f S) 0
unfolding ready
ready_spent S at h = ap (λ (b : Bool). cond b (tape S at) (tape (keccak_f S) 0)) (le-ltb at rate h)

ready-ready : (t : Tape) → ready (ready t) ≡ ready t
ready-ready t =
    elim (dec_lt t.at rate) as (λ d. ready (ready t) ≡ ready t) [
      | yes h ↦ ap ready (ready_open t.lanes t.at h)
      | no h ↦ (let g : rate ≤ t.at = omega arith in
          ap ready (ready_spent t.lanes t.at g) ∙ ready_open (keccak_f t.lanes) 0 (omega arith) ∙ sym (ready_spent t.lanes t.at g))
    ]

pub moved_ready : (t : Tape) (n : ℕ) → moved (ready t) (suc n) ≡ moved t (suc n)
unfolding moved
moved_ready t zero = ap (λ (u : Tape). tape u.lanes (u.at + 1)) (ready-ready t)
moved_ready t (suc n) = ap (λ (u : Tape). tape (ready u).lanes ((ready u).at + 1)) (moved_ready t n)

next-ready : (t : Tape) (n : ℕ) → next (moved (ready t) n) ≡ next (moved t n)
unfolding next moved
next-ready t zero = ap (λ (u : Tape). byte_at u.lanes u.at) (ready-ready t)
next-ready t (suc n) = ap next (moved_ready t n)

pub given-ready : (t : Tape) (n : ℕ) → given (ready t) n ≡ given t n
unfolding given
given-ready t zero = refl
given-ready t (suc n) = ap₂ (λ (x : List ℕ) (b : ℕ). x ++ (b ∷ [])) (given-ready t n) (next-ready t n)

-- ---- within a block

pub moved_run : (S : List ℕ) (at n : ℕ) → at + n ≤ rate → moved (tape S at) n ≡ tape S (at + n)
unfolding moved
moved_run S at zero h = ap (tape S) (sym (add-zero at))
moved_run S at (suc n) h =
    ap (λ (u : Tape). tape u.lanes (u.at + 1)) (ap ready (moved_run S at n (omega arith)) ∙ ready_open S (at + n) (omega arith))
    ∙ ap (tape S) (let e : at + n + 1 ≡ at + suc n = omega arith in e)

pub given_run : (S : List ℕ) (at n : ℕ) → at + n ≤ rate → given (tape S at) n ≡ bytes_from S at n
unfolding given bytes_from table next
given_run S at zero h = refl
given_run S at (suc n) h =
    ap₂ (λ (x : List ℕ) (u : Tape). x ++ (byte_at u.lanes u.at ∷ [])) (given_run S at n (omega arith))
    (ap ready (moved_run S at n (omega arith)) ∙ ready_open S (at + n) (omega arith))

-- ---- whole blocks

given-block : (S : List ℕ) (n : ℕ) → n ≤ rate → given (tape S 0) n ≡ table n (byte_at S)
unfolding bytes_from
given-block S n h = given_run S 0 n (omega arith) ∙ table_same n (λ i. byte_at S (0 + i)) (byte_at S) (λ i k. ap (byte_at S) (zero-add i))

given_none : (t : Tape) → given t 0 ≡ []
unfolding given
given_none t = refl

further : (k : ℕ) (S : List ℕ) (n : ℕ) → rate < n → given (tape (keccak_f S) 0) (n - rate) ≡ take (n - rate) (squeezing k (keccak_f S))
    → given (tape S 0) n ≡ take n (table rate (byte_at S) ++ squeezing k (keccak_f S))
further k S n h rest =
    ap (given (tape S 0)) whole
    ∙ given-append (tape S 0) rate (n - rate)
    ∙ ap₂ (λ (x y : List ℕ). x ++ y) (given-block S rate (omega arith))
    (ap (λ (t : Tape). given t (n - rate)) (moved_run S 0 rate (omega arith))
    ∙ sym (given-ready (tape S rate) (n - rate))
    ∙ ap (λ (t : Tape). given t (n - rate)) (ready_spent S rate (omega arith))
    ∙ rest)
    ∙ sym (take-append-add (table rate (byte_at S)) (squeezing k (keccak_f S)) (n - rate))
    ∙ ap (λ (j : ℕ). take j (table rate (byte_at S) ++ squeezing k (keccak_f S))) (ap (λ (j : ℕ). j + (n - rate)) (length-table rate (byte_at S)) ∙ sym whole)
  where
    whole : n ≡ rate + (n - rate)
    whole = omega arith

pub given-squeezing : (k : ℕ) (S : List ℕ) (n : ℕ) → n ≤ rate * k → given (tape S 0) n ≡ take n (squeezing k S)
unfolding squeezing
given-squeezing zero S n h = (let e : n ≡ 0 = omega arith in ap (given (tape S 0)) e ∙ given_none (tape S 0)) ∙ sym (take-nil n)
given-squeezing (suc k) S n h =
    elim (dec_lt rate n) as (λ d. given (tape S 0) n ≡ take n (table rate (byte_at S) ++ squeezing k (keccak_f S))) [
      | yes y ↦ further k S n y (given-squeezing k (keccak_f S) (n - rate) (omega arith))
      | no y ↦ given-block S n (omega arith) ∙ sym (take-append-le n (table rate (byte_at S)) (squeezing k (keccak_f S)) (let l = length-table rate (byte_at S) in omega arith) ∙ take-table n rate (byte_at S) (omega arith))
    ]

-- ---- a turn of the loop over an output: as much of it as the block has

pub ready-place : (t r : Tape) → r ≡ ready t → r.at < rate
ready-place t r e =
    elim (dec_lt t.at rate) as (λ d. r.at < rate) [
      | yes h ↦ (let g = ap (λ (s : Tape). s.at) (e ∙ ready_open t.lanes t.at h) in omega arith)
      | no h ↦ (let g = ap (λ (s : Tape). s.at) (e ∙ ready_spent t.lanes t.at (let k : rate ≤ t.at = omega arith in k)) in omega arith)
    ]

moved-ready_pos : (t : Tape) (n : ℕ) → 0 < n → moved (ready t) n ≡ moved t n
moved-ready_pos t zero h = absurd (omega arith)
moved-ready_pos t (suc n) h = moved_ready t n

module _ (t : Tape) (i n : ℕ) (out : List ℕ) (u r : Tape)
    (h : i < length out) (renewed : r ≡ ready u) (en : n ≡ min (rate - r.at) (length out - i)) (behind : u ≡ moved t i) where
  place : r.at < rate
  place = ready-place u r renewed

  pub squeeze_moved : tape r.lanes (r.at + n) ≡ moved t (i + n)
  squeeze_moved =
      let p = place in
      sym (moved_run r.lanes r.at n (omega arith))
      ∙ ap (λ (v : Tape). moved v n) renewed
      ∙ moved-ready_pos u n (omega arith)
      ∙ ap (λ (v : Tape). moved v n) behind
      ∙ moved-append t i n

  pub squeeze_given : (ys : List ℕ) → take i out ≡ given t i → ys ≡ bytes_from r.lanes r.at (length (take (i + n - i) (drop i out)))
      → take (i + n) (put_mid i (i + n - i) out ys) ≡ given t (i + n)
  squeeze_given ys so_far new =
      take-put_mid i (i + n - i) out ys (i + n) (omega (arith, long)) (omega arith)
      ∙ ap₂ (λ (x y : List ℕ). x ++ y) so_far given_next
      ∙ sym (given-append t i n)
    where
      lent : length (take (i + n - i) (drop i out)) ≡ n
      lent = length-take-le (i + n - i) (drop i out) (let p = place in simp length-drop (omega arith)) ∙ (let g : i + n - i ≡ n = omega arith in g)

      given_next : ys ≡ given (moved t i) n
      given_next =
          let p = place in
          new ∙ ap (bytes_from r.lanes r.at) lent
          ∙ sym (given_run r.lanes r.at n (omega arith))
          ∙ ap (λ (v : Tape). given v n) renewed
          ∙ given-ready u n
          ∙ ap (λ (v : Tape). given v n) behind

      long : length ys ≡ n
      long = ap length given_next ∙ length-given (moved t i) n
