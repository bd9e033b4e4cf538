-- A part of a block goes in three pieces: bytes up to a whole lane, whole words, and the bytes left over. Xored in or given, they are the part.
-- Assumes nothing.
use mathlib.Core.Path.{◌≡◌, refl, sym, ap, ◌∙◌}
use mathlib.Core.List.{List, ◌++◌}
use Prim.Native.Nat.{ℕ, ◌+◌, ◌-◌, ◌*◌, ◌/◌, ◌%◌, ◌≤◌, ◌<◌, min}
use native.Mathlib.Decide.{dec_lt}
use native.Mathlib.Omega.{arith}
use lib.ListN.{length, take, drop, length-drop, length-append}
use lib.Seq.{take-add, take_all, take_at, length-take-le}
use borrow.Rule.Slice.PartMut.{put_mid, mid_of, same_len_mid}
use Rattle.memory.specs.Lists.{table}
use Rattle.sponge.specs.Steps.{xor_bytes, bytes_from}
use Rattle.sponge.proofs.Lanes.{xor_bytes-append, length-bytes_from, given_part}

-- the place of the words: a whole lane, or there are none
module _ (at n h m : ℕ) (first : h ≡ min ((8 - at % 8) % 8) n) (second : m ≡ h + (n - h) / 8 * 8) where
  words_place : h < m → 8 * ((at + h) / 8) ≡ at + h
  words_place k = omega arith

-- ---- xored in

xor_bytes-part : (S : List ℕ) (i : ℕ) (bytes : List ℕ) (a e : ℕ) → a ≤ e → e ≤ length bytes
    → xor_bytes (xor_bytes S i (take a bytes)) (i + a) (take (e - a) (drop a bytes)) ≡ xor_bytes S i (take e bytes)
xor_bytes-part S i bytes a e h k =
    ap (λ (n : ℕ). xor_bytes (xor_bytes S i (take a bytes)) (i + n) (take (e - a) (drop a bytes))) (sym (length-take-le a bytes (omega arith)))
    ∙ sym (xor_bytes-append S i (take a bytes) (take (e - a) (drop a bytes)))
    ∙ ap (xor_bytes S i) (sym (take-add a (e - a) bytes) ∙ ap (λ (n : ℕ). take n bytes) (let g : a + (e - a) ≡ e = omega arith in g))

xor_bytes_none : (S : List ℕ) (i j : ℕ) (bytes : List ℕ) (k : ℕ) → k ≡ 0 → xor_bytes S i (take k bytes) ≡ xor_bytes S j (take k bytes)
unfolding xor_bytes
xor_bytes_none S i j bytes k e = rw e refl

pub xor-pieces : (S : List ℕ) (at : ℕ) (bytes : List ℕ) (h m : ℕ) (x y z : List ℕ)
    → h ≡ min ((8 - at % 8) % 8) (length bytes) → m ≡ h + (length bytes - h) / 8 * 8
    → x ≡ xor_bytes S at (take h bytes)
    → y ≡ xor_bytes x (8 * ((at + h) / 8)) (take (m - h) (drop h bytes))
    → z ≡ xor_bytes y (at + m) (take (length bytes - m) (drop m bytes))
    → z ≡ xor_bytes S at bytes
xor-pieces S at bytes h m x y z first second ex ey ez =
    ez
    ∙ ap (λ (T : List ℕ). xor_bytes T (at + m) (take (length bytes - m) (drop m bytes)))
    (ey ∙ placed ∙ ap (λ (T : List ℕ). xor_bytes T (at + h) (take (m - h) (drop h bytes))) ex
    ∙ xor_bytes-part S at bytes h m (omega arith) (omega arith))
    ∙ xor_bytes-part S at bytes m (length bytes) (omega arith) (omega arith)
    ∙ ap (xor_bytes S at) (take_all (length bytes) bytes (omega arith))
  where
    placed : xor_bytes x (8 * ((at + h) / 8)) (take (m - h) (drop h bytes)) ≡ xor_bytes x (at + h) (take (m - h) (drop h bytes))
    placed =
        elim (dec_lt h m) as (λ d. xor_bytes x (8 * ((at + h) / 8)) (take (m - h) (drop h bytes)) ≡ xor_bytes x (at + h) (take (m - h) (drop h bytes))) [
          | yes k ↦ ap (λ (i : ℕ). xor_bytes x i (take (m - h) (drop h bytes))) (words_place at (length bytes) h m first second k)
          | no k ↦ xor_bytes_none x (8 * ((at + h) / 8)) (at + h) (drop h bytes) (m - h) (omega arith)
        ]

-- ---- given

bytes_from_none : (S : List ℕ) (i j k : ℕ) → k ≡ 0 → bytes_from S i k ≡ bytes_from S j k
unfolding bytes_from table
bytes_from_none S i j k e = rw e refl

module _ (S : List ℕ) (at : ℕ) (out : List ℕ) (h m : ℕ) (x y z : List ℕ)
    (first : h ≡ min ((8 - at % 8) % 8) (length out)) (second : m ≡ h + (length out - h) / 8 * 8) where
  placed : bytes_from S (8 * ((at + h) / 8)) (m - h) ≡ bytes_from S (at + h) (m - h)
  placed =
      elim (dec_lt h m) as (λ d. bytes_from S (8 * ((at + h) / 8)) (m - h) ≡ bytes_from S (at + h) (m - h)) [
        | yes k ↦ ap (λ (i : ℕ). bytes_from S i (m - h)) (words_place at (length out) h m first second k)
        | no k ↦ bytes_from_none S (8 * ((at + h) / 8)) (at + h) (m - h) (omega arith)
      ]

  pub give_pieces : x ≡ bytes_from S at (length (take h out))
      → y ≡ bytes_from S (8 * ((at + h) / 8)) (length (mid_of h (m - h) (x ++ drop h out)))
      → z ≡ bytes_from S (at + m) (length (mid_of m (length (put_mid h (m - h) (x ++ drop h out) y) - m) (put_mid h (m - h) (x ++ drop h out) y)))
      → put_mid m (length (put_mid h (m - h) (x ++ drop h out) y) - m) (put_mid h (m - h) (x ++ drop h out) y) z ≡ bytes_from S at (length out)
  give_pieces ex ey ez =
      sym (take_all (length out) (put_mid m (length two - m) two z) (omega (arith, long_three)))
      ∙ given_part S at two z m (length two - m) (length out) (omega (arith, long_two)) (omega arith) given_two (ez ∙ ap (bytes_from S (at + m)) rest)
    where
      one : List ℕ
      one = x ++ drop h out

      two : List ℕ
      two = put_mid h (m - h) one y

      long : length x ≡ h
      long = ap length ex ∙ length-bytes_from S at (length (take h out)) ∙ length-take-le h out (omega arith)

      long_one : length one ≡ length out
      long_one = simp (length-append, length-drop) (omega (arith, long))

      middle : length (mid_of h (m - h) one) ≡ m - h
      middle = length-take-le (m - h) (drop h one) (simp length-drop (omega (arith, long_one)))

      long_two : length two ≡ length out
      long_two = same_len_mid h (m - h) one y (ap length ey ∙ length-bytes_from S (8 * ((at + h) / 8)) (length (mid_of h (m - h) one))) ∙ long_one

      given_one : take h one ≡ bytes_from S at h
      given_one = take_at x (drop h out) h long ∙ ex ∙ ap (bytes_from S at) (length-take-le h out (omega arith))

      given_two : take m two ≡ bytes_from S at m
      given_two = given_part S at one y h (m - h) m (omega (arith, long_one)) (omega arith) given_one (ey ∙ ap (bytes_from S (8 * ((at + h) / 8))) middle ∙ placed)

      rest : length (mid_of m (length two - m) two) ≡ length out - m
      rest = length-take-le (length two - m) (drop m two) (simp length-drop (omega arith)) ∙ ap (λ (n : ℕ). n - m) long_two

      long_three : length (put_mid m (length two - m) two z) ≡ length out
      long_three = same_len_mid m (length two - m) two z (ap length ez ∙ length-bytes_from S (at + m) (length (mid_of m (length two - m) two))) ∙ long_two
