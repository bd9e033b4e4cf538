-- From tapes to shares in lanes: the words of sixteen tapes turned hold the sampled shares, and the corrections added at party 1 make them the parties' shares.
-- Assumes nothing.
use mathlib.Core.Bool.{cond}
use mathlib.Core.List.{List, ◌++◌}
use mathlib.Core.Path.{◌≡◌, refl, sym, ap, ap₂, subst, fun_ext, ◌∙◌}
use Prim.Native.Nat.{ℕ, suc, min, ◌+◌, ◌-◌, ◌*◌, ◌/◌, ◌%◌, ◌≤◌, ◌<◌}
use native.Mathlib.Nat.{zero-add, sub-zero, mul-le-mul}
use native.Mathlib.Decide.{dec_lt}
use native.Mathlib.Omega.{arith}
use lib.Bits.{bit_xor}
use lib.Dec.{eqb, lit<}
use lib.ListN.{length, get_or, take, drop, length-take, get_or-eq_default}
use lib.Seq.{length-take-le}
use Rattle.memory.specs.Lists.{put}
use Rattle.memory.proofs.Parts.{length-put, lent-put, length-lent, get_d_part, get_or-put-before, get_or-put_in, get_or-put_after}
use Rattle.field.specs.Packing.{Elements, nib, unpack, packed_length}
use Rattle.field.specs.Vectors.{◌!◌}
use Rattle.field.proofs.Packing.{get_or-unpack, nib-drop}
use Rattle.lanes.specs.Lanes.{lane, Holds}
use Rattle.turning.specs.Turns.{Turned}
use Rattle.turning.proofs.Packed.{turned_holds}
use Rattle.marks.specs.Marks.{Mark, EachWord, MarkedWord, Marked}
use Rattle.sets.specs.declared.Params.{Params}
use Rattle.sponge.specs.Sponge.{shake256}
use Rattle.sponge.proofs.Laws.{length-shake256}
use Rattle.hashes.specs.Hashes.{tape_fields}
use Rattle.forms.specs.Sampling.{sample_elements}
use Rattle.forms.proofs.Room.{sample_part}
use Rattle.parties.specs.Parties.{Share, corrected}
use Rattle.parties.specs.Repetition.{tape_length, raw_share}
use Rattle.group.specs.declared.Rep.{Rep}
use Rattle.group.specs.Shares.{Sized, delta_s, delta_c, sampled, tapes_of, HoldsTapes, mask_at, helper_at, HoldsShares, params_in, share_at}
use Rattle.group.proofs.OneParty.{corrected-s_at, corrected-a_at, corrected-c_at}

-- a part of elements
pub elements-part : (l : List ℕ) (a e : ℕ) → Elements l → Elements (take (e - a) (drop a l))
elements-part l a e h i =
    elim (dec_lt i (e - a)) as (λ d. get_or (take (e - a) (drop a l)) i 0 < 16) [
      | yes y ↦ rw (get_d_part l a e i y) (h (a + i))
      | no y ↦ rw (get_or-eq_default (take (e - a) (drop a l)) 0 {n = i} (let s = length-take (e - a) (drop a l) in omega arith)) (lit< tt)
    ]

-- what a tape gives is laid over the start of the bytes
pub filled-tape : (bytes last fields : List ℕ) (n len : ℕ) → n ≡ len → len ≤ length bytes
    → last ≡ shake256 fields (length (take (n - 0) (drop 0 bytes))) → take 0 bytes ++ (last ++ drop (n - 0) (drop 0 bytes)) ≡ put bytes 0 (shake256 fields len)
filled-tape bytes last fields n len e room el =
    lent-put bytes 0 n last (ap length whole ∙ length-shake256 fields len ∙ (let i : len ≡ n - 0 = omega arith in i)) ∙ ap (put bytes 0) whole
  where
    part : length (take (n - 0) (drop 0 bytes)) ≡ len
    part = length-take-le (n - 0) (drop 0 bytes) (omega arith) ∙ sub-zero n ∙ e

    whole : last ≡ shake256 fields len
    whole = el ∙ ap (shake256 fields) part

-- the bytes of packed elements, as the library divides and rounds up
pub packed_is : (n r : ℕ) → r ≡ n / 2 + min 1 (n % 2) → r ≡ packed_length n
unfolding packed_length
packed_is n r e = grind (arith, e)

-- the shares of a tape depend on the sizes alone
pub raw_same : (P Q : Params) (salt : List ℕ) (e i : ℕ) (seed : List ℕ) → P.n ≡ Q.n → P.m ≡ Q.m → raw_share P salt e i seed ≡ raw_share Q salt e i seed
unfolding raw_share
raw_same P Q salt e i seed en em = rw (en, em)

module _ (rep : Rep) where
  -- ---- where things stand

  pub tape-room : Sized rep → tape_length rep.n rep.m ≤ 184
  unfolding tape_length packed_length
  tape-room z = let a = z.variables in let b = z.equations in omega arith

  -- the bytes of a tape, as the code adds them up
  pub tape_is : (a b : ℕ) → a ≡ rep.n / 2 + min 1 (rep.n % 2) → b ≡ rep.m / 2 + min 1 (rep.m % 2) → a + 2 * b ≡ tape_length rep.n rep.m
  unfolding tape_length packed_length
  tape_is a b ea eb = grind (arith, ea, eb)

  -- the rows of a table are few enough to count
  pub rows-room : Sized rep → rep.m * packed_length rep.n ≤ 121 * 60
  unfolding packed_length
  rows-room z = let a = z.variables in mul-le-mul z.equations (let h : (rep.n + 1) / 2 ≤ 60 = omega arith in h)

  -- a tape lies in 184 bytes
  pub tape_fits : (x : List ℕ) → Sized rep → length (shake256 x (tape_length rep.n rep.m)) ≤ 184
  tape_fits x z = let a = tape-room z in let b = length-shake256 x (tape_length rep.n rep.m) in omega arith

  mask_after : rep.n ≤ mask_at rep
  unfolding mask_at packed_length
  mask_after = omega arith

  helper_after : mask_at rep + rep.m ≤ helper_at rep
  unfolding mask_at helper_at packed_length
  helper_after = omega arith

  words_room : Sized rep → helper_at rep + rep.m ≤ 368
  unfolding helper_at packed_length
  words_room z = let a = z.variables in let b = z.equations in omega arith

  -- ---- tapes

  -- the words of the tapes, turned, have element i of each tape at place i
  turned_element : (tape : ℕ → List ℕ) (x y : List ℕ) → length x ≡ 368 → length y ≡ length x → HoldsTapes tape x → Turned x y
      → (i q : ℕ) → i < 368 → q < 16 → lane q (get_or y i 0) ≡ nib (tape q) i
  unfolding HoldsTapes Holds
  turned_element tape x y e f h t i q hi hq =
      let s : 16 * (i / 16) + i % 16 ≡ i = omega arith in
      turned_holds x y f (let z : length x % 16 ≡ 0 = rw e refl in z) t i q (omega arith) hq
      ∙ h (i / 16) q (i % 16) (omega arith) hq (omega arith)
      ∙ ap (nib (tape q)) s

  -- so they hold the shares that are sampled from the tapes
  pub tapes-shares : (tape : ℕ → List ℕ) (x y : List ℕ) → Sized rep → length x ≡ 368 → length y ≡ length x → HoldsTapes tape x → Turned x y
      → HoldsShares rep (λ q. sampled rep (tape q)) y
  unfolding sampled mask_at helper_at
  tapes-shares tape x y z e f h t =
      let room = words_room z in
      let first = mask_after in
      let after = helper_after in
      record {
        s = λ k q hk hq. turned_element tape x y e f h t k q (omega arith) hq ∙ sym (get_or-unpack rep.n (tape q) k hk);
        a = λ k q hk hq.
            turned_element tape x y e f h t (packed_length rep.n * 2 + k) q (omega arith) hq
            ∙ sym (get_or-unpack rep.m (drop (packed_length rep.n) (tape q)) k hk ∙ nib-drop (packed_length rep.n) (tape q) k);
        c = λ k q hk hq.
            turned_element tape x y e f h t ((packed_length rep.n + packed_length rep.m) * 2 + k) q (omega arith) hq
            ∙ sym (get_or-unpack rep.m (drop (packed_length rep.n + packed_length rep.m) (tape q)) k hk ∙ nib-drop (packed_length rep.n + packed_length rep.m) (tape q) k);
      }

  three : List ℕ → List ℕ → List ℕ → Share
  three s a c = record { s = s; a = a; c = c }

  -- the shares of a party are sampled from the first bytes of its tape
  pub sampled_raw : (salt : List ℕ) (i : ℕ) (seed : List ℕ) → sampled rep (shake256 (tape_fields salt rep.e i seed) (tape_length rep.n rep.m)) ≡ raw_share (params_in rep) salt rep.e i seed
  unfolding sampled raw_share tape_length three
  sampled_raw salt i seed =
      let x = tape_fields salt rep.e i seed in
      let n = packed_length rep.n in
      let m = packed_length rep.m in
      ap (λ (u : List ℕ). three u (unpack rep.m (drop n (shake256 x (n + m + m)))) (unpack rep.m (drop (n + m) (shake256 x (n + m + m)))))
      (sym (sample_part x 0 rep.n (n + m + m) (omega arith)))
      ∙ ap₂ (λ (u v : List ℕ). three (sample_elements x 0 rep.n) u v) (sym (sample_part x n rep.m (n + m + m) (omega arith))) (sym (sample_part x (n + m) rep.m (n + m + m) (omega arith)))

  -- ---- corrections

  module _ (g mark : ℕ) (v words new more : List ℕ) (c e : ℕ) (z : Sized rep) (marked : Mark g 1 mark) (size : length words ≡ 368)
      (ce : c ≡ helper_at rep) (ee : e ≡ c + rep.m) (new-length : length new ≡ length (take (rep.n - 0) (drop 0 words)))
      (more-length : length more ≡ length (take (e - c) (drop c (take 0 words ++ (new ++ drop (rep.n - 0) (drop 0 words))))))
      (s-added : Marked (take (rep.n - 0) (drop 0 v)) mark (take (rep.n - 0) (drop 0 words)) new)
      (c-added : Marked (take (rep.n + rep.m - rep.n) (drop rep.n v)) mark
      (take (e - c) (drop c (take 0 words ++ (new ++ drop (rep.n - 0) (drop 0 words))))) more) where
    abbrev pub first : List ℕ
    first = take 0 words ++ (new ++ drop (rep.n - 0) (drop 0 words))

    abbrev pub last : List ℕ
    last = take c first ++ (more ++ drop (e - c) (drop c first))

    length_new : length new ≡ rep.n - 0
    length_new = let a = z.variables in new-length ∙ length-take-le (rep.n - 0) (drop 0 words) (omega arith)

    new_fits : 0 + length new ≤ length words
    new_fits = let a = z.variables in let b = length_new in omega arith

    first-put : first ≡ put words 0 new
    first-put = lent-put words 0 rep.n new length_new

    length_more : length more ≡ e - c
    length_more =
        let a = words_room z in
        let f : length first ≡ length words = ap length first-put ∙ length-put words 0 new new_fits in
        more-length ∙ length-lent first c e (omega arith) (omega arith)

    last-put : last ≡ put (put words 0 new) c more
    last-put = lent-put first c e more length_more ∙ ap (λ (l : List ℕ). put l c more) first-put

    more_fits : c + length more ≤ length (put words 0 new)
    more_fits = let a = words_room z in let d = length_more in let b = length-put words 0 new new_fits in omega arith

    s-entry : (k : ℕ) → k < rep.n → get_or last k 0 ≡ get_or new k 0
    s-entry k h =
        let d = length_new in
        let a = mask_after in
        let b = helper_after in
        ap (λ (l : List ℕ). get_or l k 0) last-put
        ∙ get_or-put-before (put words 0 new) c more more_fits k (omega arith)
        ∙ ap (λ (j : ℕ). get_or (put words 0 new) j 0) (sym (zero-add k))
        ∙ get_or-put_in words 0 new new_fits k (omega arith)

    a-entry : (k : ℕ) → k < rep.m → get_or last (mask_at rep + k) 0 ≡ get_or words (mask_at rep + k) 0
    a-entry k h =
        let d = length_new in
        let a = mask_after in
        let b = helper_after in
        ap (λ (l : List ℕ). get_or l (mask_at rep + k) 0) last-put
        ∙ get_or-put-before (put words 0 new) c more more_fits (mask_at rep + k) (omega arith)
        ∙ get_or-put_after words 0 new new_fits (mask_at rep + k) (omega arith)

    c-entry : (k : ℕ) → k < rep.m → get_or last (c + k) 0 ≡ get_or more k 0
    c-entry k h =
        let d = length_more in
        ap (λ (l : List ℕ). get_or l (c + k) 0) last-put ∙ get_or-put_in (put words 0 new) c more more_fits k (omega arith)

    c-before : (k : ℕ) → k < rep.m → get_or (take (e - c) (drop c first)) k 0 ≡ get_or words (c + k) 0
    c-before k h =
        let d = length_new in
        let a = mask_after in
        let b = helper_after in
        get_d_part first c e k (omega arith)
        ∙ ap (λ (l : List ℕ). get_or l (c + k) 0) first-put
        ∙ get_or-put_after words 0 new new_fits (c + k) (omega arith)

    marked_lane : (x y w q : ℕ) → MarkedWord w mark x y → q < 16 → lane q y ≡ bit_xor (lane q x) (w * cond (eqb (suc (16 * g + q)) 1) 1 0)
    unfolding MarkedWord Mark
    marked_lane x y w q h l = h q l ∙ ap (λ (b : ℕ). bit_xor (lane q x) (w * b)) (marked q l)

    s_word : (k : ℕ) → k < rep.n → MarkedWord (delta_s rep v ! k) mark (get_or words k 0) (get_or new k 0)
    unfolding Marked EachWord delta_s
    s_word k h =
        let a = z.variables in
        subst (λ (x : ℕ). MarkedWord (take rep.n v ! k) mark x (get_or new k 0)) (get_d_part words 0 rep.n k (omega arith) ∙ ap (λ (j : ℕ). get_or words j 0) (zero-add k))
        (subst (λ (j : ℕ). MarkedWord (take j v ! k) mark (get_or (take (rep.n - 0) (drop 0 words)) k 0) (get_or new k 0)) (sub-zero rep.n)
        (s-added k (rw (length-take-le (rep.n - 0) (drop 0 words) (omega arith)) (omega arith))))

    c_word : (k : ℕ) → k < rep.m → MarkedWord (delta_c rep v ! k) mark (get_or words (c + k) 0) (get_or more k 0)
    unfolding Marked EachWord delta_c
    c_word k h =
        let a = words_room z in
        let i : rep.n + rep.m - rep.n ≡ rep.m = omega arith in
        subst (λ (x : ℕ). MarkedWord (take rep.m (drop rep.n v) ! k) mark x (get_or more k 0)) (c-before k h)
        (subst (λ (j : ℕ). MarkedWord (take j (drop rep.n v) ! k) mark (get_or (take (e - c) (drop c first)) k 0) (get_or more k 0)) i
        (c-added k (length-first k h)))
      where
        length-first : (k : ℕ) → k < rep.m → k < length (take (e - c) (drop c first))
        length-first k h = let d = length_more in let i = more-length in omega arith

    pub corrected-shares : (share : ℕ → Share) → HoldsShares rep share words
        → HoldsShares rep (λ q. corrected (delta_s rep v) (delta_c rep v) (suc (16 * g + q)) (share q)) last
    corrected-shares share h = record {
      s = λ k q hk hq.
          ap (lane q) (s-entry k hk)
          ∙ marked_lane (get_or words k 0) (get_or new k 0) (delta_s rep v ! k) q (s_word k hk) hq
          ∙ ap (λ (x : ℕ). bit_xor x ((delta_s rep v ! k) * cond (eqb (suc (16 * g + q)) 1) 1 0)) (h.s k q hk hq)
          ∙ corrected-s_at (delta_s rep v) (delta_c rep v) (suc (16 * g + q)) (share q) k;
      a = λ k q hk hq. ap (lane q) (a-entry k hk) ∙ h.a k q hk hq ∙ corrected-a_at (delta_s rep v) (delta_c rep v) (suc (16 * g + q)) (share q) k;
      c = λ k q hk hq.
          ap (λ (j : ℕ). lane q (get_or last (j + k) 0)) (sym ce)
          ∙ ap (lane q) (c-entry k hk)
          ∙ marked_lane (get_or words (c + k) 0) (get_or more k 0) (delta_c rep v ! k) q (c_word k hk) hq
          ∙ ap (λ (x : ℕ). bit_xor x ((delta_c rep v ! k) * cond (eqb (suc (16 * g + q)) 1) 1 0)) (ap (λ (j : ℕ). lane q (get_or words (j + k) 0)) ce ∙ h.c k q hk hq)
          ∙ corrected-c_at (delta_s rep v) (delta_c rep v) (suc (16 * g + q)) (share q) k;
    }

-- so the words hold the shares of the parties
pub shares_of_tapes : (rep : Rep) (g : ℕ) (salt leaves v words : List ℕ)
    → HoldsShares rep (λ q. corrected (delta_s rep v) (delta_c rep v) (suc (16 * g + q)) (sampled rep (tapes_of rep g salt leaves q))) words
    → HoldsShares rep (λ q. share_at rep salt leaves v (16 * g + q)) words
unfolding share_at
shares_of_tapes rep g salt leaves v words h =
    subst (λ (share : ℕ → Share). HoldsShares rep share words)
    (fun_ext (λ q. ap (corrected (delta_s rep v) (delta_c rep v) (suc (16 * g + q))) (sampled_raw rep salt (suc (16 * g + q)) (take rep.s (drop ((16 * g + q) * rep.s) leaves)))))
    h
