-- One group in each pass: packed and absorbed, added to the sums, kept as bytes and read back. Assumes nothing.
use mathlib.Core.List.{List, ◌++◌}
use mathlib.Core.Path.{◌≡◌, sym, ap, ap₂, subst, ◌∙◌}
use Prim.Native.Nat.{ℕ, zero, suc, ◌+◌, ◌-◌, ◌*◌, ◌≤◌, ◌<◌}
use native.Mathlib.Nat.{sub-zero, zero-add}
use native.Mathlib.Decide.{dec_lt}
use native.Mathlib.Omega.{arith}
use lib.Bits.{bit_xor, xor_lt}
use lib.Dec.{lit<}
use lib.ListN.{length, get_or, take, drop, replicate, length-replicate, length-take, length-drop, get_or-eq_default}
use lib.Seq.{take_at, length-take-le, get_or-take}
use Rattle.memory.specs.Lists.{put}
use Rattle.memory.proofs.Parts.{length-put, lent-put}
use Rattle.memory.proofs.Xors.{get_or_zeros}
use Rattle.field.specs.Field.{mul}
use Rattle.field.specs.Packing.{Elements, nib}
use Rattle.field.specs.Vectors.{◌!◌}
use Rattle.field.proofs.Laws.{mul-lt}
use Rattle.field.proofs.Packing.{nib-take, nib-drop}
use Rattle.lanes.specs.Lanes.{lane, WordAt}
use Rattle.lanes.proofs.Laws.{lane-lt, lane_xor}
use Rattle.lanes.proofs.Bytes.{nib-put-before, nib-put_in}
use Rattle.sponge.specs.declared.Sponge.{Sponge}
use Rattle.marks.specs.Marks.{Mark, EachWord, MarkedWord, MultipliedWord, Marked, Multiplied, HoldsWords, sum_of, lane_sum}
use Rattle.marks.proofs.Sums.{sum_same, sum-xor, sum-mul}
use Rattle.forms.specs.Circuit.{Circuit}
use Rattle.forms.specs.Room.{circuit_in}
use Rattle.parties.specs.Parties.{Share}
use Rattle.group.specs.declared.Rep.{Rep}
use Rattle.group.specs.Shares.{values_length, share_at, HoldsAnswers}
use Rattle.answers.specs.Passes.{alphas_of, second_forms_of, rests_of, Packs, InLanes, Summed, HoldsGroup, Turn, Zeros, v_at, VWords, VsOf, Folded}
use Rattle.answers.proofs.Absorbing.{Vectors, packs_group}
use Rattle.answers.proofs.Sizes.{length-alphas, alphas-vectors, alphas_in, second_forms_in, rests_in}

-- a part that was lent from the start, lent again
pub lent_back : (l x : List ℕ) (m : ℕ) → length x ≡ m → take (m - 0) (drop 0 (take 0 l ++ (x ++ drop (m - 0) (drop 0 l)))) ≡ x
lent_back l x m e = take_at x (drop (m - 0) (drop 0 l)) (m - 0) (e ∙ sym (sub-zero m))

pub zeros_part : (n m : ℕ) → Zeros (take (m - 0) (drop 0 (replicate n 0)))
unfolding Zeros
zeros_part n m k =
    elim (dec_lt k (m - 0)) as (λ d. ◌≡◌ {A = ℕ} (get_or (take (m - 0) (replicate n 0)) k 0) 0) [
      | yes y ↦ get_or-take (m - 0) (replicate n 0) k 0 y ∙ get_or_zeros n k
      | no y ↦ get_or-eq_default (take (m - 0) (replicate n 0)) 0 {n = k} (let s = length-take (m - 0) (replicate {A = ℕ} n 0) in omega arith)
    ]

-- a part of zeros that was lent, its length, and the room for lending it again
pub zeros_sized : (n m : ℕ) → m ≤ n → length (take (m - 0) (drop 0 (replicate {A = ℕ} n 0))) ≡ m
zeros_sized n m h = length-take-le (m - 0) (replicate n 0) (let s = length-replicate {A = ℕ} n 0 in omega arith) ∙ sub-zero m

module _ (n m : ℕ) (x : List ℕ) (h : m ≤ n) (e : length x ≡ length (take (m - 0) (drop 0 (replicate {A = ℕ} n 0)))) where
  pub lent_same : take (m - 0) (drop 0 (take 0 (replicate n 0) ++ (x ++ drop (m - 0) (drop 0 (replicate n 0))))) ≡ x
  lent_same = lent_back (replicate n 0) x m (e ∙ zeros_sized n m h)

  pub lent-sized : length (take (m - 0) (drop 0 (take 0 (replicate n 0) ++ (x ++ drop (m - 0) (drop 0 (replicate n 0)))))) ≡ m
  lent-sized = ap length lent_same ∙ e ∙ zeros_sized n m h

-- ---- sums and bytes

pub summed : (g m : ℕ) (l : List (List ℕ)) (words old new : List ℕ) → length old ≡ m → length words ≡ m → EachWord (λ k x y. y ≡ bit_xor x (words ! k)) old new → InLanes g l words
    → Summed g m l old new
unfolding EachWord InLanes Summed
summed g m l words old new e e' added held k q hk hq =
    ap (lane q) (added k (omega arith)) ∙ lane_xor q (old ! k) (words ! k) ∙ ap (bit_xor (lane q (old ! k))) (held k q (omega arith) hq)

module _ (g m : ℕ) (ys ws : List (List ℕ)) (y z part one two : List ℕ) (half end : ℕ) (eh : half ≡ 8 * m) (ee : end ≡ half + half) (size : length part ≡ 16 * m)
    (ly : length y ≡ m) (lz : length z ≡ m) (l-one : length one ≡ length (take (half - 0) (drop 0 part)))
    (l-two : length two ≡ length (take (end - half) (drop half (take 0 part ++ (one ++ drop (half - 0) (drop 0 part)))))) where
  one-length : length one ≡ half - 0
  one-length = l-one ∙ length-take-le (half - 0) (drop 0 part) (omega arith)

  first-put : take 0 part ++ (one ++ drop (half - 0) (drop 0 part)) ≡ put part 0 one
  first-put = lent-put part 0 half one one-length

  one_fits : 0 + length one ≤ length part
  one_fits = let a = one-length in omega arith

  two_length : length two ≡ end - half
  two_length =
      let f : length (take 0 part ++ (one ++ drop (half - 0) (drop 0 part))) ≡ length part = ap length first-put ∙ length-put part 0 one one_fits in
      l-two ∙ length-take-le (end - half) (drop half (take 0 part ++ (one ++ drop (half - 0) (drop 0 part)))) (simp length-drop (omega arith))

  both_put : take half (take 0 part ++ (one ++ drop (half - 0) (drop 0 part))) ++ (two ++ drop (end - half) (drop half (take 0 part ++ (one ++ drop (half - 0) (drop 0 part))))) ≡ put (put part 0 one) half two
  both_put = lent-put (take 0 part ++ (one ++ drop (half - 0) (drop 0 part))) half end two two_length ∙ ap (λ (l : List ℕ). put l half two) first-put

  two_fits : half + length two ≤ length (put part 0 one)
  two_fits = let a = two_length in let b = length-put part 0 one one_fits in omega arith

  pub held_group : HoldsWords y one → HoldsWords z two → InLanes g ys y → InLanes g ws z
      → HoldsGroup g m ys ws (take half (take 0 part ++ (one ++ drop (half - 0) (drop 0 part))) ++ (two ++ drop (end - half) (drop half (take 0 part ++ (one ++ drop (half - 0) (drop 0 part))))))
  unfolding HoldsWords InLanes
  held_group hy hz iy iz = subst (HoldsGroup g m ys ws) (sym both_put) (record {
    second_form = λ k q hk hq.
        (let a = one-length in
        nib-put-before (put part 0 one) half two two_fits (16 * k + q) (omega arith)
        ∙ ap (nib (put part 0 one)) (sym (zero-add (16 * k + q)))
        ∙ nib-put_in part 0 one one_fits (16 * k + q) (omega arith))
        ∙ hy k q (omega arith) hq ∙ iy k q (omega arith) hq;
    rest = λ k q hk hq.
        (let a = two_length in
        let i : 16 * (m + k) + q ≡ 2 * half + (16 * k + q) = omega arith in
        ap (nib (put (put part 0 one) half two)) i
        ∙ nib-put_in (put part 0 one) half two two_fits (16 * k + q) (omega arith))
        ∙ hz k q (omega arith) hq ∙ iz k q (omega arith) hq;
  })

-- ---- a turn of the first pass

pub turn_done : (rep : Rep) (g : ℕ) (circuit salt leaves v x y z sa₀ sy₀ sw₀ sa sy sw part part' : List ℕ) (s r : Sponge)
    → part' ≡ part → length x ≡ rep.m → length v ≡ values_length rep → g < rep.groups
    → HoldsAnswers rep g (circuit_in rep.n rep.m circuit) v (λ q. share_at rep salt leaves v (16 * g + q)) x y z
    → ((g : ℕ) (αs ys ws : List (List ℕ)) → Packs (take 16 (drop (16 * g) αs)) x → InLanes g αs x → InLanes g ys y → InLanes g ws z → Turn g (length x) αs ys ws s sa₀ sy₀ sw₀ sa sy sw part r)
    → Turn g rep.m (alphas_of rep circuit salt leaves v) (second_forms_of rep circuit salt leaves v) (rests_of rep circuit salt leaves v) s sa₀ sy₀ sw₀ sa sy sw part' r
turn_done rep g circuit salt leaves v x y z sa₀ sy₀ sw₀ sa sy sw part part' s r ep lx lv inside held step =
    let αs = alphas_of rep circuit salt leaves v in
    let ys = second_forms_of rep circuit salt leaves v in
    let ws = rests_of rep circuit salt leaves v in
    let count = length-alphas rep salt leaves v lv circuit in
    let ia = alphas_in rep salt leaves v lv circuit g x y z inside held in
    subst (λ (l : List ℕ). Turn g rep.m αs ys ws s sa₀ sy₀ sw₀ sa sy sw l r) (sym ep)
    (subst (λ (n : ℕ). Turn g n αs ys ws s sa₀ sy₀ sw₀ sa sy sw part r) lx
    (step g αs ys ws (packs_group rep.m αs (alphas-vectors rep salt leaves v lv circuit) g (omega arith) x lx ia) ia
    (second_forms_in rep salt leaves v lv circuit g x y z inside held) (rests_in rep salt leaves v lv circuit g x y z inside held)))

-- the same of words that are equal
pub answers_same : (rep : Rep) (g : ℕ) (f : Circuit) (v : List ℕ) (share : ℕ → Share) (x y z x' y' z' : List ℕ) → x' ≡ x → y' ≡ y → z' ≡ z
    → HoldsAnswers rep g f v share x y z → HoldsAnswers rep g f v share x' y' z'
answers_same rep g f v share x y z x' y' z' ex ey ez h =
    subst (λ (l : List ℕ). HoldsAnswers rep g f v share l y' z') (sym ex)
    (subst (λ (l : List ℕ). HoldsAnswers rep g f v share x l z') (sym ey) (subst (λ (l : List ℕ). HoldsAnswers rep g f v share x y l) (sym ez) h))

-- ---- the sums folded

pub folded_sums : (m : ℕ) (sa sy₀ sy sw alpha₀ alpha given₀ given : List ℕ) → length sa ≡ m → length sy₀ ≡ m → length alpha₀ ≡ m → length given₀ ≡ m
    → EachWord (λ k x y. y ≡ lane_sum (sa ! k)) alpha₀ alpha → Multiplied alpha sw sy₀ sy → EachWord (λ k x y. y ≡ lane_sum (sy ! k)) given₀ given
    → Folded m sa sy₀ sw alpha given
unfolding EachWord Multiplied MultipliedWord lane_sum
folded_sums m sa sy₀ sy sw alpha₀ alpha given₀ given la ly l₁ l₂ ea em eg = record {
  alpha_sum = λ k h. ea k (omega arith);
  given_sum = λ k h.
      eg k (omega arith)
      ∙ sum_same 16 (λ q. lane q (sy ! k)) (λ q. bit_xor (mul (lane q (sy₀ ! k)) (alpha ! k)) (lane q (sw ! k))) (λ q hq. em k (omega arith) q hq)
      ∙ sum-xor 16 (λ q. mul (lane q (sy₀ ! k)) (alpha ! k)) (λ q. lane q (sw ! k))
      ∙ ap (λ (x : ℕ). bit_xor x (sum_of 16 (λ q. lane q (sw ! k))))
      (sum-mul 16 (λ q. lane q (sy₀ ! k)) (alpha ! k) ∙ ap (mul (sum_of 16 (λ q. lane q (sy₀ ! k)))) (ea k (omega arith)));
}

sum_lt : (n : ℕ) (f : ℕ → ℕ) → ((q : ℕ) → f q < 16) → sum_of n f < 16
unfolding sum_of
sum_lt zero f h = lit< tt
sum_lt (suc n) f h = xor_lt 4 (sum_of n f) (f n) (sum_lt n f h) (h n)

lane_sum-lt : (w : ℕ) → lane_sum w < 16
unfolding lane_sum
lane_sum-lt w = sum_lt 16 (λ q. lane q w) (λ q. lane-lt q w)

pub folded_elements : (m : ℕ) (sa sy sw alpha given : List ℕ) → length given ≡ m → Folded m sa sy sw alpha given → Elements given
folded_elements m sa sy sw alpha given e f k =
    elim (dec_lt k m) as (λ d. get_or given k 0 < 16) [
      | yes y ↦ rw (f.given_sum k y) (xor_lt 4 (mul (lane_sum (sy ! k)) (lane_sum (sa ! k))) (lane_sum (sw ! k)) (mul-lt (lane_sum (sy ! k)) (lane_sum (sa ! k))) (lane_sum-lt (sw ! k)))
      | no y ↦ rw (get_or-eq_default given 0 {n = k} (omega arith)) (lit< tt)
    ]

-- ---- the v of a group

pub v_words_lem : (rep : Rep) (g hide half end : ℕ) (alpha given part y₀ w₀ y₁ w₁ y₂ y₃ : List ℕ) → half ≡ 8 * rep.m → end ≡ half + half → Mark g rep.hidden hide
    → length y₀ ≡ rep.m → length w₀ ≡ rep.m → length y₁ ≡ length y₀ → length y₂ ≡ length y₁
    → EachWord (λ k x y. WordAt (take (half - 0) (drop 0 part)) (8 * k) y) y₀ y₁ → EachWord (λ k x y. WordAt (take (end - half) (drop half part)) (8 * k) y) w₀ w₁
    → Multiplied alpha w₁ y₁ y₂ → Marked given hide y₂ y₃ → VWords rep g alpha given part y₃
unfolding VWords v_at EachWord WordAt Multiplied MultipliedWord Marked MarkedWord Mark
v_words_lem rep g hide half end alpha given part y₀ w₀ y₁ w₁ y₂ y₃ eh ee marked ly lw l₁ l₂ load-y load-w mul-ed mark-ed k q hk hq =
    let i : 2 * (8 * k) + q ≡ 16 * k + q = omega arith in
    let j : half * 2 + (2 * (8 * k) + q) ≡ 16 * (rep.m + k) + q = omega arith in
    mark-ed k (omega arith) q hq
    ∙ ap₂ bit_xor
    (mul-ed k (omega arith) q hq
    ∙ ap₂ (λ (a b : ℕ). bit_xor (mul a (alpha ! k)) b)
    (load-y k (omega arith) q hq ∙ nib-take (half - 0) part (2 * (8 * k) + q) (omega arith) ∙ ap (nib part) i)
    (load-w k (omega arith) q hq ∙ nib-take (end - half) (drop half part) (2 * (8 * k) + q) (omega arith) ∙ nib-drop half part (2 * (8 * k) + q) ∙ ap (nib part) j))
    (ap (λ (b : ℕ). (given ! k) * b) (marked q hq))

-- so the words hold the v of the group in their lanes
pub v_packs : (rep : Rep) (g : ℕ) (alpha given part words : List ℕ) (ys ws vs : List (List ℕ)) → g < rep.groups → length words ≡ rep.m
    → VsOf rep alpha given ys ws vs → HoldsGroup g rep.m ys ws part → VWords rep g alpha given part words → Packs (take 16 (drop (16 * g) vs)) words
unfolding VWords InLanes Vectors
v_packs rep g alpha given part words ys ws vs inside e all kept held =
    let count = all.count in
    packs_group rep.m vs (λ p h. all.sized p (omega arith)) g (omega arith) words e (λ k q hk hq.
    held k q (omega arith) hq
    ∙ ap₂ (λ (a b : ℕ). v_at (suc (16 * g + q)) rep.hidden (alpha ! k) (given ! k) a b) (kept.second_form k q (omega arith) hq) (kept.rest k q (omega arith) hq)
    ∙ sym (all.entry (16 * g + q) k (omega arith) (omega arith)))

-- the same of lists that are equal
pub vs-same : (rep : Rep) (a g a' g' : List ℕ) (ys ws vs : List (List ℕ)) → a' ≡ a → g' ≡ g → VsOf rep a g ys ws vs → VsOf rep a' g' ys ws vs
vs-same rep a g a' g' ys ws vs ea eg h = subst (λ (x : List ℕ). VsOf rep x g' ys ws vs) (sym ea) (subst (λ (x : List ℕ). VsOf rep a x ys ws vs) (sym eg) h)

pub folded_same : (m m' : ℕ) (sa sy sw sa' sy' sw' alpha given : List ℕ) → m' ≡ m → sa' ≡ sa → sy' ≡ sy → sw' ≡ sw → Folded m' sa' sy' sw' alpha given → Folded m sa sy sw alpha given
folded_same m m' sa sy sw sa' sy' sw' alpha given em ea ey ew h =
    subst (λ (n : ℕ). Folded n sa sy sw alpha given) em
    (subst (λ (x : List ℕ). Folded m' x sy sw alpha given) ea (subst (λ (x : List ℕ). Folded m' sa' x sw alpha given) ey (subst (λ (x : List ℕ). Folded m' sa' sy' x alpha given) ew h)))

-- every v has m elements
pub vs-vectors : {rep : Rep} {a g : List ℕ} {ys ws vs : List (List ℕ)} → VsOf rep a g ys ws vs → Vectors rep.m vs
unfolding Vectors
vs-vectors h p l = let c = h.count in h.sized p (omega arith)

-- a part as the code lends it
pub part_again : {g m : ℕ} {ys ws : List (List ℕ)} (l : List ℕ) (a k : ℕ) → HoldsGroup g m ys ws (take k (drop a l)) → HoldsGroup g m ys ws (take (a + k - a) (drop a l))
part_again {g} {m} {ys} {ws} l a k h = let e : k ≡ a + k - a = omega arith in subst (λ (n : ℕ). HoldsGroup g m ys ws (take n (drop a l))) e h
