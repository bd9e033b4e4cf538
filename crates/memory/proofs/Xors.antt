-- Laws for loops that write a list entry by entry over another of its length, for zeros, and for parts: what was written over the start of a list, a room that
-- was lent from its start, and a part by its size. Assumes nothing.
use mathlib.Core.Path.{◌≡◌, refl, ap, ap₂, ◌∙◌}
use mathlib.Core.List.{List, ◌++◌, append-nil}
use Prim.Native.Nat.{ℕ, zero, suc, ◌+◌, ◌-◌, ◌≤◌, ◌<◌}
use native.Mathlib.Omega.{arith}
use lib.ListN.{length, get_or, set, take, drop, replicate, length-drop, drop_of_length-le}
use lib.Seq.{take_all, take_at, length-take-le}
use Rattle.memory.specs.Lists.{over}
use Rattle.memory.proofs.Parts.{copied_more, over_fits}

-- one entry more is written
pub written_more : (target dst cur : List ℕ) (i v : ℕ) → i < length target → length target ≡ length dst → cur ≡ take i target ++ drop i dst → v ≡ get_or target i 0
    → set cur i v ≡ take (i + 1) target ++ drop (i + 1) dst
written_more target dst cur i v h e c w =
    ap₂ (λ (x : List ℕ) (y : ℕ). set x i y) c w ∙ copied_more target dst i h (omega arith)

-- all entries are written
pub written_all : (target dst : List ℕ) (i : ℕ) → length target ≡ length dst → length dst ≤ i → take i target ++ drop i dst ≡ target
written_all target dst i e h =
    ap₂ (λ (x y : List ℕ). x ++ y) (take_all i target (omega arith)) (drop_of_length-le dst {i = i} h) ∙ append-nil target

-- zeros are zeros, past their end too
pub get_or_zeros : (n i : ℕ) → ◌≡◌ {A = ℕ} (get_or (replicate n 0) i 0) 0
get_or_zeros zero i = refl
get_or_zeros (suc n) zero = refl
get_or_zeros (suc n) (suc i) = get_or_zeros n i

-- what was written over the start of a list with room for it
pub take-over : (new old : List ℕ) (n : ℕ) → length new ≡ n → n ≤ length old → take n (over new old) ≡ new
take-over new old n e h = ap (take n) (over_fits new old (omega arith)) ∙ take_at new (drop (length new) old) n e

-- the start of a room that was lent and came back with other entries
pub lent_start : (room last : List ℕ) (n : ℕ) → n ≤ length room → length last ≡ length (take (n - 0) (drop 0 room))
    → take (n - 0) (drop 0 (take 0 room ++ (last ++ drop (n - 0) (drop 0 room)))) ≡ last
lent_start room last n h e = take_at last (drop (n - 0) room) (n - 0) (e ∙ length-take-le (n - 0) room (omega arith))

-- a part from `at` on, by its size
pub part-sized : (x : List ℕ) (at size : ℕ) → take (at + size - at) (drop at x) ≡ take size (drop at x)
part-sized x at size = ap (λ (k : ℕ). take k (drop at x)) (let e : at + size - at ≡ size = omega arith in e)

pub length_part : (x : List ℕ) (at size : ℕ) → at + size ≤ length x → length (take size (drop at x)) ≡ size
length_part x at size h = length-take-le size (drop at x) (simp length-drop (omega arith))

pub length-sized : (x : List ℕ) (at size : ℕ) → at + size ≤ length x → length (take (at + size - at) (drop at x)) ≡ size
length-sized x at size h = ap length (part-sized x at size) ∙ length_part x at size h
