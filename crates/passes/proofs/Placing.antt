-- Elements written to the packing: two vectors as one, those of all repetitions one behind the other, what is read of them again, and what was placed below stays. Assumes nothing.
use mathlib.Core.Path.{◌≡◌, refl, sym, ap, ap₂, ◌∙◌}
use mathlib.Core.List.{List, [], ◌++◌}
use Prim.Native.Nat.{ℕ, ◌+◌, ◌-◌, ◌*◌, ◌≤◌, ◌<◌}
use native.Mathlib.Nat.{add_assoc}
use native.Mathlib.Omega.{arith}
use lib.ListN.{length, get_or, take, drop, length-drop}
use lib.Seq.{get_or-take, get_or-drop, length-take-le}
use Rattle.memory.proofs.Lists.{table_same}
use Rattle.memory.proofs.Stands.{stands_read}
use Rattle.field.specs.Packing.{Elements, Bytes, nib}
use Rattle.vectors.specs.Elements.{elements_at, elements_put}
use Rattle.vectors.proofs.Elements.{length-elements_at, get_or-elements_at, elements_at_of}
use Rattle.vectors.proofs.Laying.{laid_none, laid_all}
use Rattle.vectors.proofs.Writing.{elements_at_put, elements-put-next}
use Rattle.biscuit.specs.Signature.{repeated}
use Rattle.biscuit.proofs.Repeated.{among, repeated_more, repeated_stands, repeated-elements, length-repeated}

-- one vector behind another
pub placed_two : (at n : ℕ) (u v before first after : List ℕ) → length u ≡ n → at + length u + length v ≤ 2 * length before
    → first ≡ elements_put u at before → after ≡ elements_put v (at + n) first → after ≡ elements_put (u ++ v) at before
placed_two at n u v before first after eu fits ef ea =
    ea ∙ ap₂ (λ (k : ℕ) (b : List ℕ). elements_put v (at + k) b) (sym eu) ef ∙ elements-put-next u v at before fits

-- ---- repetitions one behind the other

-- none of them
pub placed_none : (at : ℕ) (f : ℕ → List ℕ) (b : List ℕ) → Bytes b → b ≡ elements_put (repeated 0 f) at b
unfolding repeated
placed_none at f b h = laid_all [] at b b 0 (laid_none [] at b h) refl

-- one more
pub placed_more : (at w count place : ℕ) (f : ℕ → List ℕ) (first before after : List ℕ) → ((e : ℕ) → 1 ≤ e → e ≤ count + 1 → length (f e) ≡ w) → place ≡ at + count * w
    → at + count * w + w ≤ 2 * length first → before ≡ elements_put (repeated count f) at first → after ≡ elements_put (f (count + 1)) place before
    → after ≡ elements_put (repeated (count + 1) f) at first
placed_more at w count place f first before after sized there fits done turn =
    let size = length-repeated count f w (λ e a b. sized e a (omega arith)) in
    let last = sized (count + 1) (omega arith) (omega arith) in
    turn
    ∙ ap₂ (λ (k : ℕ) (b : List ℕ). elements_put (f (count + 1)) k b) (there ∙ ap (λ (k : ℕ). at + k) (sym size)) done
    ∙ elements-put-next (repeated count f) (f (count + 1)) at first (omega arith)
    ∙ ap (λ (v : List ℕ). elements_put v at first) (repeated_more count f)

-- what a reader gets of a part of the elements
elements-part : (b : List ℕ) (at count k n : ℕ) → k + n ≤ count → elements_at b (at + k) n ≡ take n (drop k (elements_at b at count))
elements-part b at count k n h = sym (elements_at_of (take n (drop k (elements_at b at count))) b (at + k) n size entry)
  where
    size : length (take n (drop k (elements_at b at count))) ≡ n
    size = length-take-le n (drop k (elements_at b at count)) (let e = length-elements_at b at count in simp length-drop (omega arith))

    entry : (i : ℕ) → i < n → get_or (take n (drop k (elements_at b at count))) i 0 ≡ nib b (at + k + i)
    entry i l =
        get_or-take n (drop k (elements_at b at count)) i 0 l ∙ get_or-drop k (elements_at b at count) i 0 ∙ get_or-elements_at b at count (k + i) (omega arith)
        ∙ ap (nib b) (sym (add_assoc at k i))

-- each is read where it was placed
pub placed_read : (at w τ : ℕ) (f : ℕ → List ℕ) (b : List ℕ) → ((e : ℕ) → 1 ≤ e → e ≤ τ → length (f e) ≡ w) → ((e : ℕ) → 1 ≤ e → e ≤ τ → Elements (f e)) → at + τ * w ≤ 2 * length b
    → (e : ℕ) → 1 ≤ e → e ≤ τ → elements_at (elements_put (repeated τ f) at b) (at + (e - 1) * w) w ≡ f e
placed_read at w τ f b sized small fits e h k =
    let size = length-repeated τ f w sized in
    elements-part (elements_put (repeated τ f) at b) at (length (repeated τ f)) ((e - 1) * w) w (let r = among e τ w h k in omega arith)
    ∙ ap (λ (v : List ℕ). take w (drop ((e - 1) * w) v)) (elements_at_put (repeated τ f) at b (repeated-elements τ f small) (omega arith))
    ∙ stands_read (repeated τ f) ((e - 1) * w) (f e) w (sized e h k) (repeated_stands τ f w sized e h k)

-- what was placed below stays
pub elements-below : (at from n : ℕ) (before after : List ℕ) → ((j : ℕ) → j < at → nib after j ≡ nib before j) → from + n ≤ at → elements_at after from n ≡ elements_at before from n
unfolding elements_at
elements-below at from n before after below h = table_same n (λ k. nib after (from + k)) (λ k. nib before (from + k)) (λ k l. below (from + k) (omega arith))
