-- Groups absorbed one after another: what a sponge has absorbed, and the packing of sixteen vectors more. Assumes nothing.
use mathlib.Core.List.{List, [], ◌∷◌, ◌++◌, flatten, append_assoc, append-nil}
use mathlib.Core.Path.{◌≡◌, refl, sym, ap, subst, ◌∙◌}
use Prim.Native.Nat.{ℕ, suc, ◌+◌, ◌*◌, ◌%◌, ◌≤◌, ◌<◌}
use native.Mathlib.Nat.{mul_right_comm, mul-mod_left}
use native.Mathlib.Omega.{arith}
use lib.ListN.{length, get_or, take, drop, length-drop}
use lib.Seq.{take_all, take-add, get_or-take, get_or-drop, length-take-le}
use Rattle.memory.proofs.Sections.{Each, no_section, one_more, flatten-append, length-flatten}
use Rattle.field.specs.Packing.{pack}
use Rattle.field.proofs.Packing.{pack-append}
use Rattle.sponge.specs.declared.Sponge.{Sponge}
use Rattle.sponge.specs.Steps.{absorbed}
use Rattle.sponge.proofs.Laws.{absorbed-append}
use Rattle.answers.specs.Passes.{Packs, InLanes}

-- r is s after x, as far as what is absorbed next can tell, and after the first part it is so itself
pub record Absorbing (s r : Sponge) (x : List ℕ) (n : ℕ) : Type 0 where
  pub next : (y : List ℕ) → absorbed r y ≡ absorbed s (x ++ y)
  pub settled : 0 < n → absorbed r [] ≡ r

pub absorbing_none : (s : Sponge) → Absorbing s s [] 0
absorbing_none s = record { next = λ y. refl; settled = λ h. absurd (omega arith) }

pub absorbing_more : (s r r' : Sponge) (x y : List ℕ) (n : ℕ) → Absorbing s r x n → r' ≡ absorbed r y → Absorbing s r' (x ++ y) (n + 1)
absorbing_more s r r' x y n h e = record {
  next = λ z. ap (λ (t : Sponge). absorbed t z) e ∙ absorbed-append r y z ∙ h.next (y ++ z) ∙ ap (absorbed s) (sym (append_assoc x y z));
  settled = λ l. ap (λ (t : Sponge). absorbed t []) e ∙ absorbed-append r y [] ∙ ap (absorbed r) (append-nil y) ∙ sym e;
}

pub absorbing_all : (s r : Sponge) (x : List ℕ) (n : ℕ) → 0 < n → Absorbing s r x n → r ≡ absorbed s x
absorbing_all s r x n l h = sym (h.settled l) ∙ h.next [] ∙ ap (absorbed s) (append-nil x)

-- ---- groups of vectors of one length

unfoldable pub Vectors : ℕ → List (List ℕ) → Type 0
Vectors m l = (p : ℕ) → p < length l → length (get_or l p []) ≡ m

each_of : (m : ℕ) (l : List (List ℕ)) → ((p : ℕ) → p < length l → length (get_or l p []) ≡ m) → Each m l
each_of m [] h = no_section
each_of m (v ∷ l) h = one_more (h 0 (omega arith)) (each_of m l (λ p g. h (suc p) (omega arith)))

even-groups : (n m : ℕ) → 16 * n * m % 2 ≡ 0
even-groups n m =
    let e : 16 * n ≡ 8 * n * 2 = omega arith in
    ap (λ (x : ℕ). x * m % 2) e ∙ ap (λ (x : ℕ). x % 2) (mul_right_comm (8 * n) 2 m) ∙ mul-mod_left (8 * n * m) 2

module _ (m : ℕ) (l : List (List ℕ)) (sized : Vectors m l) (n : ℕ) (room : 16 * n + 16 ≤ length l) where
  length-groups : length (flatten (take (16 * n) l)) ≡ 16 * n * m
  unfolding Vectors
  length-groups =
      let size = length-take-le (16 * n) l (omega arith) in
      length-flatten (each_of m (take (16 * n) l) (λ p h. ap length (get_or-take (16 * n) l p [] (omega arith)) ∙ sized p (omega arith)))
      ∙ ap (λ (k : ℕ). k * m) size

  -- one group more
  pub group_more : pack (flatten (take (16 * n) l)) ++ pack (flatten (take 16 (drop (16 * n) l))) ≡ pack (flatten (take (16 * (n + 1)) l))
  group_more =
      let e : 16 * n + 16 ≡ 16 * (n + 1) = omega arith in
      sym (pack-append (flatten (take (16 * n) l)) (flatten (take 16 (drop (16 * n) l))) (ap (λ (k : ℕ). k % 2) length-groups ∙ even-groups n m))
      ∙ ap pack (sym (flatten-append (take (16 * n) l) (take 16 (drop (16 * n) l))))
      ∙ ap (λ (x : List (List ℕ)). pack (flatten x)) (sym (take-add (16 * n) 16 l))
      ∙ ap (λ (k : ℕ). pack (flatten (take k l))) e

  entry : (q : ℕ) → q < 16 → get_or (take 16 (drop (16 * n) l)) q [] ≡ get_or l (16 * n + q) []
  entry q h = get_or-take 16 (drop (16 * n) l) q [] h ∙ get_or-drop (16 * n) l q []

  -- words that hold the group in their lanes
  pub packs_group : (words : List ℕ) → length words ≡ m → InLanes n l words → Packs (take 16 (drop (16 * n) l)) words
  unfolding Vectors InLanes
  packs_group words e held = record {
    count = length-take-le 16 (drop (16 * n) l) (simp length-drop (omega arith));
    sized = λ q h. ap length (entry q h) ∙ sized (16 * n + q) (omega arith) ∙ sym e;
    held = λ q k h g. ap (λ (v : List ℕ). get_or v k 0) (entry q h) ∙ sym (held k q g h);
  }

-- the only group
pub packs_one : (m : ℕ) (l : List (List ℕ)) → Vectors m l → length l ≡ 16 → (words : List ℕ) → length words ≡ m → InLanes 0 l words → Packs l words
packs_one m l sized e words lw held = subst (λ (vs : List (List ℕ)). Packs vs words) (take_all 16 l (omega arith)) (packs_group m l sized 0 (omega arith) words lw held)

-- ---- from the first group to the last

pub absorbing_start : (s : Sponge) (l : List (List ℕ)) → Absorbing s s (pack (flatten (take (16 * 0) l))) 0
unfolding pack flatten
absorbing_start s l = absorbing_none s

pub absorbing_group : (m : ℕ) (l : List (List ℕ)) → Vectors m l → (n : ℕ) → 16 * n + 16 ≤ length l → (s r r' : Sponge)
    → Absorbing s r (pack (flatten (take (16 * n) l))) n → r' ≡ absorbed r (pack (flatten (take 16 (drop (16 * n) l))))
    → Absorbing s r' (pack (flatten (take (16 * (n + 1)) l))) (n + 1)
absorbing_group m l sized n room s r r' h e = subst (λ (x : List ℕ). Absorbing s r' x (n + 1)) (group_more m l sized n room) (absorbing_more s r r' _ _ n h e)

-- for a number of groups that is equal
pub absorbing_at : {n k : ℕ} (l : List (List ℕ)) (s r : Sponge) → n ≡ k → Absorbing s r (pack (flatten (take (16 * n) l))) n → Absorbing s r (pack (flatten (take (16 * k) l))) k
absorbing_at l s r e h = subst (λ (k : ℕ). Absorbing s r (pack (flatten (take (16 * k) l))) k) e h

pub absorbing_two : (m : ℕ) (l : List (List ℕ)) → Vectors m l → (n k : ℕ) → n + 2 ≡ k → 16 * n + 32 ≤ length l → (s r between r' : Sponge)
    → Absorbing s r (pack (flatten (take (16 * n) l))) n → between ≡ absorbed r (pack (flatten (take 16 (drop (16 * n) l))))
    → r' ≡ absorbed between (pack (flatten (take 16 (drop (16 * (n + 1)) l)))) → Absorbing s r' (pack (flatten (take (16 * k) l))) k
absorbing_two m l sized n k e room s r between r' h e₁ e₂ =
    let i : n + 1 + 1 ≡ k = omega arith in
    absorbing_at l s r' i (absorbing_group m l sized (n + 1) (omega arith) s between r' (absorbing_group m l sized n (omega arith) s r between h e₁) e₂)

pub absorbing-end : (l : List (List ℕ)) (n : ℕ) (s r : Sponge) → length l ≡ 16 * n → 0 < n → Absorbing s r (pack (flatten (take (16 * n) l))) n → r ≡ absorbed s (pack (flatten l))
absorbing-end l n s r e h a = absorbing_all s r _ n h a ∙ ap (λ (x : List (List ℕ)). absorbed s (pack (flatten x))) (take_all (16 * n) l (omega arith))
