-- What the first hash has absorbed after some parties, after all of them, and after the corrections.
-- Assumes nothing.
use mathlib.Core.Path.{◌≡◌, refl, sym, ap, ap₂, ◌∙◌}
use mathlib.Core.List.{List, [], ◌∷◌, ◌++◌, flatten}
use Prim.Native.Nat.{ℕ, ◌+◌, ◌-◌, ◌*◌, ◌≤◌, ◌<◌}
use native.Mathlib.Nat.{sub-zero}
use native.Mathlib.Numerals.{add-one}
use native.Mathlib.Omega.{arith}
use borrow.Author.Tests.{eq-eqb, ne_eqb}
use lib.ListN.{length, take, drop}
use lib.Seq.{take_all, length-take-le}
use Rattle.memory.specs.Lists.{over}
use Rattle.memory.specs.Sections.{pieces}
use Rattle.memory.proofs.Sections.{length-pieces, get_or-pieces}
use Rattle.memory.proofs.Xors.{take-over, lent_start}
use Rattle.field.specs.Packing.{pack, packed_length}
use Rattle.field.proofs.Packing.{length-pack}
use Rattle.sponge.specs.declared.Sponge.{Sponge}
use Rattle.sponge.specs.Steps.{absorbed}
use Rattle.sponge.specs.Sponge.{shake256}
use Rattle.sponge.proofs.Laws.{absorbed-append, length-shake256}
use Rattle.sets.specs.Sets.{S}
use Rattle.sets.specs.declared.Params.{Params}
use Rattle.hashes.specs.Hashes.{commit, commit_fields}
use Rattle.parties.specs.Parties.{parties}
use Rattle.parties.specs.Repetition.{com_of, coms, first, given_at, left_out, all_coms}
use Rattle.parties.proofs.Numbered.{length-parties}
use Rattle.parties.proofs.Growing.{take-suc-parties, flatten-snoc}
use Rattle.parties.proofs.OneRoutine.{coms_by_party}
use Rattle.std.specs.Prelude.{Option, Some, None}
use Rattle.views.specs.declared.leaves.Given.{Given}
use Rattle.views.specs.Views.{given_in}

module _ (g : ℕ → List ℕ → List ℕ) (w n : ℕ) (leaves : List ℕ) where
  -- the parties up to i, and one more
  flatten_grown : (i : ℕ) → i < n
      → flatten (take i (parties g (pieces w n leaves))) ++ g (i + 1) (take w (drop (i * w) leaves)) ≡ flatten (take (i + 1) (parties g (pieces w n leaves)))
  flatten_grown i h =
      sym (flatten-snoc (take i (parties g (pieces w n leaves))) (g (i + 1) (take w (drop (i * w) leaves))))
      ∙ ap flatten
      (ap₂ (λ (j : ℕ) (x : List ℕ). take i (parties g (pieces w n leaves)) ++ (g j x ∷ [])) (add-one i) (sym (get_or-pieces w n leaves i h))
      ∙ sym (take-suc-parties g i (pieces w n leaves) [] (let e = length-pieces w n leaves in omega arith))
      ∙ ap (λ (j : ℕ). take j (parties g (pieces w n leaves))) (sym (add-one i)))

  pub absorbed-party : (s r t : Sponge) (i : ℕ) → i < n → r ≡ absorbed s (flatten (take i (parties g (pieces w n leaves))))
      → t ≡ absorbed r (g (i + 1) (take w (drop (i * w) leaves))) → t ≡ absorbed s (flatten (take (i + 1) (parties g (pieces w n leaves))))
  absorbed-party s r t i h er et =
      et
      ∙ ap (λ (x : Sponge). absorbed x (g (i + 1) (take w (drop (i * w) leaves)))) er
      ∙ absorbed-append s (flatten (take i (parties g (pieces w n leaves)))) (g (i + 1) (take w (drop (i * w) leaves)))
      ∙ ap (absorbed s) (flatten_grown i h)

  pub absorbed-first-party : (s t : Sponge) → 0 < n → t ≡ absorbed s (g (0 + 1) (take w (drop (0 * w) leaves)))
      → t ≡ absorbed s (flatten (take 1 (parties g (pieces w n leaves))))
  unfolding flatten
  absorbed-first-party s t h et = et ∙ ap (absorbed s) (flatten_grown 0 h)

  pub absorbed_all_parties : (s r : Sponge) (i : ℕ) → n ≤ i → r ≡ absorbed s (flatten (take i (parties g (pieces w n leaves))))
      → r ≡ absorbed s (flatten (parties g (pieces w n leaves)))
  absorbed_all_parties s r i h er =
      let e = length-pieces w n leaves in
      let f = length-parties g (pieces w n leaves) in
      er ∙ ap (λ (l : List (List ℕ)). absorbed s (flatten l)) (take_all i (parties g (pieces w n leaves)) (omega arith))

-- a commitment of size bytes by the parameters
pub commit-com_of : (P : Params) (salt : List ℕ) (e : ℕ) → com_of P salt e ≡ commit (S P) salt e
unfolding com_of
commit-com_of P salt e = refl

-- a packed vector that was written to the start of a room is absorbed
pub absorbed_packed : (v room out : List ℕ) (n : ℕ) (s r : Sponge) → n ≡ packed_length (length v) → n ≤ length room → out ≡ over (pack v) room
    → r ≡ absorbed s (take (n - 0) (drop 0 out)) → r ≡ absorbed s (pack v)
absorbed_packed v room out n s r en h eo er =
    er
    ∙ ap (absorbed s)
    (ap₂ (λ (k : ℕ) (x : List ℕ). take k x) (sub-zero n) eo ∙ take-over (pack v) room n (length-pack v ∙ sym en) h)

-- the first hash of one repetition of signing
pub absorbed-first : (P : Params) (salt : List ℕ) (e : ℕ) (seeds : List (List ℕ)) (Δs Δc : List ℕ) (s r t : Sponge)
    → r ≡ absorbed s (flatten (parties (given_in None (commit (S P) salt e)) seeds)) → t ≡ absorbed r (pack Δs ++ pack Δc)
    → t ≡ absorbed s (first (coms P salt e seeds) Δs Δc)
unfolding first coms given_in
absorbed-first P salt e seeds Δs Δc s r t er et =
    et
    ∙ ap (λ (x : Sponge). absorbed x (pack Δs ++ pack Δc)) er
    ∙ absorbed-append s (flatten (parties (commit (S P) salt e) seeds)) (pack Δs ++ pack Δc)
    ∙ ap (λ (l : List (List ℕ)). absorbed s (flatten l ++ (pack Δs ++ pack Δc)))
    (ap (λ (g : ℕ → List ℕ → List ℕ). parties g seeds) (sym (commit-com_of P salt e)))

-- the given entry at party h, and the computed one at every other
pub given_there : (d : List ℕ) (h i : ℕ) (g : ℕ → List ℕ → List ℕ) (x : List ℕ) → i ≡ h → given_at d h g i x ≡ d
given_there d h i g x e = rw (eq-eqb i h e) refl

pub given_elsewhere : (d : List ℕ) (h i : ℕ) (g : ℕ → List ℕ → List ℕ) (x : List ℕ) → (i ≡ h → ⊥) → given_at d h g i x ≡ g i x
given_elsewhere d h i g x e = rw (ne_eqb i h e) refl

-- the same of a commitment that may be given
pub given_is : (o : Option Given) (known : Given) (i : ℕ) (g : ℕ → List ℕ → List ℕ) (x : List ℕ) → o ≡ Some known → known.party ≡ i → given_in o g i x ≡ known.commitment.now
unfolding given_in
given_is o known i g x e h = ap (λ (q : Option Given). given_in q g i x) e ∙ given_there known.commitment.now known.party i g x (sym h)

pub given_another : (o : Option Given) (known : Given) (i : ℕ) (g : ℕ → List ℕ → List ℕ) (x : List ℕ) → o ≡ Some known → (known.party ≡ i → ⊥) → given_in o g i x ≡ g i x
unfolding given_in
given_another o known i g x e h = ap (λ (q : Option Given). given_in q g i x) e ∙ given_elsewhere known.commitment.now known.party i g x (λ t. h (sym t))

pub given_none : (o : Option Given) (i : ℕ) (g : ℕ → List ℕ → List ℕ) (x : List ℕ) → o ≡ None → given_in o g i x ≡ g i x
unfolding given_in
given_none o i g x e = ap (λ (q : Option Given). given_in q g i x) e

-- a commitment that was written to the start of a room is absorbed
pub absorbed-commitment : (salt seed : List ℕ) (e i n : ℕ) (room last : List ℕ) (s r : Sponge) → n ≡ 2 * length seed → n ≤ length room
    → last ≡ shake256 (commit_fields salt e i seed) (length (take (n - 0) (drop 0 room)))
    → r ≡ absorbed s (take (n - 0) (drop 0 (take 0 room ++ (last ++ drop (n - 0) (drop 0 room)))))
    → r ≡ absorbed s (commit (length seed) salt e i seed)
unfolding commit
absorbed-commitment salt seed e i n room last s r en h el er =
    er
    ∙ ap (absorbed s)
    (lent_start room last n h (ap length el ∙ length-shake256 (commit_fields salt e i seed) (length (take (n - 0) (drop 0 room))))
    ∙ el
    ∙ ap (shake256 (commit_fields salt e i seed)) (length-take-le (n - 0) room (omega arith) ∙ sub-zero n ∙ en))

-- the first hash of one repetition of verifying: the commitments of all parties but the hidden one, whose own is given
pub absorbed_known : (P : Params) (salt : List ℕ) (e h : ℕ) (seeds : List (List ℕ)) (d Δs Δc : List ℕ) (s r t : Sponge)
    → r ≡ absorbed s (flatten (parties (given_at d h (commit (S P) salt e)) seeds)) → t ≡ absorbed r (pack Δs ++ pack Δc)
    → t ≡ absorbed s (first (all_coms P salt e d (left_out h seeds)) Δs Δc)
unfolding first
absorbed_known P salt e h seeds d Δs Δc s r t er et =
    et
    ∙ ap (λ (x : Sponge). absorbed x (pack Δs ++ pack Δc)) er
    ∙ absorbed-append s (flatten (parties (given_at d h (commit (S P) salt e)) seeds)) (pack Δs ++ pack Δc)
    ∙ ap (λ (l : List (List ℕ)). absorbed s (flatten l ++ (pack Δs ++ pack Δc)))
    (ap (λ (g : ℕ → List ℕ → List ℕ). parties (given_at d h g) seeds) (sym (commit-com_of P salt e)) ∙ sym (coms_by_party P salt e d h seeds))
