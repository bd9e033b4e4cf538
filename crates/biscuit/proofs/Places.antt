-- For whoever reads signatures half byte by half byte: where each element that a reader extracts lies in the bytes.
-- Assumes nothing.
use mathlib.Core.Path.{◌≡◌, sym, ap, ◌∙◌}
use mathlib.Core.List.{List, []}
use Prim.Native.Nat.{ℕ, ◌+◌, ◌-◌, ◌*◌, ◌≤◌, ◌<◌}
use native.Mathlib.Omega.{arith}
use lib.ListN.{take, drop}
use lib.Seq.{ext_get_or, get_or-take, get_or-drop, take-take}
use Rattle.memory.specs.Sections.{pieces}
use Rattle.memory.proofs.Lists.{room}
use Rattle.memory.proofs.Sections.{length-pieces, get_or-pieces, drop-take}
use Rattle.field.specs.Packing.{nib, unpack}
use Rattle.field.specs.Vectors.{◌!◌}
use Rattle.field.proofs.Packing.{get_or-unpack}
use Rattle.sets.specs.Sets.{S}
use Rattle.sets.specs.declared.Params.{Params}
use Rattle.biscuit.specs.Signature.{shown_at, packing_at, vector_count, packed_vectors, opening_of}
use Rattle.biscuit.proofs.Repeated.{among}

-- entry i of a part, where all entries are half bytes
part_at : (b : List ℕ) (count n k i : ℕ) → i < n → k + i < count → take n (drop k (unpack count b)) ! i ≡ nib b (k + i)
part_at b count n k i h g = get_or-take n (drop k (unpack count b)) i 0 h ∙ get_or-drop k (unpack count b) i 0 ∙ get_or-unpack count b (k + i) g

-- ---- openings

module _ (P : Params) (x : List ℕ) (e : ℕ) (from_one : 1 ≤ e) (within : e ≤ P.tau) where
  pub Δs-at : (k : ℕ) → k < P.n → (opening_of P x e).Δs ! k ≡ nib (drop (packing_at P) x) ((e - 1) * (P.n + P.m) + k)
  unfolding opening_of packed_vectors vector_count
  Δs-at k h =
      let r = among e P.tau (P.n + P.m) from_one within in
      part_at (drop (packing_at P) x) (vector_count P) P.n ((e - 1) * (P.n + P.m)) k h (omega arith)

  pub Δc-at : (k : ℕ) → k < P.m → (opening_of P x e).Δc ! k ≡ nib (drop (packing_at P) x) ((e - 1) * (P.n + P.m) + P.n + k)
  unfolding opening_of packed_vectors vector_count
  Δc-at k h =
      let r = among e P.tau (P.n + P.m) from_one within in
      part_at (drop (packing_at P) x) (vector_count P) P.m ((e - 1) * (P.n + P.m) + P.n) k h (omega arith)

  pub α-at : (k : ℕ) → k < P.m → (opening_of P x e).α ! k ≡ nib (drop (packing_at P) x) (P.tau * (P.n + P.m) + (e - 1) * P.m + k)
  unfolding opening_of packed_vectors vector_count
  α-at k h =
      let r = among e P.tau P.m from_one within in
      part_at (drop (packing_at P) x) (vector_count P) P.m (P.tau * (P.n + P.m) + (e - 1) * P.m) k h (omega arith)

-- sections are cut from just the bytes that they take
pieces-take : (w n : ℕ) (x : List ℕ) → pieces w n (take (n * w) x) ≡ pieces w n x
pieces-take w n x =
    ext_get_or [] (pieces w n (take (n * w) x)) (pieces w n x) (length-pieces w n (take (n * w) x) ∙ sym (length-pieces w n x))
    (λ i h. let g : i < n = omega (arith, length-pieces w n (take (n * w) x)) in
    get_or-pieces w n (take (n * w) x) i g
    ∙ sym (drop-take (i * w) w (take (n * w) x))
    ∙ ap (drop (i * w)) (take-take (i * w + w) (n * w) x (room i n w g))
    ∙ drop-take (i * w) w x
    ∙ sym (get_or-pieces w n x i g))

-- the path of repetition e is cut from the L·S bytes where it lies
pub path_read : (P : Params) (x : List ℕ) (e : ℕ) → (opening_of P x e).path ≡ pieces (S P) P.l (take (P.l * S P) (drop (shown_at P e) x))
unfolding opening_of
path_read P x e = sym (pieces-take (S P) P.l (drop (shown_at P e) x))
