-- Each public function of this crate has one outcome: words are fixed by their sixteen lanes, and bytes by their half bytes. That the entries of a lent part are below 2 ^ 64 or 256 is what their type,
-- u64 or u8, says of them. Assumes nothing.
use mathlib.Core.Path.{◌≡◌, sym, ap, ◌∙◌, subst}
use mathlib.Core.List.{List}
use Prim.Native.Nat.{ℕ, ◌*◌, ◌/◌, ◌%◌, ◌<◌}
use native.Mathlib.Nat.{mod-lt, div-add-mod, div-lt_iff_lt-mul}
use native.Mathlib.Omega.{arith}
use lib.ListN.{length}
use Rattle.memory.specs.Outcome.{OneOutcome}
use Rattle.memory.proofs.Words.{Below}
use Rattle.field.specs.Packing.{Bytes, nib}
use Rattle.lanes.proofs.Laws.{words_fix}
use Rattle.lanes.proofs.OneOutcome.{words_by_lanes, bytes_in_front}
use Rattle.turning.specs.Parties.{PartiesPacked}
use Rattle.turning.specs.Turns.{Transposed}
use Rattle.turning.proofs.Packed.{turned_holds}
use Rattle.turning.proofs.to_lanes as to-lanes
use Rattle.turning.proofs.transpose as transpose
use Rattle.turning.proofs.pack_parties as pack-parties

pub to_lanes_one_outcome :
    OneOutcome to-lanes.Kinds.ps to-lanes.Kinds.r to-lanes.Reads.Asked (λ κs a r e. to-lanes.Reads.Learnt κs a r e × Below 64 e.1.0.now)
to_lanes_one_outcome κs a good asked o q x y =
    let g = x.kept.1.0 in
    let h = y.kept.1.0 in
    let t = a.0.now in
    ap (λ (l : List ℕ). (tt, (tt, (l, tt))))
    (words_fix _ o.1.1.0 q.1.1.0 (g ∙ sym h) x.promised.1 y.promised.1
    (turned_holds t o.1.1.0 (g ∙ sym asked.0) asked.1 x.promised.0)
    (turned_holds t q.1.1.0 (h ∙ sym asked.0) asked.1 y.promised.0))

pub transpose_one_outcome :
    OneOutcome transpose.Kinds.ps transpose.Kinds.r transpose.Reads.Asked (λ κs a r e. transpose.Reads.Learnt κs a r e × Below 64 e.1.0.now)
unfolding Transposed
transpose_one_outcome κs a good asked o q x y =
    let g = x.kept.1.0 in
    let h = y.kept.1.0 in
    ap (λ (l : List ℕ). (tt, (tt, (l, tt))))
    (words_by_lanes o.1.1.0 q.1.1.0 (g ∙ sym h) x.promised.1 y.promised.1
    (λ k j l m. let n : k < 16 = omega arith in x.promised.0 j k m n ∙ sym (y.promised.0 j k m n)))

-- the bytes of sixteen parties, written over the start of the old ones
parties_packed_fix : (words old x y : List ℕ) → length x ≡ length y → Bytes x → Bytes y → PartiesPacked words old x → PartiesPacked words old y → x ≡ y
parties_packed_fix words old x y e hx hy p r = bytes_in_front (8 * length words) x y e hx hy (λ i h. front i (omega arith)) (p.rest ∙ sym r.rest)
  where
    front : (i : ℕ) → i < 16 * length words → nib x i ≡ nib y i
    front i h =
        let m = length words in
        let j : i / m < 16 = (div-lt_iff_lt-mul {k = m} {x = i} {y = 16} (omega arith)).1 h in
        let k : i % m < m = mod-lt i (omega arith) in
        subst (λ (n : ℕ). nib x n ≡ nib y n) (div-add-mod i m) (p.elements (i / m) (i % m) j k ∙ sym (r.elements (i / m) (i % m) j k))

pub pack_parties_one_outcome :
    OneOutcome pack-parties.Kinds.ps pack-parties.Kinds.r pack-parties.Reads.Asked (λ κs a r e. pack-parties.Reads.Learnt κs a r e × Bytes e.1.0.now)
pack_parties_one_outcome κs a good asked o q x y =
    ap (λ (l : List ℕ). (tt, (tt, (l, tt))))
    (parties_packed_fix a.0.now a.1.0.now o.1.1.0 q.1.1.0 (x.kept.1.0 ∙ sym y.kept.1.0) x.promised.1 y.promised.1 x.promised.0 y.promised.0)
