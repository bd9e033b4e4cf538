-- One repetition: what it gives to the two hashes is what algorithm 13 says, and what was expanded for all repetitions stays where it is.
-- Assumes nothing.
use mathlib.Core.Path.{◌≡◌, refl, sym, ap, ap₂, subst, ◌∙◌}
use mathlib.Core.List.{List, [], ◌++◌, flatten}
use Prim.Native.Nat.{ℕ, ◌+◌, ◌-◌, ◌*◌, ◌≤◌, ◌<◌}
use native.Mathlib.Omega.{arith}
use lib.ListN.{length, get_or, take, drop, replicate, length-drop}
use lib.Seq.{take_at, drop_at, take-take, take-append-le, drop-append-le, length-take-le}
use Rattle.memory.specs.Lists.{put}
use Rattle.memory.specs.Sections.{pieces}
use Rattle.memory.proofs.Sections.{drop-take}
use Rattle.memory.proofs.Parts.{take_put, mid_put, drop-put}
use Rattle.sets.specs.Sets.{S, N}
use Rattle.sets.specs.declared.Params.{Params}
use Rattle.tree.specs.Tree.{children, get_path_seeds, filled}
use Rattle.forms.specs.Room.{circuit_length}
use Rattle.forms.proofs.Sampling.{Index, expand_index_index}
use Rattle.parties.specs.Repetition.{hidden_party, left_out}
use Rattle.group.specs.declared.Rep.{Rep}
use Rattle.answers.specs.Passes.{circuit_of, leaves_of, HoldsRoom}
use Rattle.answers.specs.Passes as passes
use Rattle.answers.proofs.Work.{part_same}
use Rattle.biscuit.specs.Keys.{PublicKey}
use Rattle.biscuit.specs.Signature.{Signature, shown_at, opening_of, extracted}
use Rattle.biscuit.specs.Verify.{hidden, seeds}
use Rattle.biscuit.specs.Room.{leaves_at, room_at, roots_at, room_end}
use Rattle.biscuit.proofs.Parts.{drop-behind-put}
use Rattle.biscuit.proofs.Places.{path_read}
use Rattle.biscuit.proofs.Room.{mapped}
use Rattle.reps.specs.Reps.{rep_of}
use Rattle.turns.specs.declared.claim.Claim.{Claim}
use Rattle.turns.specs.declared.claim.Repetition.{Repetition}
use Rattle.turns.specs.Turns.{key_of, signature_of, circuit_part, leaves_part, room_part, Answered, leaves, rebuilt, TurnLeft}
use Rattle.turns.proofs.Leaves.{leaves_left_out, length-filled, path-sized}
use Rattle.turns.proofs.Sizes.{shown_fits, leaves_size}

module _ (r : Repetition) where
  abbrev pub p : Params
  p = r.claim.p

  abbrev pub key : PublicKey
  key = key_of r.claim

  abbrev pub σ : Signature
  σ = signature_of r.claim

  pub index : Index p.l (hidden p key σ r.e)
  unfolding hidden hidden_party
  index = expand_index_index σ.h₂ p.l r.e

  sized : (k : ℕ) → k < p.l → length (get_or (pieces (S p) p.l (drop (shown_at p r.e) r.claim.signature.now)) k []) ≡ S p
  sized =
      path-sized (S p) p.l (drop (shown_at p r.e) r.claim.signature.now)
      (let h = shown_fits p r.claim.fits r.e r.from_one r.within in let l = r.claim.whole_signature in simp length-drop (omega arith))

  pub length_of_leaves : length (leaves p key σ r.e) ≡ room_at p - leaves_at p
  unfolding leaves seeds extracted opening_of
  length_of_leaves =
      length-filled (S p) (take (2 * S p) r.claim.signature.now) r.e p.l (pieces (S p) p.l (drop (shown_at p r.e) r.claim.signature.now)) (hidden p key σ r.e) sized index.below index.from_one
      ∙ sym (leaves_size p r.claim.fits)

  -- line 10: the leaves as they are rebuilt
  pub rebuilt_as : (salt path out : List ℕ) (i h : ℕ) → salt ≡ σ.salt → i ≡ r.e → path ≡ take (p.l * S p) (drop (shown_at p r.e) r.claim.signature.now) → h ≡ hidden p key σ r.e
      → out ≡ flatten (filled (replicate (S p) 0) (get_path_seeds (children (S p) salt i) p.l (pieces (S p) p.l path) h)) → out ≡ leaves p key σ r.e
  unfolding leaves seeds extracted
  rebuilt_as salt path out i h es ei ep eh eo =
      eo
      ∙ ap₂ (λ (t : List ℕ) (j : ℕ). flatten (filled (replicate (S p) 0) (get_path_seeds (children (S p) t j) p.l (pieces (S p) p.l path) h))) es ei
      ∙ ap₂ (λ (l : List (List ℕ)) (j : ℕ). flatten (filled (replicate (S p) 0) (get_path_seeds (children (S p) σ.salt r.e) p.l l j)))
      (ap (pieces (S p) p.l) ep ∙ sym (path_read p r.claim.signature.now r.e)) eh

  -- the seeds, by the leaves
  pub known_seeds : seeds p key σ r.e ≡ left_out (hidden p key σ r.e) (pieces (S p) (N p) (leaves p key σ r.e))
  unfolding seeds leaves N extracted opening_of
  known_seeds = leaves_left_out (S p) (take (2 * S p) r.claim.signature.now) r.e p.l (pieces (S p) p.l (drop (shown_at p r.e) r.claim.signature.now)) (hidden p key σ r.e) sized index.below index.from_one

-- ---- what was expanded stays

-- work with the leaves of a repetition in their place
abbrev pub rebuilt_by : Repetition → List ℕ → List ℕ
rebuilt_by r w = rebuilt r.claim.p (key_of r.claim) (signature_of r.claim) r.e w

-- the leaves put into work
module _ (P : Params) (w new w' : List ℕ) (enough : room_end P ≤ length w) (size : length new ≡ room_at P - leaves_at P) (is : w' ≡ put w (leaves_at P) new) where
  fits : leaves_at P + length new ≤ length w
  fits = let m = mapped P in omega arith

  pub put-circuit : circuit_part P w' ≡ circuit_part P w
  put-circuit = ap (take (leaves_at P)) is ∙ take_put w (leaves_at P) new fits

  pub put-leaves : leaves_part P w' ≡ new
  put-leaves = ap (λ (l : List ℕ). take (room_at P - leaves_at P) (drop (leaves_at P) l)) is ∙ ap (λ (n : ℕ). take n (drop (leaves_at P) (put w (leaves_at P) new))) (sym size) ∙ mid_put w (leaves_at P) new fits

  pub put_rest : drop (roots_at P) w' ≡ drop (roots_at P) w
  put_rest = ap (drop (roots_at P)) is ∙ drop-behind-put w (leaves_at P) new (roots_at P) fits (let m = mapped P in omega arith)

-- leaves put over leaves
put_again : (w : List ℕ) (at : ℕ) (old new : List ℕ) → length new ≡ length old → at + length old ≤ length w → put (put w at old) at new ≡ put w at new
unfolding put
put_again w at old new same fit =
    ap₂ (λ (l r : List ℕ). l ++ (new ++ r)) (take_put w at old fit)
    (ap (λ (n : ℕ). drop (at + n) (put w at old)) same ∙ drop-put w at old fit ∙ ap (λ (n : ℕ). drop (at + n) w) (sym same))

-- the leaves of one repetition take the place of those of another
pub leaves-over : (r t : Repetition) → t.claim ≡ r.claim → (w w₁ w₂ : List ℕ) → room_end r.claim.p ≤ length w → w₁ ≡ rebuilt_by r w → w₂ ≡ rebuilt_by t w₁ → w₂ ≡ rebuilt_by t w
leaves-over r t same w w₁ w₂ enough one two =
    let a = length_of_leaves r in
    let b = length_of_leaves t in
    let m = mapped r.claim.p in
    let from = ap (λ (c : Claim). leaves_at c.p) same in
    let to = ap (λ (c : Claim). room_at c.p) same in
    two ∙ ap (rebuilt_by t) (one ∙ ap (λ (n : ℕ). put w n (leaves r.claim.p (key_of r.claim) (signature_of r.claim) r.e)) (sym from))
    ∙ put_again w (leaves_at t.claim.p) (leaves r.claim.p (key_of r.claim) (signature_of r.claim) r.e) (leaves t.claim.p (key_of t.claim) (signature_of t.claim) t.e) (omega arith) (omega arith)

-- two repetitions rebuilt, one after the other
module _ (r t : Repetition) (same : t.claim ≡ r.claim) (w w₁ w₂ : List ℕ) (enough : room_end r.claim.p ≤ length w) (one : w₁ ≡ rebuilt_by r w) (two : w₂ ≡ rebuilt_by t w₁) (kept : length w₁ ≡ length w) where
  enough_again : room_end t.claim.p ≤ length w₁
  enough_again = let n = ap (λ (c : Claim). room_end c.p) same in omega arith

  pub two-leaves : leaves_part r.claim.p w₂ ≡ leaves r.claim.p (key_of r.claim) (signature_of r.claim) t.e
  two-leaves =
      subst (λ (c : Claim). leaves_part c.p w₂ ≡ leaves c.p (key_of c) (signature_of c) t.e) same (put-leaves t.claim.p w₁ _ w₂ enough_again (length_of_leaves t) two)

  pub two-circuit : circuit_part r.claim.p w₂ ≡ circuit_part r.claim.p w
  two-circuit =
      subst (λ (c : Claim). circuit_part c.p w₂ ≡ circuit_part c.p w₁) same (put-circuit t.claim.p w₁ _ w₂ enough_again (length_of_leaves t) two)
      ∙ put-circuit r.claim.p w _ w₁ enough (length_of_leaves r) one

-- the same of equal things
pub answered-same : {P : Params} {e h h' : ℕ} {salt v v' before before' after : List ℕ} → h ≡ h' → v ≡ v' → before ≡ before'
    → Answered P (rep_of P e h) salt v before after → Answered P (rep_of P e h') salt v' before' after
answered-same {P} {e} {h} {h'} {salt} {v} {v'} {before} {before'} {after} eh ev eb a =
    subst (λ (t : ℕ × List ℕ × List ℕ). Answered P (rep_of P e t.0) salt t.1 t.2 after) (λ i. (eh i, ev i, eb i)) a

-- what a repetition leaves of the circuit, and of what lies behind the room
module _ (r : Repetition) (w w' : List ℕ) (enough : room_end r.claim.p ≤ length w) (left : TurnLeft r.claim.p (key_of r.claim) (signature_of r.claim) r.e w w') where
  pub left_circuit : circuit_part r.claim.p w' ≡ circuit_part r.claim.p w
  left_circuit =
      let m = mapped r.claim.p in
      part_same w' (rebuilt_by r w) 0 (leaves_at r.claim.p) (room_at r.claim.p) (omega arith) left.front
      ∙ put-circuit r.claim.p w _ _ enough (length_of_leaves r) refl

  pub left_rest : drop (roots_at r.claim.p) w' ≡ drop (roots_at r.claim.p) w
  left_rest = left.rest ∙ put_rest r.claim.p w _ _ enough (length_of_leaves r) refl

-- the part of work up to the roots lent, and come back with circuit, leaves and room in it
module _ (P : Params) (w : List ℕ) (enough : room_end P ≤ length w) (d : ℕ) (at : d ≡ roots_at P) where
  lent_all : take d w ≡ take (roots_at P) w
  lent_all = ap (λ (n : ℕ). take n w) at

  pub rooms_length : length (take d w) ≡ roots_at P
  rooms_length = let m = mapped P in ap length lent_all ∙ length-take-le (roots_at P) w (omega arith)

  pub rooms_circuit : (c : ℕ) → c ≡ leaves_at P → take c (take d w) ≡ circuit_part P w
  rooms_circuit c ec = ap₂ (λ (n : ℕ) (l : List ℕ). take n l) ec lent_all ∙ take-take (leaves_at P) (roots_at P) w (let m = mapped P in omega arith)

  pub rooms_leaves : (c k : ℕ) → c ≡ leaves_at P → k ≡ room_at P - leaves_at P → take k (drop c (take d w)) ≡ leaves_part P w
  rooms_leaves c k ec ek =
      let m = mapped P in
      ap₂ (λ (i j : ℕ). take j (drop i (take d w))) ec ek
      ∙ ap (λ (l : List ℕ). take (room_at P - leaves_at P) (drop (leaves_at P) l)) lent_all
      ∙ sym (drop-take (leaves_at P) (room_at P - leaves_at P) (take (roots_at P) w))
      ∙ ap (drop (leaves_at P)) (take-take (leaves_at P + (room_at P - leaves_at P)) (roots_at P) w (omega arith))
      ∙ drop-take (leaves_at P) (room_at P - leaves_at P) w

  module _ (last : List ℕ) (kept : length last ≡ length (take d w)) where
    pub rooms_back_front : (k : ℕ) → k ≡ room_at P → take k last ≡ take k (take d w) → take (room_at P) (last ++ drop d w) ≡ take (room_at P) w
    rooms_back_front k ek h =
        let m = mapped P in
        let l = rooms_length in
        take-append-le (room_at P) last (drop d w) (omega arith)
        ∙ ap (λ (n : ℕ). take n last) (sym ek) ∙ h
        ∙ ap₂ (λ (n : ℕ) (l : List ℕ). take n l) ek lent_all ∙ take-take (room_at P) (roots_at P) w (omega arith)

    rooms_back_room : (k : ℕ) → k ≡ room_at P → drop k last ≡ room_part P (last ++ drop d w)
    rooms_back_room k ek =
        let m = mapped P in
        let l = rooms_length in
        ap (λ (n : ℕ). drop n last) ek
        ∙ sym (ap (take (roots_at P - room_at P)) (drop-append-le (room_at P) last (drop d w) (omega arith))
        ∙ take_at (drop (room_at P) last) (drop d w) (roots_at P - room_at P) (length-drop (room_at P) last ∙ (let q : length last - room_at P ≡ roots_at P - room_at P = omega arith in q)))

    -- the room, as the answers leave it
    pub rooms_back_held : (rep rep' : Rep) (salt salt' values : List ℕ) → rep ≡ rep' → salt ≡ salt' → circuit_length rep.n rep.m ≡ leaves_at P → 16 * rep.groups * rep.s ≡ room_at P - leaves_at P
        → HoldsRoom rep (circuit_of rep (take d w)) salt (leaves_of rep (take d w)) values (drop (passes.room_at rep) last)
        → HoldsRoom rep' (circuit_part P w) salt' (leaves_part P w) values (room_part P (last ++ drop d w))
    rooms_back_held rep rep' salt salt' values er es ec el h =
        let c = rooms_circuit (circuit_length rep.n rep.m) ec in
        let l = rooms_leaves (circuit_length rep.n rep.m) (16 * rep.groups * rep.s) ec el in
        let r = rooms_back_room (passes.room_at rep) (let m = mapped P in omega arith) in
        subst (λ (t : Rep × List ℕ × List ℕ × List ℕ × List ℕ). HoldsRoom t.0 t.1 t.2 t.3 values t.4) (λ i. (er i, c i, es i, l i, r i)) h

    pub rooms_back_rest : drop (roots_at P) (last ++ drop d w) ≡ drop (roots_at P) w
    rooms_back_rest = drop_at last (drop d w) (roots_at P) (kept ∙ rooms_length) ∙ ap (λ (n : ℕ). drop n w) at
