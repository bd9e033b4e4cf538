-- What the routines of one repetition are lent: their numbers, and the parts of work as the code cuts them. Assumes nothing.
use mathlib.Core.Path.{◌≡◌, refl, sym, ap, ap₂, subst, ◌∙◌}
use mathlib.Core.List.{List, ◌++◌, flatten}
use Prim.Native.Nat.{ℕ, ◌+◌, ◌-◌, ◌*◌, ◌/◌, ◌%◌, ◌≤◌, min}
use native.Mathlib.Omega.{arith}
use lib.ListN.{length, take, drop, replicate, length-take}
use lib.Seq.{take-take, drop-drop, take-append-le, drop_at}
use Rattle.memory.specs.Lists.{put}
use Rattle.memory.proofs.Sections.{drop-take}
use Rattle.field.specs.Packing.{packed_length, unpack}
use Rattle.field.proofs.Packing.{nib-take, unpack-same}
use Rattle.sponge.specs.declared.Sponge.{Sponge}
use Rattle.sponge.specs.Steps.{absorbed}
use Rattle.sets.specs.Sets.{S}
use Rattle.sets.specs.declared.Params.{Params}
use Rattle.forms.specs.Circuit.{Circuit}
use Rattle.forms.specs.Room.{circuit_length, challenge_in, HoldsCircuit}
use Rattle.parties.specs.Parties.{corrected, alpha_of}
use Rattle.parties.specs.Repetition.{raw_share}
use Rattle.group.specs.declared.Rep.{Rep}
use Rattle.group.specs.Shares.{values_length, delta_s, delta_c, epsilon}
use Rattle.answers.specs.Answers.{shares_of, answered}
use Rattle.answers.specs.Passes.{room_at}
use Rattle.answers.proofs.Work.{part_same}
use Rattle.vectors.specs.Elements.{elements_at}
use Rattle.refusals.specs.Refusals.{work_length}
use Rattle.biscuit.specs.Room.{Fits, groups, leaves_at, roots_at, challenges_at, root_in}
use Rattle.biscuit.proofs.Parts.{length-first}
use Rattle.biscuit.proofs.Repeated.{among_end}
use Rattle.biscuit.proofs.Room.{mapped, behind-roots}
use Rattle.passes.specs.Passes.{seeds_in, t_in, Kept}
use Rattle.passes.proofs.Planting.{root-part, planted_leaves, planted_kept}
use Rattle.passes.proofs.Committing.{kept_more}
use Rattle.reps.specs.Reps.{rep_of}
use Rattle.replies.specs.Replies.{values_in, answers_in, alpha_in}

-- ---- the parts of work

-- the bytes of a challenge, as the code counts them
pub width-packed : (m w : ℕ) → w ≡ m / 2 + min 1 (m % 2) → w ≡ packed_length m
unfolding packed_length
width-packed m w h = h ∙ omega arith

-- the challenge of repetition e lies in work
pub challenge-end : (P : Params) (e w at : ℕ) → Fits P → 1 ≤ e → e ≤ P.tau → w ≡ packed_length P.m → at ≡ challenges_at P → at + (e - 1) * w + w ≤ work_length
challenge-end P e w at f h k ew ea =
    among_end e P.tau (packed_length P.m) (challenges_at P) work_length w at h k (let m = mapped P in let enough = f.enough in omega arith) ew ea

-- the challenge, as it is lent
pub challenge-lent : (P : Params) (e w at from : ℕ) (work : List ℕ) → w ≡ packed_length P.m → from ≡ challenges_at P → at ≡ from + (e - 1) * w
    → unpack P.m (take (at + w - at) (drop at work)) ≡ challenge_in P.m (drop (challenges_at P) work) e
unfolding challenge_in packed_length
challenge-lent P e w at from work ew ef ea =
    let z : at + w - at ≡ w = omega arith in
    let g = ap (λ (x : ℕ). (e - 1) * x) ew in
    let place : at ≡ challenges_at P + (e - 1) * ((P.m + 1) / 2) = omega arith in
    unpack-same P.m (take (at + w - at) (drop at work)) (drop at work) (λ i h. nib-take (at + w - at) (drop at work) i (omega arith))
    ∙ ap (unpack P.m) (ap (λ (k : ℕ). drop k work) place ∙ sym (drop-drop ((e - 1) * ((P.m + 1) / 2)) (challenges_at P) work))

-- the values, with the challenge from work
pub values_lent : (P : Params) (e w at from : ℕ) (secret packing work values : List ℕ) → w ≡ packed_length P.m → from ≡ challenges_at P → at ≡ from + (e - 1) * w
    → values ≡ elements_at packing ((e - 1) * (P.n + P.m)) (P.n + P.m) ++ (unpack P.m (take (at + w - at) (drop at work)) ++ (t_in P secret ++ replicate P.m 0))
    → values ≡ values_in P e secret packing (drop (challenges_at P) work)
unfolding values_in
values_lent P e w at from secret packing work values ew ef ea h =
    h ∙ ap (λ (c : List ℕ). elements_at packing ((e - 1) * (P.n + P.m)) (P.n + P.m) ++ (c ++ (t_in P secret ++ replicate P.m 0))) (challenge-lent P e w at from work ew ef ea)

-- ---- the numbers of a repetition

module _ (P : Params) (e : ℕ) (f : Fits P) (rep : Rep) (same : rep ≡ rep_of P e 0) where
  pub rep_values : (v : List ℕ) → length v ≡ P.n + 4 * P.m → length v ≡ values_length rep
  rep_values v h = subst (λ (q : Rep). length v ≡ values_length q) (sym same) (omega arith)

  pub rep_leaves : (size : ℕ) → size ≡ 16 * groups P * S P → size ≡ 16 * rep.groups * rep.s
  rep_leaves size h = h ∙ sym (ap (λ (q : Rep). 16 * q.groups * q.s) same)

  pub rep_equations : (v : List ℕ) → length v ≡ P.m → length v ≡ rep.m
  rep_equations v h = h ∙ sym (ap (λ (q : Rep). q.m) same)

  module _ (work : List ℕ) (whole : length work ≡ work_length) where
    -- the circuit alone
    pub circuit_size : (end : ℕ) → end ≡ leaves_at P → length (take (end - 0) (drop 0 work)) ≡ circuit_length rep.n rep.m
    unfolding leaves_at
    circuit_size end h =
        let m = mapped P in
        let enough = f.enough in
        length-first work end (omega arith)
        ∙ (let z : end ≡ circuit_length P.n P.m = omega arith in z)
        ∙ sym (ap (λ (q : Rep). circuit_length q.n q.m) same)

    -- circuit, leaves and room
    pub rooms_size : (end : ℕ) → end ≡ roots_at P → length (take (end - 0) (drop 0 work)) ≡ circuit_length rep.n rep.m + 16 * rep.groups * rep.s + rep.groups * (16 * rep.m)
    unfolding leaves_at
    rooms_size end h =
        let m = mapped P in
        let enough = f.enough in
        length-first work end (omega arith)
        ∙ (let z : end ≡ circuit_length P.n P.m + 16 * groups P * S P + groups P * (16 * P.m) = omega arith in z)
        ∙ sym (ap (λ (q : Rep). circuit_length q.n q.m + 16 * q.groups * q.s + q.groups * (16 * q.m)) same)

    circuit-part : (end : ℕ) → leaves_at P ≤ end → take (circuit_length P.n P.m) (take (end - 0) (drop 0 work)) ≡ take (leaves_at P) work
    unfolding leaves_at
    circuit-part end h = take-take (circuit_length P.n P.m) (end - 0) work (omega arith)

    leaves-part : (end : ℕ) → end ≡ roots_at P → take (16 * groups P * S P) (drop (circuit_length P.n P.m) (take (end - 0) (drop 0 work))) ≡ take (16 * groups P * S P) (drop (leaves_at P) work)
    unfolding leaves_at
    leaves-part end h =
        let m = mapped P in
        let enough = f.enough in
        let a = circuit_length P.n P.m in
        let z : end - 0 ≡ circuit_length P.n P.m + (end - circuit_length P.n P.m) = omega arith in
        ap (λ (k : ℕ). take (16 * groups P * S P) (drop (circuit_length P.n P.m) (take k work))) z
        ∙ ap (take (16 * groups P * S P)) (drop-take (circuit_length P.n P.m) (end - circuit_length P.n P.m) work)
        ∙ take-take (16 * groups P * S P) (end - circuit_length P.n P.m) (drop (circuit_length P.n P.m) work) (omega arith)

    -- what the second hash absorbs
    pub absorbed-leaves : (hash r : Sponge) (salt values : List ℕ) (end : ℕ) → end ≡ roots_at P
        → ((Q : Params) (c : Circuit) → Q.n ≡ rep.n → Q.m ≡ rep.m → HoldsCircuit rep.n rep.m c (take (circuit_length rep.n rep.m) (take (end - 0) (drop 0 work)))
        → r ≡ absorbed hash (answered c rep values (shares_of Q rep salt (take (16 * rep.groups * rep.s) (drop (circuit_length rep.n rep.m) (take (end - 0) (drop 0 work)))) values)))
        → (c : Circuit) → HoldsCircuit P.n P.m c (take (leaves_at P) work) → r ≡ absorbed hash (answers_in P c e salt values (take (16 * groups P * S P) (drop (leaves_at P) work)))
    unfolding answers_in
    absorbed-leaves hash r salt values end h k c held =
        let m = mapped P in
        let enough = f.enough in
        let g = subst (λ (q : Rep). (Q : Params) (c : Circuit) → Q.n ≡ q.n → Q.m ≡ q.m → HoldsCircuit q.n q.m c (take (circuit_length q.n q.m) (take (end - 0) (drop 0 work)))
        → r ≡ absorbed hash (answered c q values (shares_of Q q salt (take (16 * q.groups * q.s) (drop (circuit_length q.n q.m) (take (end - 0) (drop 0 work)))) values))) same k in
        g P c refl refl (subst (λ (x : List ℕ). HoldsCircuit P.n P.m c x) (sym (circuit-part end (omega arith))) held)
        ∙ ap (λ (x : List ℕ). absorbed hash (answered c (rep_of P e 0) values (shares_of P (rep_of P e 0) salt x values))) (leaves-part end h)

    circuit-before : (x y : List ℕ) → leaves_at P ≤ length x → take (leaves_at P) (x ++ y) ≡ take (circuit_length P.n P.m) x
    unfolding leaves_at
    circuit-before x y h = take-append-le (circuit_length P.n P.m) x y h

    -- what it leaves of work
    pub rooms_kept : (end : ℕ) (rooms : List ℕ) → end ≡ roots_at P → length rooms ≡ length (take (end - 0) (drop 0 work))
        → take (room_at rep) rooms ≡ take (room_at rep) (take (end - 0) (drop 0 work))
        → Kept P work (rooms ++ drop (end - 0) work)
    rooms_kept end rooms h size k =
        let m = mapped P in
        let enough = f.enough in
        let l = length-first work end (omega arith) in
        let g = subst (λ (q : Rep). take (circuit_length q.n q.m) rooms ≡ take (circuit_length q.n q.m) (take (end - 0) (drop 0 work))) same
        (part_same rooms (take (end - 0) (drop 0 work)) 0 (circuit_length rep.n rep.m) (room_at rep) (omega arith) k) in
        record {
          circuit = circuit-before rooms (drop (end - 0) work) (omega arith) ∙ g ∙ circuit-part end (omega arith);
          roots = drop_at rooms (drop (end - 0) work) (roots_at P) (omega arith) ∙ ap (λ (j : ℕ). drop j work) (let z : end - 0 ≡ roots_at P = omega arith in z);
        }

    -- the α of one party
    pub alpha-lent : (i s at roots end : ℕ) (salt values out : List ℕ) → s ≡ S P → roots ≡ roots_at P → at ≡ roots + (e - 1) * s → end ≡ leaves_at P
        → ((Q : Params) (c : Circuit) → Q.n ≡ rep.n → Q.m ≡ rep.m → HoldsCircuit rep.n rep.m c (take (end - 0) (drop 0 work))
        → out ≡ alpha_of c (epsilon rep values) i (corrected (delta_s rep values) (delta_c rep values) i (raw_share Q salt rep.e i (take (at + s - at) (drop at work)))))
        → (c : Circuit) → HoldsCircuit P.n P.m c (take (leaves_at P) work) → out ≡ alpha_in P c e i salt values (root_in (S P) (drop (roots_at P) work) e)
    unfolding alpha_in
    alpha-lent i s at roots end salt values out es er ea ee k c held =
        let g = subst (λ (q : Rep). (Q : Params) (c : Circuit) → Q.n ≡ q.n → Q.m ≡ q.m → HoldsCircuit q.n q.m c (take (end - 0) (drop 0 work))
        → out ≡ alpha_of c (epsilon q values) i (corrected (delta_s q values) (delta_c q values) i (raw_share Q salt q.e i (take (at + s - at) (drop at work))))) same k in
        let z : at + s - at ≡ S P = omega arith in
        let y : leaves_at P ≡ end - 0 = omega arith in
        let place : at ≡ roots_at P + (e - 1) * S P = ea ∙ ap₂ (λ (r w : ℕ). r + (e - 1) * w) er es in
        g P c refl refl (subst (λ (n : ℕ). HoldsCircuit P.n P.m c (take n work)) y held)
        ∙ ap (λ (x : List ℕ). alpha_of c (epsilon (rep_of P e 0) values) i (corrected (delta_s (rep_of P e 0) values) (delta_c (rep_of P e 0) values) i (raw_share P salt e i x)))
        (ap₂ (λ (n d : ℕ). take n (drop d work)) z place ∙ sym (root-part P work e))

-- the leaf, as it is lent
pub leaf_size : (P : Params) → Fits P → (s at : ℕ) (work : List ℕ) → s ≡ S P → length (take (at + s - at) (drop at work)) ≤ 32
leaf_size P f s at work e = let l = length-take (at + s - at) (drop at work) in let b = f.seed in omega arith

-- with the values that were read
pub answered_values : (P : Params) (e : ℕ) (salt given values leaves work : List ℕ) (hash r : Sponge) → given ≡ values
    → ((c : Circuit) → HoldsCircuit P.n P.m c (take (leaves_at P) work) → r ≡ absorbed hash (answers_in P c e salt given leaves))
    → (c : Circuit) → HoldsCircuit P.n P.m c (take (leaves_at P) work) → r ≡ absorbed hash (answers_in P c e salt values leaves)
answered_values P e salt given values leaves work hash r h k c held = k c held ∙ ap (λ (v : List ℕ). absorbed hash (answers_in P c e salt v leaves)) h

-- ---- the leaves planted

module _ (P : Params) (f : Fits P) (salt work : List ℕ) (whole : length work ≡ work_length) (e : ℕ) (from : 1 ≤ e) (to : e ≤ P.tau) where
  -- one repetition, seen from work before
  pub answered_planted : (hash r : Sponge) (secret packing now : List ℕ) → now ≡ put work (leaves_at P) (flatten (seeds_in P salt (drop (roots_at P) work) e))
      → ((c : Circuit) → HoldsCircuit P.n P.m c (take (leaves_at P) now) → r ≡ absorbed hash (answers_in P c e salt (values_in P e secret packing (drop (challenges_at P) now)) (take (16 * groups P * S P) (drop (leaves_at P) now))))
      → (c : Circuit) → HoldsCircuit P.n P.m c (take (leaves_at P) work)
      → r ≡ absorbed hash (answers_in P c e salt (values_in P e secret packing (drop (challenges_at P) work)) (flatten (seeds_in P salt (drop (roots_at P) work) e)))
  answered_planted hash r secret packing now h k c held =
      let kept = subst (λ (w : List ℕ). Kept P work w) (sym h) (planted_kept P f salt work whole e from to) in
      k c (subst (λ (x : List ℕ). HoldsCircuit P.n P.m c x) (sym kept.circuit) held)
      ∙ ap₂ (λ (x l : List ℕ). absorbed hash (answers_in P c e salt (values_in P e secret packing x) l)) (behind-roots P work now kept.roots)
      (ap (λ (w : List ℕ). take (16 * groups P * S P) (drop (leaves_at P) w)) h ∙ planted_leaves P f salt work whole e from to (16 * groups P * S P) refl)

  pub kept_planted : (now end : List ℕ) → now ≡ put work (leaves_at P) (flatten (seeds_in P salt (drop (roots_at P) work) e)) → Kept P now end → Kept P work end
  kept_planted now end h k = kept_more P work now end (subst (λ (w : List ℕ). Kept P work w) (sym h) (planted_kept P f salt work whole e from to)) k
