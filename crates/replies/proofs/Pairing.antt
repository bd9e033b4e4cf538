-- Two repetitions answered together: one after the other, or side by side with the leaves of the first kept apart. Assumes nothing.
use mathlib.Core.Path.{◌≡◌, refl, sym, ap, ap₂, subst, ◌∙◌}
use mathlib.Core.List.{List, flatten}
use Prim.Native.Nat.{ℕ, ◌-◌, ◌*◌, ◌≤◌}
use native.Mathlib.Omega.{arith}
use lib.ListN.{length, take, drop}
use Rattle.memory.specs.Lists.{put}
use Rattle.sponge.specs.declared.Sponge.{Sponge}
use Rattle.sponge.specs.Steps.{absorbed}
use Rattle.sets.specs.Sets.{S}
use Rattle.sets.specs.declared.Params.{Params}
use Rattle.forms.specs.Circuit.{Circuit}
use Rattle.forms.specs.Room.{HoldsCircuit}
use Rattle.group.specs.declared.Rep.{Rep}
use Rattle.answers.specs.Answers.{shares_of, answered}
use Rattle.refusals.specs.Refusals.{work_length}
use Rattle.biscuit.specs.Room.{Fits, LayoutOf, groups, leaves_at, roots_at, challenges_at}
use Rattle.biscuit.specs.declared.Layout.{Layout}
use Rattle.biscuit.proofs.Room.{mapped, behind-roots}
use Rattle.passes.specs.Passes.{seeds_in, Kept}
use Rattle.passes.proofs.Planting.{planted_part, planted_leaves, planted_kept}
use Rattle.passes.proofs.Committing.{kept_same, kept_more}
use Rattle.reps.specs.Reps.{rep_of}
use Rattle.replies.specs.Replies.{values_in, answers_in, answers_of}

-- ---- one after the other

-- what a repetition takes, where work has the parts that stay
pub answers_kept : (P : Params) (c : Circuit) (e : ℕ) (salt secret packing before after : List ℕ) → Kept P before after
    → answers_of P c e salt secret packing after ≡ answers_of P c e salt secret packing before
answers_kept P c e salt secret packing before after k =
    ap₂ (λ (x r : List ℕ). answers_in P c e salt (values_in P e secret packing x) (flatten (seeds_in P salt r e))) (behind-roots P before after k.roots) k.roots

pub answered_after : (P : Params) (e next : ℕ) (salt secret packing before after : List ℕ) (hash first r : Sponge) → Kept P before after
    → ((c : Circuit) → HoldsCircuit P.n P.m c (take (leaves_at P) before) → first ≡ absorbed hash (answers_of P c e salt secret packing before))
    → ((c : Circuit) → HoldsCircuit P.n P.m c (take (leaves_at P) after) → r ≡ absorbed first (answers_of P c next salt secret packing after))
    → (c : Circuit) → HoldsCircuit P.n P.m c (take (leaves_at P) before)
    → r ≡ absorbed (absorbed hash (answers_of P c e salt secret packing before)) (answers_of P c next salt secret packing before)
answered_after P e next salt secret packing before after hash first r k h g c held =
    g c (subst (λ (x : List ℕ). HoldsCircuit P.n P.m c x) (sym k.circuit) held)
    ∙ ap₂ (λ (s : Sponge) (x : List ℕ). absorbed s x) (h c held) (answers_kept P c next salt secret packing before after k)

-- ---- side by side

-- both have the numbers of the set
module _ (P : Params) (e next : ℕ) (rep other : Rep) (same : rep ≡ rep_of P e 0) (same' : other ≡ rep_of P next 0) where
  pub beside-variables : other.n ≡ rep.n
  beside-variables = ap (λ (q : Rep). q.n) same' ∙ sym (ap (λ (q : Rep). q.n) same)

  pub beside-equations : other.m ≡ rep.m
  beside-equations = ap (λ (q : Rep). q.m) same' ∙ sym (ap (λ (q : Rep). q.m) same)

  -- what the second hash absorbs
  pub absorbed-beside : (map : Layout) → LayoutOf P map → (work : List ℕ) (hash r : Sponge) (salt values more leaves : List ℕ)
      → ((Q : Params) (c : Circuit) → Q.n ≡ rep.n → Q.m ≡ rep.m → HoldsCircuit rep.n rep.m c (take (map.leaves - 0) (drop 0 work))
      → r ≡ absorbed (absorbed hash (answered c rep values (shares_of Q rep salt leaves values))) (answered c other more (shares_of Q other salt (take (map.room - map.leaves) (drop map.leaves work)) more)))
      → (c : Circuit) → HoldsCircuit P.n P.m c (take (leaves_at P) work)
      → r ≡ absorbed (absorbed hash (answers_in P c e salt values leaves)) (answers_in P c next salt more (take (16 * groups P * S P) (drop (leaves_at P) work)))
  unfolding answers_in
  absorbed-beside map laid work hash r salt values more leaves k c held =
      let m = mapped P in
      let a = laid.leaves in
      let b = laid.room in
      let first : leaves_at P ≡ map.leaves - 0 = omega arith in
      let size : map.room - map.leaves ≡ 16 * groups P * S P = omega arith in
      let g = subst (λ (q : Rep). (Q : Params) (c : Circuit) → Q.n ≡ q.n → Q.m ≡ q.m → HoldsCircuit q.n q.m c (take (map.leaves - 0) (drop 0 work))
      → r ≡ absorbed (absorbed hash (answered c q values (shares_of Q q salt leaves values))) (answered c other more (shares_of Q other salt (take (map.room - map.leaves) (drop map.leaves work)) more))) same k in
      g P c refl refl (subst (λ (n : ℕ). HoldsCircuit P.n P.m c (take n work)) first held)
      ∙ ap (λ (q : Rep). absorbed (absorbed hash (answered c (rep_of P e 0) values (shares_of P (rep_of P e 0) salt leaves values))) (answered c q more (shares_of P q salt (take (map.room - map.leaves) (drop map.leaves work)) more))) same'
      ∙ ap₂ (λ (n d : ℕ). absorbed (absorbed hash (answered c (rep_of P e 0) values (shares_of P (rep_of P e 0) salt leaves values))) (answered c (rep_of P next 0) more (shares_of P (rep_of P next 0) salt (take n (drop d work)) more))) size a

-- one group has sixteen leaves
pub sixteen-leaves : (P : Params) (size : ℕ) → groups P ≡ 1 → size ≡ 16 * S P → size ≡ 16 * groups P * S P
sixteen-leaves P size one h = h ∙ ap (λ (g : ℕ). 16 * g * S P) (sym one)

-- the leaves of one are planted and copied, then those of the next are planted in their place
module _ (P : Params) (f : Fits P) (salt work : List ℕ) (whole : length work ≡ work_length) (e next : ℕ) (from : 1 ≤ e) (to : e ≤ P.tau) (from' : 1 ≤ next) (to' : next ≤ P.tau) (map : Layout) (laid : LayoutOf P map)
    (planted last : List ℕ) (size : length planted ≡ work_length) (first : planted ≡ put work (leaves_at P) (flatten (seeds_in P salt (drop (roots_at P) work) e)))
    (second : last ≡ put planted (leaves_at P) (flatten (seeds_in P salt (drop (roots_at P) planted) next))) where
  kept-first : Kept P work planted
  kept-first = kept_same P work _ _ first (planted_kept P f salt work whole e from to)

  pub kept-beside : Kept P work last
  kept-beside = kept_more P work planted last kept-first (kept_same P planted _ _ second (planted_kept P f salt planted size next from' to'))

  copied_leaves : take (map.room - map.leaves) (drop map.leaves planted) ≡ flatten (seeds_in P salt (drop (roots_at P) work) e)
  copied_leaves = planted_part P f salt work whole e from to map planted laid first

  last-leaves : take (16 * groups P * S P) (drop (leaves_at P) last) ≡ flatten (seeds_in P salt (drop (roots_at P) work) next)
  last-leaves =
      ap (λ (w : List ℕ). take (16 * groups P * S P) (drop (leaves_at P) w)) second
      ∙ planted_leaves P f salt planted size next from' to' (16 * groups P * S P) refl
      ∙ ap (λ (r : List ℕ). flatten (seeds_in P salt r next)) kept-first.roots

  -- both, seen from work before
  pub answered-beside : (hash r : Sponge) (secret packing values more leaves : List ℕ)
      → values ≡ values_in P e secret packing (drop (challenges_at P) work) → more ≡ values_in P next secret packing (drop (challenges_at P) work)
      → leaves ≡ take (map.room - map.leaves) (drop map.leaves planted)
      → ((c : Circuit) → HoldsCircuit P.n P.m c (take (leaves_at P) last)
      → r ≡ absorbed (absorbed hash (answers_in P c e salt values leaves)) (answers_in P c next salt more (take (16 * groups P * S P) (drop (leaves_at P) last))))
      → (c : Circuit) → HoldsCircuit P.n P.m c (take (leaves_at P) work)
      → r ≡ absorbed (absorbed hash (answers_of P c e salt secret packing work)) (answers_of P c next salt secret packing work)
  answered-beside hash r secret packing values more leaves ev em el k c held =
      k c (subst (λ (x : List ℕ). HoldsCircuit P.n P.m c x) (sym kept-beside.circuit) held)
      ∙ ap₂ (λ (v l : List ℕ). absorbed (absorbed hash (answers_in P c e salt v l)) (answers_in P c next salt more (take (16 * groups P * S P) (drop (leaves_at P) last)))) ev (el ∙ copied_leaves)
      ∙ ap₂ (λ (v l : List ℕ). absorbed (absorbed hash (answers_of P c e salt secret packing work)) (answers_in P c next salt v l)) em last-leaves
