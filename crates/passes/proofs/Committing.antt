-- Phase 1, repetition after repetition: what the first hash has absorbed, what the packing holds and what is planted in work; and what this is to a signer that has the secret and the roots. Assumes nothing.
use mathlib.Core.Path.{◌≡◌, refl, sym, ap, ap₂, subst, ◌∙◌}
use mathlib.Core.List.{List, ◌++◌, flatten}
use Prim.Native.Nat.{ℕ, ◌+◌, ◌-◌, ◌*◌, ◌≤◌, ◌<◌}
use native.Mathlib.Nat.{zero-add}
use native.Mathlib.Omega.{arith}
use lib.ListN.{length, take, drop, length-append, length-drop}
use lib.Seq.{length-take-le}
use Rattle.memory.specs.Lists.{put}
use Rattle.memory.specs.Sections.{pieces}
use Rattle.memory.proofs.Parts.{length-lent}
use Rattle.field.specs.Packing.{Elements, Bytes, packed_length}
use Rattle.sponge.specs.declared.Sponge.{Sponge}
use Rattle.sponge.specs.Steps.{absorbed}
use Rattle.sets.specs.Sets.{S}
use Rattle.sets.specs.declared.Params.{Params}
use Rattle.tree.specs.Tree.{children, get_seeds}
use Rattle.parties.specs.Repetition as repetition
use Rattle.parties.proofs.Corrections.{length-delta_s, length-delta_c}
use Rattle.parties.proofs.ShareElements.{delta_s-elements, delta_c-elements}
use Rattle.views.specs.Views.{FirstPhase}
use Rattle.answers.proofs.Absorbing.{Absorbing, absorbing_none, absorbing_more, absorbing_all}
use Rattle.refusals.specs.Refusals.{work_length}
use Rattle.biscuit.specs.Signature.{repeated, vector_count}
use Rattle.biscuit.specs.Sign.{Signer, seeds, coms, delta_s, delta_c, σ₁}
use Rattle.biscuit.specs.Room.{Fits, LayoutOf, groups, leaves_at, roots_at}
use Rattle.biscuit.specs.declared.Layout.{Layout}
use Rattle.biscuit.proofs.Parts.{length-first}
use Rattle.biscuit.proofs.Repeated.{repeated_more, repeated-same, take-elements, append-elements}
use Rattle.biscuit.proofs.Room.{some-groups}
use Rattle.vectors.specs.Elements.{elements_at, elements_put}
use Rattle.passes.specs.Passes.{seeds_in, s_in, y_in, HoldsSecret, HoldsRoots, HoldsCorrections, Kept, first_in, corrections_in, Committed}
use Rattle.passes.proofs.Bounds.{packing_holds, corrections-end}
use Rattle.passes.proofs.Planting.{planted_part, planted_kept, pieces-seeds, count-seeds, Replanted, replanted_none, replanted_roots, replanted_more}
use Rattle.passes.proofs.Placing.{placed_none, placed_more, placed_read}

-- ---- work

pub kept_none : (P : Params) (work : List ℕ) → Kept P work work
kept_none P work = record { circuit = refl; roots = refl }

pub kept_more : (P : Params) (first before after : List ℕ) → Kept P first before → Kept P before after → Kept P first after
kept_more P first before after h k = record { circuit = k.circuit ∙ h.circuit; roots = k.roots ∙ h.roots }

pub roots_kept : (P : Params) (signer : Signer) (before after : List ℕ) → Kept P before after → HoldsRoots P signer (drop (roots_at P) before) → HoldsRoots P signer (drop (roots_at P) after)
roots_kept P signer before after k h = subst (λ (r : List ℕ). HoldsRoots P signer r) (sym k.roots) h

pub kept_same : (P : Params) (work now end : List ℕ) → now ≡ end → Kept P work end → Kept P work now
kept_same P work now end e k = subst (λ (w : List ℕ). Kept P work w) (sym e) k

-- ---- one repetition

-- s and y, as the code lends them
pub part-secret : (P : Params) (secret : List ℕ) → length secret ≡ P.n + P.m + P.m → length (take (P.n - 0) (drop 0 secret)) ≡ P.n
part-secret P secret h = length-first secret P.n (omega arith)

pub part-helper : (P : Params) (secret : List ℕ) → length secret ≡ P.n + P.m + P.m → length (take (P.n + P.m + P.m - (P.n + P.m)) (drop (P.n + P.m) secret)) ≡ P.m
part-helper P secret h =
    length-lent secret (P.n + P.m) (P.n + P.m + P.m) (omega arith) (omega arith)
    ∙ (let z : P.n + P.m + P.m - (P.n + P.m) ≡ P.m = omega arith in z)

s-part : (P : Params) (secret : List ℕ) → take (P.n - 0) (drop 0 secret) ≡ s_in P secret
unfolding s_in
s-part P secret = ap (λ (k : ℕ). take k secret) (let z : P.n - 0 ≡ P.n = omega arith in z)

y-part : (P : Params) (secret : List ℕ) → take (P.n + P.m + P.m - (P.n + P.m)) (drop (P.n + P.m) secret) ≡ y_in P secret
unfolding y_in
y-part P secret = ap (λ (k : ℕ). take k (drop (P.n + P.m) secret)) (let z : P.n + P.m + P.m - (P.n + P.m) ≡ P.m = omega arith in z)

-- hashed and placed
pub committed_turn : (P : Params) (salt : List ℕ) (e : ℕ) (secret leaves : List ℕ) (g : ℕ) (before after : Sponge) (ds dc old new : List ℕ) → g ≡ groups P
    → FirstPhase P salt e (take (P.n - 0) (drop 0 secret)) (take (P.n + P.m + P.m - (P.n + P.m)) (drop (P.n + P.m) secret)) (pieces (S P) (16 * g) leaves) before after ds dc
    → new ≡ elements_put (ds ++ dc) ((e - 1) * (P.n + P.m)) old
    → Committed P e salt secret (pieces (S P) (16 * groups P) leaves) before after old new
unfolding first_in corrections_in
committed_turn P salt e secret leaves g before after ds dc old new eg p q =
    let seeds = pieces (S P) (16 * groups P) leaves in
    let es = s-part P secret in
    let ey = y-part P secret in
    let same : FirstPhase P salt e (s_in P secret) (y_in P secret) seeds before after ds dc =
    subst (λ (x : List ℕ). FirstPhase P salt e x (y_in P secret) seeds before after ds dc) es
    (subst (λ (y : List ℕ). FirstPhase P salt e (take (P.n - 0) (drop 0 secret)) y seeds before after ds dc) ey
    (subst (λ (k : ℕ). FirstPhase P salt e (take (P.n - 0) (drop 0 secret)) (take (P.n + P.m + P.m - (P.n + P.m)) (drop (P.n + P.m) secret)) (pieces (S P) (16 * k) leaves) before after ds dc) eg p)) in
    record {
      hashed = same.hashed;
      placed = q ∙ ap₂ (λ (a b : List ℕ). elements_put (a ++ b) ((e - 1) * (P.n + P.m)) old) same.secret same.helper;
    }

-- the leaves that were planted are the seeds
module _ (P : Params) (f : Fits P) (salt : List ℕ) (work : List ℕ) (size : length work ≡ work_length) (e : ℕ) (from : 1 ≤ e) (to : e ≤ P.tau) where
  pub committed_seeds : (map : Layout) (now : List ℕ) → LayoutOf P map → now ≡ put work (leaves_at P) (flatten (seeds_in P salt (drop (roots_at P) work) e))
      → (secret : List ℕ) (before after : Sponge) (old new : List ℕ)
      → Committed P e salt secret (pieces (S P) (16 * groups P) (take (map.room - map.leaves) (drop map.leaves now))) before after old new
      → Committed P e salt secret (seeds_in P salt (drop (roots_at P) work) e) before after old new
  committed_seeds map now l h secret before after old new c =
      subst (λ (s : List (List ℕ)). Committed P e salt secret s before after old new)
      (ap (pieces (S P) (16 * groups P)) (planted_part P f salt work size e from to map now l h) ∙ pieces-seeds P f salt work size e from to) c

-- ---- a repetition of the signer

module _ (P : Params) (signer : Signer) (salt secret roots : List ℕ) (held : HoldsSecret P signer salt secret) (rooted : HoldsRoots P signer roots) (e : ℕ) (from : 1 ≤ e) (to : e ≤ P.tau) where
  pub seeds_in_lem : seeds P signer e ≡ seeds_in P salt roots e
  unfolding seeds seeds_in HoldsRoots
  seeds_in_lem = ap₂ (λ (x r : List ℕ). get_seeds (children (S P) x e) P.l r) held.salted (rooted e from to)

  coms_in : coms P signer e ≡ repetition.coms P salt e (seeds_in P salt roots e)
  unfolding coms
  coms_in = ap₂ (λ (x : List ℕ) (l : List (List ℕ)). repetition.coms P x e l) held.salted seeds_in_lem

  pub delta_s_in : delta_s P signer e ≡ repetition.delta_s P salt e (s_in P secret) (seeds_in P salt roots e)
  unfolding delta_s
  delta_s_in =
      ap (λ (x : List ℕ). repetition.delta_s P signer.salt e x (seeds P signer e)) held.s
      ∙ ap₂ (λ (x : List ℕ) (l : List (List ℕ)). repetition.delta_s P x e (s_in P secret) l) held.salted seeds_in_lem

  pub delta_c_in : delta_c P signer e ≡ repetition.delta_c P salt e (y_in P secret) (seeds_in P salt roots e)
  unfolding delta_c
  delta_c_in =
      ap (λ (x : List ℕ). repetition.delta_c P signer.salt e x (seeds P signer e)) held.y
      ∙ ap₂ (λ (x : List ℕ) (l : List (List ℕ)). repetition.delta_c P x e (y_in P secret) l) held.salted seeds_in_lem

  first_in_lem : repetition.first (coms P signer e) (delta_s P signer e) (delta_c P signer e) ≡ first_in P salt secret e (seeds_in P salt roots e)
  unfolding first_in
  first_in_lem =
      ap (λ (l : List (List ℕ)). repetition.first l (delta_s P signer e) (delta_c P signer e)) coms_in
      ∙ ap₂ (λ (x y : List ℕ). repetition.first (repetition.coms P salt e (seeds_in P salt roots e)) x y) delta_s_in delta_c_in

  corrections_in_lem : delta_s P signer e ++ delta_c P signer e ≡ corrections_in P salt secret e (seeds_in P salt roots e)
  unfolding corrections_in
  corrections_in_lem = ap₂ (λ (x y : List ℕ). x ++ y) delta_s_in delta_c_in

-- ---- the corrections of a repetition

corrections_in-elements : (P : Params) (salt secret : List ℕ) (e : ℕ) (seeds : List (List ℕ)) → Elements secret → Elements (corrections_in P salt secret e seeds)
unfolding corrections_in s_in
corrections_in-elements P salt secret e seeds small =
    append-elements (repetition.delta_s P salt e (take P.n secret) seeds) (repetition.delta_c P salt e (y_in P secret) seeds)
    (delta_s-elements P salt e (take P.n secret) seeds (take-elements P.n secret small)) (delta_c-elements P salt e (y_in P secret) seeds)

module _ (P : Params) (f : Fits P) (salt secret work : List ℕ) (whole : length secret ≡ P.n + P.m + P.m) (size : length work ≡ work_length) (e : ℕ) (from : 1 ≤ e) (to : e ≤ P.tau) where
  length-corrections_in : length (corrections_in P salt secret e (seeds_in P salt (drop (roots_at P) work) e)) ≡ P.n + P.m
  unfolding corrections_in s_in y_in
  length-corrections_in =
      let seeds = seeds_in P salt (drop (roots_at P) work) e in
      let n = count-seeds P f salt work size e from to in
      let g = some-groups P in
      let a = length-delta_s P salt e (take P.n secret) seeds (length-take-le P.n secret (omega arith)) in
      let b = length-delta_c P salt e (take P.m (drop (P.n + P.m) secret)) seeds (omega arith) (length-take-le P.m (drop (P.n + P.m) secret) (simp length-drop (omega arith))) in
      let c = length-append (repetition.delta_s P salt e (take P.n secret) seeds) (repetition.delta_c P salt e (take P.m (drop (P.n + P.m) secret)) seeds) in
      omega arith

-- ---- the loop

-- what `count` repetitions have done
pub record Committing (P : Params) (salt secret first : List ℕ) (count : ℕ) (before after : Sponge) (old packing work : List ℕ) : Type 0 where
  pub absorbing : Absorbing before after (repeated count (λ e. first_in P salt secret e (seeds_in P salt (drop (roots_at P) first) e))) count
  pub corrections : packing ≡ elements_put (repeated count (λ e. corrections_in P salt secret e (seeds_in P salt (drop (roots_at P) first) e))) 0 old
  pub planted : Replanted P salt first count work

pub committing_none : (P : Params) (salt secret work : List ℕ) (s : Sponge) (packing : List ℕ) → Bytes packing → Committing P salt secret work 0 s s packing packing work
unfolding repeated
committing_none P salt secret work s packing bytes = record { absorbing = absorbing_none s; corrections = placed_none 0 (λ e. corrections_in P salt secret e (seeds_in P salt (drop (roots_at P) work) e)) packing bytes; planted = replanted_none P salt work }

-- one repetition more, in what is absorbed
pub absorbing_repetition : (count : ℕ) (f : ℕ → List ℕ) (s r r' : Sponge) → Absorbing s r (repeated count f) count → r' ≡ absorbed r (f (count + 1)) → Absorbing s r' (repeated (count + 1) f) (count + 1)
absorbing_repetition count f s r r' h e =
    subst (λ (x : List ℕ). Absorbing s r' x (count + 1))
    (repeated_more count f)
    (absorbing_more s r r' (repeated count f) (f (count + 1)) count h e)

module _ (P : Params) (f : Fits P) (salt secret first : List ℕ) (whole : length secret ≡ P.n + P.m + P.m) (size : length first ≡ work_length) where
  pub committing_more : (count : ℕ) (s r r' : Sponge) (old packing packing' work work' : List ℕ) → length old ≡ packed_length (vector_count P) → count < P.tau
      → Committing P salt secret first count s r old packing work → Committed P (count + 1) salt secret (seeds_in P salt (drop (roots_at P) work) (count + 1)) r r' packing packing'
      → work' ≡ put work (leaves_at P) (flatten (seeds_in P salt (drop (roots_at P) work) (count + 1))) → Committing P salt secret first (count + 1) s r' old packing' work'
  committing_more count s r r' old packing packing' work work' room less done turn leaves =
      let roots = drop (roots_at P) first in
      let same = replanted_roots P salt first count work done.planted in
      let step = subst (λ (x : List ℕ). Committed P (count + 1) salt secret (seeds_in P salt x (count + 1)) r r' packing packing') same turn in
      record {
        absorbing = absorbing_repetition count (λ e. first_in P salt secret e (seeds_in P salt roots e)) s r r' done.absorbing step.hashed;
        corrections =
            placed_more 0 (P.n + P.m) count ((count + 1 - 1) * (P.n + P.m)) (λ e. corrections_in P salt secret e (seeds_in P salt roots e)) old packing packing'
            (λ e a b. length-corrections_in P f salt secret first whole size e a (omega arith))
            (ap (λ (i : ℕ). i * (P.n + P.m)) (let z : count + 1 - 1 ≡ count = omega arith in z) ∙ sym (zero-add (count * (P.n + P.m))))
            (let e = corrections-end P (count + 1) (omega arith) (omega arith) in
            let z = ap (λ (i : ℕ). i * (P.n + P.m)) (let z : count + 1 - 1 ≡ count = omega arith in z) in
            omega arith)
            done.corrections step.placed;
        planted = replanted_more P f salt first size count less work work' done.planted leaves;
      }

-- all of them
pub committed_all : (P : Params) (salt secret first : List ℕ) (count : ℕ) (s r : Sponge) (old packing work : List ℕ) → count ≡ P.tau → 1 ≤ P.tau
    → Committing P salt secret first count s r old packing work → r ≡ absorbed s (repeated P.tau (λ e. first_in P salt secret e (seeds_in P salt (drop (roots_at P) first) e)))
committed_all P salt secret first count s r old packing work e some h =
    absorbing_all s r (repeated count (λ e. first_in P salt secret e (seeds_in P salt (drop (roots_at P) first) e))) count (omega arith) h.absorbing
    ∙ ap (λ (n : ℕ). absorbed s (repeated n (λ e. first_in P salt secret e (seeds_in P salt (drop (roots_at P) first) e)))) e

pub corrections_all : (P : Params) (salt secret first : List ℕ) (count : ℕ) (s r : Sponge) (old packing work : List ℕ) → count ≡ P.tau
    → Committing P salt secret first count s r old packing work → packing ≡ elements_put (repeated P.tau (λ e. corrections_in P salt secret e (seeds_in P salt (drop (roots_at P) first) e))) 0 old
corrections_all P salt secret first count s r old packing work e h =
    h.corrections ∙ ap (λ (n : ℕ). elements_put (repeated n (λ e. corrections_in P salt secret e (seeds_in P salt (drop (roots_at P) first) e))) 0 old) e

pub planted_all : (P : Params) (salt secret first : List ℕ) (count : ℕ) (s r : Sponge) (old packing work : List ℕ) → count ≡ P.tau → 1 ≤ P.tau
    → Committing P salt secret first count s r old packing work → work ≡ put first (leaves_at P) (flatten (seeds_in P salt (drop (roots_at P) first) P.tau))
planted_all P salt secret first count s r old packing work e some h =
    h.planted.leaves (omega arith) ∙ ap (λ (n : ℕ). put first (leaves_at P) (flatten (seeds_in P salt (drop (roots_at P) first) n))) e

-- ---- what the promise is to a signer that has the secret and the roots

pub absorbed-signed : (P : Params) (salt secret roots : List ℕ) (s r : Sponge) → r ≡ absorbed s (repeated P.tau (λ e. first_in P salt secret e (seeds_in P salt roots e)))
    → (signer : Signer) → HoldsSecret P signer salt secret → HoldsRoots P signer roots → r ≡ absorbed s (σ₁ P signer)
unfolding σ₁
absorbed-signed P salt secret roots s r h signer held rooted =
    h
    ∙ ap (absorbed s) (sym (repeated-same P.tau (λ e. repetition.first (coms P signer e) (delta_s P signer e) (delta_c P signer e)) (λ e. first_in P salt secret e (seeds_in P salt roots e))
    (λ e a b. first_in_lem P signer salt secret roots held rooted e a b)))

pub corrections-signed : (P : Params) → Fits P → (salt secret work old packing : List ℕ) → length secret ≡ P.n + P.m + P.m → Elements secret → length work ≡ work_length
    → length old ≡ packed_length (vector_count P) → packing ≡ elements_put (repeated P.tau (λ e. corrections_in P salt secret e (seeds_in P salt (drop (roots_at P) work) e))) 0 old
    → (signer : Signer) → HoldsSecret P signer salt secret → HoldsRoots P signer (drop (roots_at P) work) → HoldsCorrections P signer P.tau packing
unfolding HoldsCorrections
corrections-signed P f salt secret work old packing whole small size room h signer held rooted e from to =
    ap₂ (λ (b : List ℕ) (k : ℕ). elements_at b k (P.n + P.m)) h (sym (zero-add ((e - 1) * (P.n + P.m))))
    ∙ placed_read 0 (P.n + P.m) P.tau (λ e. corrections_in P salt secret e (seeds_in P salt (drop (roots_at P) work) e)) old
    (λ i a b. length-corrections_in P f salt secret work whole size i a b) (λ i a b. corrections_in-elements P salt secret i (seeds_in P salt (drop (roots_at P) work) i) small)
    (let b = packing_holds P in omega arith) e from to
    ∙ sym (corrections_in_lem P signer salt secret (drop (roots_at P) work) held rooted e from to)

pub kept_planted : (P : Params) → Fits P → (salt work now : List ℕ) → length work ≡ work_length → now ≡ put work (leaves_at P) (flatten (seeds_in P salt (drop (roots_at P) work) P.tau)) → Kept P work now
kept_planted P f salt work now size h = kept_same P work now _ h (planted_kept P f salt work size P.tau f.«repeated» (omega arith))
