-- The leaves of a repetition, put between circuit and room: they are cut into the seeds of the parties again, and nothing else of work has changed, repetition after repetition. Assumes nothing.
use mathlib.Core.Path.{◌≡◌, refl, sym, ap, ap₂, ◌∙◌}
use mathlib.Core.List.{List, [], ◌++◌, flatten, append-nil, append_assoc}
use Prim.Native.Nat.{ℕ, ◌+◌, ◌-◌, ◌*◌, ◌≤◌, ◌<◌}
use native.Mathlib.Omega.{arith}
use lib.ListN.{length, take, drop, length-drop}
use lib.Seq.{drop-drop, take-take, length-take-le}
use Rattle.std.proofs.lemmas.List.{take-append-drop, drop-append-le}
use Rattle.memory.specs.Lists.{put}
use Rattle.memory.specs.Sections.{pieces}
use Rattle.memory.proofs.Parts.{take_put, mid_put, lent-put, length-lent}
use Rattle.memory.proofs.Sections.{Each, pieces-flatten}
use Rattle.sets.specs.Sets.{S, N}
use Rattle.sets.specs.declared.Params.{Params}
use Rattle.tree.specs.Tree.{children, get_seeds}
use Rattle.tree.proofs.Laying.{each_get_seeds, length-leaves}
use Rattle.tree.proofs.Theorems.{length-get_seeds}
use Rattle.refusals.specs.Refusals.{work_length}
use Rattle.biscuit.specs.Room.{Fits, LayoutOf, groups, leaves_at, room_at, roots_at, root_in}
use Rattle.biscuit.specs.declared.Layout.{Layout}
use Rattle.biscuit.proofs.Parts.{drop-behind-put}
use Rattle.biscuit.proofs.Room.{mapped, length-root_in}
use Rattle.passes.specs.Passes.{seeds_in, Kept}

-- a part put into lists that agree before and behind it
put-around : (x y : List ℕ) (at : ℕ) (new : List ℕ) → take at x ≡ take at y → drop (at + length new) x ≡ drop (at + length new) y → put x at new ≡ put y at new
unfolding put
put-around x y at new h k = ap₂ (λ (u v : List ℕ). u ++ (new ++ v)) h k

-- the leaves' part, as the code lends it
pub leaves-part : (P : Params) (x : List ℕ) (map : Layout) → LayoutOf P map → room_at P ≤ length x → length (take (map.room - map.leaves) (drop map.leaves x)) ≡ 16 * groups P * S P
leaves-part P x map l h =
    let m = mapped P in
    length-lent x map.leaves map.room (omega (arith, l.leaves, l.room)) (omega (arith, l.room))
    ∙ (let z : map.room - map.leaves ≡ 16 * groups P * S P = omega (arith, l.leaves, l.room) in z)

pub leaves-lent : (P : Params) → Fits P → (work : List ℕ) → length work ≡ work_length → (map : Layout) → LayoutOf P map
    → length (take (map.room - map.leaves) (drop map.leaves work)) ≡ 16 * groups P * S P
leaves-lent P f work size map l = leaves-part P work map l (let m = mapped P in let enough = f.enough in omega arith)

-- the root of a repetition, in work
pub root-part : (P : Params) (work : List ℕ) (e : ℕ) → root_in (S P) (drop (roots_at P) work) e ≡ take (S P) (drop (roots_at P + (e - 1) * S P) work)
unfolding root_in
root-part P work e = ap (take (S P)) (drop-drop ((e - 1) * S P) (roots_at P) work)

-- and among the roots, as the code lends it
root-lent : (P : Params) (e s : ℕ) (roots : List ℕ) → s ≡ S P → take ((e - 1) * s + s - (e - 1) * s) (drop ((e - 1) * s) roots) ≡ root_in (S P) roots e
unfolding root_in
root-lent P e s roots h =
    ap (λ (n : ℕ). take n (drop ((e - 1) * s) roots)) (let z : (e - 1) * s + s - (e - 1) * s ≡ s = omega arith in z)
    ∙ ap (λ (n : ℕ). take n (drop ((e - 1) * n) roots)) h

module _ (P : Params) (f : Fits P) (salt : List ℕ) (work : List ℕ) (size : length work ≡ work_length) (e : ℕ) (from : 1 ≤ e) (to : e ≤ P.tau) where
  root_size : length (root_in (S P) (drop (roots_at P) work) e) ≡ S P
  root_size = length-root_in (S P) (drop (roots_at P) work) e P.tau from to (let m = mapped P in let enough = f.enough in simp length-drop (omega arith))

  pub each_seed : Each (S P) (seeds_in P salt (drop (roots_at P) work) e)
  unfolding seeds_in
  each_seed = each_get_seeds (S P) salt e P.l _ root_size

  pub count-seeds : length (seeds_in P salt (drop (roots_at P) work) e) ≡ 16 * groups P
  unfolding seeds_in N
  count-seeds = length-get_seeds (children (S P) salt e) P.l (root_in (S P) (drop (roots_at P) work) e) ∙ f.parties

  pub length_planted : length (flatten (seeds_in P salt (drop (roots_at P) work) e)) ≡ 16 * groups P * S P
  unfolding seeds_in N
  length_planted = length-leaves (S P) salt e P.l _ root_size ∙ ap (λ (n : ℕ). n * S P) f.parties

  planted_fits : leaves_at P + length (flatten (seeds_in P salt (drop (roots_at P) work) e)) ≤ length work
  planted_fits = let m = mapped P in let enough = f.enough in let l = length_planted in omega arith

  -- circuit, roots and challenges stay
  pub planted_kept : Kept P work (put work (leaves_at P) (flatten (seeds_in P salt (drop (roots_at P) work) e)))
  planted_kept =
      let leaves = flatten (seeds_in P salt (drop (roots_at P) work) e) in
      let m = mapped P in
      let l = length_planted in
      record {
        circuit = take_put work (leaves_at P) leaves planted_fits;
        roots = drop-behind-put work (leaves_at P) leaves (roots_at P) planted_fits (omega arith);
      }

  -- the leaves are the seeds
  pub planted_leaves : (n : ℕ) → n ≡ 16 * groups P * S P
      → take n (drop (leaves_at P) (put work (leaves_at P) (flatten (seeds_in P salt (drop (roots_at P) work) e)))) ≡ flatten (seeds_in P salt (drop (roots_at P) work) e)
  planted_leaves n h =
      ap (λ (k : ℕ). take k (drop (leaves_at P) (put work (leaves_at P) (flatten (seeds_in P salt (drop (roots_at P) work) e))))) (h ∙ sym length_planted)
      ∙ mid_put work (leaves_at P) (flatten (seeds_in P salt (drop (roots_at P) work) e)) planted_fits

  pub pieces-seeds : pieces (S P) (16 * groups P) (flatten (seeds_in P salt (drop (roots_at P) work) e)) ≡ seeds_in P salt (drop (roots_at P) work) e
  pieces-seeds =
      ap₂ (λ (n : ℕ) (x : List ℕ). pieces (S P) n x) (sym count-seeds) (sym (append-nil (flatten (seeds_in P salt (drop (roots_at P) work) e))))
      ∙ pieces-flatten each_seed []

  -- as the code lends them
  pub planted_part : (map : Layout) (now : List ℕ) → LayoutOf P map → now ≡ put work (leaves_at P) (flatten (seeds_in P salt (drop (roots_at P) work) e))
      → take (map.room - map.leaves) (drop map.leaves now) ≡ flatten (seeds_in P salt (drop (roots_at P) work) e)
  planted_part map now l h =
      let m = mapped P in let enough = f.enough in
      ap₂ (λ (a : ℕ) (x : List ℕ). take (map.room - map.leaves) (drop a x)) l.leaves h
      ∙ planted_leaves (map.room - map.leaves) (let a = l.leaves in let b = l.room in omega arith)

  -- the leaves of the root, written in front of the roots
  pub planted : (map : Layout) (s : ℕ) (front roots last : List ℕ) → LayoutOf P map → s ≡ S P → front ≡ take map.roots work → roots ≡ drop map.roots work
      → (let root = take ((e - 1) * s + s - (e - 1) * s) (drop ((e - 1) * s) roots) in last ≡ flatten (get_seeds (children (length root) salt e) P.l root))
      → (take map.leaves front ++ (last ++ drop (map.room - map.leaves) (drop map.leaves front))) ++ roots ≡ put work (leaves_at P) (flatten (seeds_in P salt (drop (roots_at P) work) e))
  unfolding seeds_in
  planted map s front roots last l es ef er el =
      append_assoc (take a front) (last ++ drop n (drop a front)) roots
      ∙ ap (λ (x : List ℕ). take a front ++ x) (append_assoc last (drop n (drop a front)) roots)
      ∙ ap₂ (λ (x y : List ℕ). x ++ (last ++ y)) before behind
      ∙ lent-put work a map.room last (ap length whole ∙ length_planted ∙ (let m = mapped P in let z : 16 * groups P * S P ≡ n = omega (arith, l.leaves, l.room) in z))
      ∙ ap₂ (put work) l.leaves whole
    where
      a : ℕ
      a = map.leaves

      n : ℕ
      n = map.room - map.leaves

      inside : map.roots ≤ length work
      inside = let m = mapped P in let enough = f.enough in omega (arith, l.roots)

      before : take a front ≡ take a work
      before = ap (take a) ef ∙ take-take a map.roots work (let m = mapped P in omega (arith, l.leaves, l.roots))

      behind : drop n (drop a front) ++ roots ≡ drop n (drop a work)
      behind =
          ap₂ (λ (x y : List ℕ). x ++ y) (drop-drop n a front ∙ ap (drop (a + n)) ef) er
          ∙ sym (drop-append-le (a + n) (take map.roots work) (drop map.roots work) (let t = length-take-le map.roots work inside in let m = mapped P in omega (arith, l.leaves, l.room, l.roots)))
          ∙ ap (drop (a + n)) (take-append-drop map.roots work)
          ∙ sym (drop-drop n a work)

      part : take ((e - 1) * s + s - (e - 1) * s) (drop ((e - 1) * s) roots) ≡ root_in (S P) (drop (roots_at P) work) e
      part = root-lent P e s roots es ∙ ap (λ (x : List ℕ). root_in (S P) x e) (er ∙ ap (λ (k : ℕ). drop k work) l.roots)

      whole : last ≡ flatten (get_seeds (children (S P) salt e) P.l (root_in (S P) (drop (roots_at P) work) e))
      whole = el ∙ ap₂ (λ (k : ℕ) (x : List ℕ). flatten (get_seeds (children k salt e) P.l x)) (ap length part ∙ root_size) part

-- ---- repetitions planted one over the other

-- what `count` of them leave in work: all around leaves and room stays, and after the first the leaves are those of the last
pub record Replanted (P : Params) (salt first : List ℕ) (count : ℕ) (work : List ℕ) : Type 0 where
  pub circuit : take (leaves_at P) work ≡ take (leaves_at P) first
  pub behind : drop (room_at P) work ≡ drop (room_at P) first
  pub leaves : 0 < count → work ≡ put first (leaves_at P) (flatten (seeds_in P salt (drop (roots_at P) first) count))

pub replanted_none : (P : Params) (salt work : List ℕ) → Replanted P salt work 0 work
replanted_none P salt work = record { circuit = refl; behind = refl; leaves = λ h. absurd (omega arith) }

pub replanted_roots : (P : Params) (salt first : List ℕ) (count : ℕ) (work : List ℕ) → Replanted P salt first count work → drop (roots_at P) work ≡ drop (roots_at P) first
unfolding roots_at
replanted_roots P salt first count work h =
    let n = groups P * (16 * P.m) in
    sym (drop-drop n (room_at P) work) ∙ ap (drop n) h.behind ∙ drop-drop n (room_at P) first

pub replanted_more : (P : Params) → Fits P → (salt first : List ℕ) → length first ≡ work_length → (count : ℕ) → count < P.tau → (before after : List ℕ)
    → Replanted P salt first count before → after ≡ put before (leaves_at P) (flatten (seeds_in P salt (drop (roots_at P) before) (count + 1))) → Replanted P salt first (count + 1) after
replanted_more P f salt first size count less before after done turn = record {
  circuit = ap (take (leaves_at P)) whole ∙ take_put first (leaves_at P) new fits;
  behind = ap (drop (room_at P)) whole ∙ drop-behind-put first (leaves_at P) new (room_at P) fits (let e = end in omega arith);
  leaves = λ h. whole;
}
  where
    new : List ℕ
    new = flatten (seeds_in P salt (drop (roots_at P) first) (count + 1))

    end : leaves_at P + length new ≡ room_at P
    end = let m = (mapped P).leaves in let l = length_planted P f salt first size (count + 1) (omega arith) (omega arith) in omega arith

    fits : leaves_at P + length new ≤ length first
    fits = planted_fits P f salt first size (count + 1) (omega arith) (omega arith)

    whole : after ≡ put first (leaves_at P) new
    whole =
        turn
        ∙ ap (λ (r : List ℕ). put before (leaves_at P) (flatten (seeds_in P salt r (count + 1)))) (replanted_roots P salt first count before done)
        ∙ put-around before first (leaves_at P) new done.circuit
        (ap (λ (k : ℕ). drop k before) end ∙ done.behind ∙ ap (λ (k : ℕ). drop k first) (sym end))
