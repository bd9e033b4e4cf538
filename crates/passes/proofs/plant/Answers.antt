-- `passes::plant` meets its contract: the root lies behind the leaves, which go between circuit and room. Assumes nothing.
use mathlib.Core.Path.{refl, sym, ap, ◌∙◌}
use native.Mathlib.Omega.{arith}
use Prim.Native.Nat.{ℕ, ◌*◌, ◌^◌}
use lib.ListN.{length-take, length-drop}
use Rattle.sets.specs.Sets.{S, N}
use Rattle.refusals.proofs.Refusals.{work_length_is}
use Rattle.passes.proofs.Bounds.{inside, root-end}
use Rattle.passes.proofs.Planting.{planted, leaves-part}
use Rattle.passes.proofs.plant.Goals as goal

pub overflow_mul-at : goal.overflow_mul-at
unfolding S
overflow_mul-at c = let h = c.requires in let r = root-end c.args.p c.args.of.e _ _ h.0 h.1 h.2 refl c.layout_of-map.ensures.roots in let w = work_length_is in omega arith

pub split_at_mut-front-requires : goal.split_at_mut-front-requires
split_at_mut-front-requires c = let i = inside _ _ c.requires.0 c.layout_of-map.ensures in omega arith

pub overflow_add-at : goal.overflow_add-at
unfolding S
overflow_add-at c = let h = c.requires in let r = root-end c.args.p c.args.of.e _ _ h.0 h.1 h.2 refl c.layout_of-map.ensures.roots in let w = work_length_is in omega arith

pub slice_bounds-leaves-end : goal.slice_bounds-leaves-end
unfolding S
slice_bounds-leaves-end c =
    let h = c.requires in
    let r = root-end c.args.p c.args.of.e _ _ h.0 h.1 h.2 refl c.layout_of-map.ensures.roots in
    let b = c.split_at_mut-front.ensures.back_len in
    omega arith

pub slice_bounds-room-count : goal.slice_bounds-room-count
slice_bounds-room-count c = (inside _ _ c.requires.0 c.layout_of-map.ensures).leaves

pub slice_bounds-room-start : goal.slice_bounds-room-start
slice_bounds-room-start c = (inside _ _ c.requires.0 c.layout_of-map.ensures).leaves

pub slice_bounds-room-end : goal.slice_bounds-room-end
slice_bounds-room-end c = let i = inside _ _ c.requires.0 c.layout_of-map.ensures in let f = c.split_at_mut-front.ensures.front_len in omega arith

pub leaves-requires : goal.leaves-requires
unfolding S N
leaves-requires c =
    let p = c.args.p in
    let h = c.requires in
    let fits = h.0 in
    let seed = fits.seed in
    let f = c.split_at_mut-front.ensures in
    let l = c.layout_of-map.ensures in
    let i = inside _ _ fits l in
    let r = root-end p c.args.of.e _ _ fits h.1 h.2 refl l.roots in
    let k = f.back_len in
    (omega (arith, length-take {A = ℕ}, length-drop {A = ℕ}), fits.levels, leaves-part _ _ _ l (let q = f.front_len in omega (arith, l.room)) ∙ ap (λ n. n * S p) (sym fits.parties) ∙ ap (λ n. 2 ^ p.l * n) (omega (arith, length-take {A = ℕ}, length-drop {A = ℕ})))

pub returns : goal.returns
unfolding S
returns c =
    let h = c.requires in
    let f = c.split_at_mut-front.ensures in
    planted c.args.p h.0 c.args.of.salt.now c.args.work.now h.4 c.args.of.e h.1 h.2 c.layout_of-map.result _ _ _ _ c.layout_of-map.ensures refl f.front f.back c.leaves.ensures
