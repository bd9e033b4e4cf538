-- `verifying::expand` meets its contract: the circuit at the start of work, the challenges at its end, and the hidden parties.
-- Assumes nothing.
use mathlib.Core.Path.{refl, ◌∙◌}
use Prim.Native.Nat.{ℕ, ◌/◌}
use lib.ListN.{length-take}
use native.Mathlib.Omega.{arith}
use Rattle.sets.specs.Sets.{S}
use Rattle.biscuit.proofs.Room.{mapped}
use Rattle.turns.proofs.Sizes.{head_fits, seed_fits}
use Rattle.verifying.proofs.Expanding.{first-length, second-length, circuit_there, challenges_there, holds_circuit, holds_challenge, holds_hidden}
use Rattle.verifying.proofs.expand.Goals as goal

pub slice_bounds-tape_bytes-end : goal.slice_bounds-tape_bytes-end
unfolding S
slice_bounds-tape_bytes-end c = let h = seed_fits c.args.p c.requires.0 in omega (arith, length-take {A = ℕ})

pub slice_bounds-tape_bytes-end-3 : goal.slice_bounds-tape_bytes-end-3
slice_bounds-tape_bytes-end-3 c = let m = mapped c.args.p in omega (arith, length-take {A = ℕ})

pub slice_bounds-tape_bytes-end-4 : goal.slice_bounds-tape_bytes-end-4
unfolding S
slice_bounds-tape_bytes-end-4 c = let h = head_fits c.args.p c.requires.0 in omega arith

pub slice_bounds-tape_bytes-end-6 : goal.slice_bounds-tape_bytes-end-6
unfolding S
slice_bounds-tape_bytes-end-6 c = let h = head_fits c.args.p c.requires.0 in omega arith

pub returns : goal.returns
unfolding S
returns c =
    let p = c.args.p in
    let w = c.args.work.now in
    let l = c.layout_of-layout.ensures in
    let one = c.tape_bytes in
    let two = c.tape_bytes-2 in
    let e = first-length p w c.requires.4 _ _ _ l.leaves l.challenges l.end in
    let g = second-length p w c.requires.4 _ _ _ l.leaves l.challenges l.end one.new.out one.auto.out in
    let z = two.auto.out ∙ g in
    record {
      circuit = holds_circuit p c.requires.0 c.args.pk.now c.args.signature.now (p.bits / 8) refl _ one.new.out _
          (circuit_there p w c.requires.4 _ _ _ l.leaves l.challenges l.end one.new.out one.auto.out two.new.out _ z refl) one.ensures e;
      challenge = holds_challenge p c.requires.0 c.args.pk.now c.args.signature.now (p.bits / 8) refl _ two.new.out _
          (challenges_there p w c.requires.4 _ _ _ l.leaves l.challenges l.end one.new.out one.auto.out two.new.out _ z refl) two.ensures g;
      hidden = holds_hidden p c.requires.0 c.args.pk.now c.args.signature.now (p.bits / 8) refl _ _ c.tape_bytes-3.ensures c.requires.3;
    }
