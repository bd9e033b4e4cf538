-- `turns::second::absorb_two` meets its contract: circuit and leaves are lent as they lie, and the answers of both repetitions are absorbed, one after the other.
-- Assumes nothing.
use mathlib.Core.Path.{refl, sym, ap, ap₂, ◌∙◌}
use mathlib.Core.List.{List}
use Prim.Native.Nat.{ℕ, ◌+◌, ◌*◌}
use native.Mathlib.Omega.{arith}
use lib.ListN.{length, take, length-take}
use lib.Seq.{length-take-le}
use Rattle.sponge.specs.Steps.{absorbed}
use Rattle.biscuit.specs.Verify.{f}
use Rattle.biscuit.specs.Room.{leaves_at}
use Rattle.biscuit.proofs.Room.{mapped}
use Rattle.sets.specs.declared.Params.{Params}
use Rattle.turns.specs.declared.claim.Claim.{Claim}
use Rattle.turns.specs.Turns.{key_of}
use Rattle.turns.proofs.Sizes.{length_leaves_part}
use Rattle.turns.proofs.Reading.{length_values, values-elements}
use Rattle.turns.proofs.Turning.{length_of_leaves}
use Rattle.turns.proofs.Opening.{answered_by}
use Rattle.reps.proofs.Laws.{rep_sized, rep_one}
use Rattle.turns.proofs.Answering.{rep_variables, rep_equations, rep_values, rep_circuit, rep_leaves, rep_holds}
use Rattle.turns.proofs.second.absorb_two.Goals as goal

pub slice_bounds-two_repetitions-end : goal.slice_bounds-two_repetitions-end
slice_bounds-two_repetitions-end c = let m = mapped c.args.one.repetition.claim.p in omega (arith, length-take {A = ℕ})

pub two_repetitions-requires : goal.two_repetitions-requires
two_repetitions-requires c =
    let one = c.args.one in
    let two = c.args.two in
    let p = one.repetition.claim.p in
    let fit = one.repetition.claim.fits in
    let l = c.layout_of-layout.ensures in
    let r = c.rep_of-rep.ensures in
    let n = c.rep_of-next.ensures in
    let same = ap (λ (c : Claim). c.p) c.requires.0 in
    let all = mapped p in
    let behind = ap (λ (q : Params). q.n + 4 * q.m) same in (
      rep_sized p fit _ _ _ r,
      rep_sized p fit _ _ _ n,
      rep_one p fit _ _ _ r c.requires.1,
      rep_one p fit _ _ _ n c.requires.1,
      sym (rep_variables p fit _ _ _ n) ∙ rep_variables p fit _ _ _ r,
      sym (rep_equations p fit _ _ _ n) ∙ rep_equations p fit _ _ _ r,
      c.salt.ensures.short,
      rep_values p fit _ _ _ r one.values.now (length_values one.repetition one.values.now one.holds),
      values-elements one.repetition one.values.now one.holds,
      rep_values p fit _ _ _ n two.values.now (length_values two.repetition two.values.now two.holds ∙ behind),
      values-elements two.repetition two.values.now two.holds,
      ap (λ (n : ℕ). length (take n c.args.work.now)) l.leaves ∙ length-take-le (leaves_at p) c.args.work.now (let e = c.requires.2 in omega arith) ∙ sym (rep_circuit p fit _ _ _ r),
      ap length c.requires.4 ∙ length_of_leaves one.repetition ∙ sym (rep_leaves p fit _ _ _ r),
      ap length c.leaves_in.ensures ∙ length_leaves_part p c.args.work.now c.requires.2 ∙ sym (rep_leaves p fit _ _ _ n),
    )

pub returns : goal.returns
returns c =
    let one = c.args.one in
    let two = c.args.two in
    let claim = one.repetition.claim in
    let p = claim.p in
    let fit = claim.fits in
    let l = c.layout_of-layout.ensures in
    let r = c.rep_of-rep.ensures in
    let n = c.rep_of-next.ensures in
    c.two_repetitions.ensures p (f p (key_of claim)) (rep_variables p fit _ _ _ r) (rep_equations p fit _ _ _ r)
    (rep_holds p fit _ _ _ r (f p (key_of claim)) _ _ (ap (λ (n : ℕ). take n c.args.work.now) l.leaves) c.requires.3)
    ∙ ap₂ (λ (a b : List ℕ). absorbed (absorbed c.args.hash a) b)
    (answered_by one claim refl _ _ _ r c.salt.ensures.is c.requires.4)
    (answered_by two claim c.requires.0 _ _ _ n c.salt.ensures.is (c.leaves_in.ensures ∙ c.requires.5))
