-- `views::repetition_first` meets its contract: nobody is left out, and the corrections by the lengths of s and y are those of the parameters.
-- Assumes nothing.
use mathlib.Core.Path.{ap, ap₂, ◌∙◌}
use mathlib.Core.List.{List, ◌++◌}
use Prim.Native.Nat.{ℕ, ◌<◌}
use native.Mathlib.Omega.{arith}
use lib.ListN.{length}
use Rattle.memory.specs.Sections.{pieces}
use Rattle.memory.proofs.Sections.{length-pieces}
use Rattle.field.specs.Packing.{pack}
use Rattle.sponge.specs.Steps.{absorbed}
use Rattle.sets.specs.Sets.{S}
use Rattle.parties.specs.Repetition.{delta_s, delta_c, tape_length}
use Rattle.views.specs.Views.{correction_s, correction_c}
use Rattle.views.proofs.Absorbing.{absorbed-first}
use Rattle.views.proofs.Sums.{summed_start, corrected-secret, corrected-helper}
use Rattle.views.proofs.repetition_first.Goals as goal

pub invariant_of-leaves : goal.invariant_of-leaves
unfolding S
invariant_of-leaves c = record { small = c.requires.0; whole = c.requires.2 }

pub returns : goal.returns
unfolding S
returns c =
    let a = c.args in
    let h = c.requires in
    let all = c.commit_all-next in
    let st = c.sum_tapes in
    let both = c.corrections in
    let t = c.tape_length-n in
    let seeds = pieces (S a.p) a.count a.leaves.now in
    let some : 0 < length seeds = omega (arith, length-pieces (S a.p) a.count a.leaves.now, h.1) in
    let sum =
    summed_start a.of.salt.now a.of.e t.result (tape_length (length a.s.now) (length a.y.now)) seeds _ st.new.sums
    t.ensures.0 (omega (arith, t.ensures.1)) st.auto.sums st.ensures in
    let ds = both.ensures.secret ∙ ap (correction_s (length a.s.now) a.s.now) sum ∙ corrected-secret a.p a.of.salt.now a.of.e seeds a.s.now a.y.now h.5 h.6 in
    let dc = both.ensures.helper ∙ ap (correction_c (length a.s.now) (length a.y.now) a.y.now) sum ∙ corrected-helper a.p a.of.salt.now a.of.e seeds a.s.now a.y.now h.5 h.6 some in
    record {
      hashed = absorbed-first a.p a.of.salt.now a.of.e seeds (delta_s a.p a.of.salt.now a.of.e a.s.now seeds) (delta_c a.p a.of.salt.now a.of.e a.y.now seeds) a.hash all.result _ all.ensures
          (c.absorb_corrections.ensures ∙ ap₂ (λ (x y : List ℕ). absorbed all.result (pack x ++ pack y)) ds dc);
      secret = ds;
      helper = dc;
    }
