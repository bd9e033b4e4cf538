-- One repetition's answers, for signing and verifying alike: what the second hash absorbs (algorithm 12, lines 18 to 34, and algorithm 13, lines 20 to 30 and 34).
-- Party `hidden` is left out, its α given and its v the sum of the others; 0 leaves nobody out. Assumes nothing.
use Rattle.std.specs.Prelude.{List, ℕ, ◌*◌}
use Rattle.memory.specs.Sections.{pieces}
use Rattle.sets.specs.declared.Params.{Params}
use Rattle.forms.specs.Circuit.{Circuit}
use Rattle.parties.specs.Parties.{Share, parties, corrected}
use Rattle.parties.specs.Repetition.{raw_share, left_out, all_alphas, all_vs, second}
use Rattle.group.specs.declared.Rep.{Rep}
use Rattle.group.specs.Shares.{delta_s, delta_c, epsilon, target, alpha_given}

-- the shares that the leaves give, with the corrections at party 1
unfoldable pub shares_of : Params → Rep → List ℕ → List ℕ → List ℕ → List Share
shares_of P rep salt leaves v = parties (λ i seed. corrected (delta_s rep v) (delta_c rep v) i (raw_share P salt rep.e i seed)) (pieces rep.s (16 * rep.groups) leaves)

-- all α packed together, then all v packed together
unfoldable pub answered : Circuit → Rep → List ℕ → List Share → List ℕ
answered f rep v ps =
    second (all_alphas f (epsilon rep v) (alpha_given rep v) (left_out rep.hidden ps)) (all_vs f (target rep v) (epsilon rep v) (alpha_given rep v) (left_out rep.hidden ps))
