-- `turns::first::absorb_commitments` meets its contract: the parts that are lent are the salt, the leaves and the hidden party's commitment.
-- Assumes nothing.
use mathlib.Core.Path.{ap, ap₂, sym, ◌∙◌}
use mathlib.Core.List.{List, flatten}
use Prim.Native.Nat.{ℕ, ◌*◌}
use native.Mathlib.Omega.{arith}
use lib.ListN.{length}
use lib.Pow.{pow_pos}
use Rattle.memory.specs.Sections.{pieces}
use Rattle.sponge.specs.Steps.{absorbed}
use Rattle.sets.specs.Sets.{S, N}
use Rattle.hashes.specs.Hashes.{commit}
use Rattle.parties.specs.Parties.{parties}
use Rattle.parties.specs.Repetition.{given_at}
use Rattle.biscuit.specs.Signature.{opening_of}
use Rattle.views.specs.Views.{given_in}
use Rattle.turns.specs.Turns.{signature_of}
use Rattle.turns.proofs.Sizes.{leaves_size, length_leaves_part}
use Rattle.turns.proofs.first.absorb_commitments.Goals as goal

pub invariant_of-all : goal.invariant_of-all
unfolding S N
invariant_of-all c =
    let p = c.args.opened.repetition.claim.p in
    let fit = c.args.opened.repetition.claim.fits in record {
      small = fit.seed;
      whole = ap length c.leaves_in.ensures ∙ length_leaves_part p c.args.work.now c.requires ∙ leaves_size p fit ∙ sym (ap (λ (i : ℕ). i * S p) c.count.ensures);
    }

pub commit_all-requires : goal.commit_all-requires
unfolding N
commit_all-requires c = let some = pow_pos c.args.opened.repetition.claim.p.l in let n = c.count.ensures in omega arith

pub returns : goal.returns
unfolding S given_in
returns c =
    let o = c.args.opened in
    let r = o.repetition in
    let p = r.claim.p in
    c.commit_all.ensures
    ∙ ap₂ (λ (t : List ℕ) (i : ℕ). absorbed c.args.hash (flatten (parties (given_at c.commitment.result.now o.party (commit (S p) t i)) (pieces (S p) c.count.result c.leaves_in.result.now)))) c.salted.ensures.salt c.salted.ensures.number
    ∙ ap (λ (g : List ℕ). absorbed c.args.hash (flatten (parties (given_at g o.party (commit (S p) (signature_of r.claim).salt r.e)) (pieces (S p) c.count.result c.leaves_in.result.now)))) c.commitment.ensures
    ∙ ap₂ (λ (n : ℕ) (l : List ℕ). absorbed c.args.hash (flatten (parties (given_at (opening_of p r.claim.signature.now r.e).commitment o.party (commit (S p) (signature_of r.claim).salt r.e)) (pieces (S p) n l)))) c.count.ensures c.leaves_in.ensures
