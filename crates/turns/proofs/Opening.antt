-- An opened repetition: its party is one of N, and what it gives to the two hashes is what algorithm 13 says.
-- Assumes nothing.
use mathlib.Core.Path.{◌≡◌, sym, ap, ap₂, subst, ◌∙◌}
use mathlib.Core.List.{List, ◌++◌, flatten}
use mathlib.Core.Option.{Option, map}
use Prim.Native.Nat.{ℕ, ◌*◌, ◌^◌, ◌≤◌}
use native.Mathlib.Omega.{arith}
use Rattle.memory.specs.Sections.{pieces}
use Rattle.field.specs.Packing.{pack}
use Rattle.sponge.specs.declared.Sponge.{Sponge}
use Rattle.sponge.specs.Steps.{absorbed}
use Rattle.sets.specs.Sets.{S, N}
use Rattle.sets.specs.declared.Params.{Params}
use Rattle.hashes.specs.Hashes.{commit}
use Rattle.forms.specs.Circuit.{Circuit}
use Rattle.parties.specs.Parties.{Share, parties, corrected}
use Rattle.parties.specs.Repetition.{first, second, raw_share, known_shares, given_at, left_out, all_coms, all_alphas, all_vs}
use Rattle.parties.proofs.LeftOut.{parties-left_out}
use Rattle.views.proofs.Absorbing.{absorbed_known}
use Rattle.group.specs.declared.Rep.{Rep}
use Rattle.group.specs.Shares.{delta_s, delta_c, epsilon, target, alpha_given}
use Rattle.answers.specs.Answers.{shares_of, answered}
use Rattle.biscuit.specs.Keys.{PublicKey}
use Rattle.biscuit.specs.Signature.{Signature, opening_of, extracted}
use Rattle.biscuit.specs.Verify.{f, ε, hidden, coms, shares, αs, all_v}
use Rattle.biscuit.specs.Room.{groups}
use Rattle.reps.specs.Reps.{rep_of}
use Rattle.turns.specs.declared.claim.Claim.{Claim}
use Rattle.turns.specs.Turns.{key_of, signature_of, leaves}
use Rattle.biscuit.specs.Signature.{Opening}
use Rattle.turns.specs.declared.opened.Opened.{Opened}
use Rattle.turns.specs.Turns.{first_of, second_of}
use Rattle.turns.proofs.Reading.{Cut, values_cut}
use Rattle.turns.proofs.Turning.{index, known_seeds}

module _ (o : Opened) where
  abbrev p : Params
  p = o.repetition.claim.p

  abbrev key : PublicKey
  key = key_of o.repetition.claim

  abbrev σ : Signature
  σ = signature_of o.repetition.claim

  abbrev e : ℕ
  e = o.repetition.e

  abbrev opening : Opening
  opening = opening_of p o.repetition.claim.signature.now e

  -- the party is one of N
  pub party_from_one : 1 ≤ o.party
  party_from_one = let i = (index o.repetition).from_one in let h = o.hides in omega arith

  pub party_within : o.party ≤ 2 ^ p.l
  party_within = let i = (index o.repetition).below in let h = o.hides in omega arith

  -- line 32
  pub first-turned : (l : List ℕ) (s r t : Sponge) → l ≡ leaves p key σ e
      → r ≡ absorbed s (flatten (parties (given_at opening.commitment o.party (commit (S p) σ.salt e)) (pieces (S p) (N p) l)))
      → t ≡ absorbed r (pack opening.Δs ++ pack opening.Δc) → t ≡ absorbed s (first_of p key σ e)
  unfolding first_of coms extracted
  first-turned l s r t el er et =
      absorbed_known p σ.salt e o.party (pieces (S p) (N p) l) opening.commitment opening.Δs opening.Δc s r t er et
      ∙ ap (λ (k : List (Option (List ℕ))). absorbed s (first (all_coms p σ.salt e opening.commitment k) opening.Δs opening.Δc))
      (ap₂ (λ (i : ℕ) (y : List ℕ). left_out i (pieces (S p) (N p) y)) o.hides el ∙ sym (known_seeds o.repetition))

  -- lines 12 to 19: the shares, by the leaves
  shares_from : List ℕ → List ℕ → List ℕ → List Share
  shares_from Δs Δc l = parties (λ i seed. corrected Δs Δc i (raw_share p σ.salt e i seed)) (pieces (S p) (N p) l)

  known_shares_lem : shares p key σ e ≡ left_out (hidden p key σ e) (shares_from opening.Δs opening.Δc (leaves p key σ e))
  unfolding shares known_shares shares_from extracted
  known_shares_lem =
      ap (λ (k : List (Option (List ℕ))). parties (λ i. map (λ seed. corrected opening.Δs opening.Δc i (raw_share p σ.salt e i seed))) k) (known_seeds o.repetition)
      ∙ parties-left_out (λ i seed. corrected opening.Δs opening.Δc i (raw_share p σ.salt e i seed)) (hidden p key σ e) (pieces (S p) (N p) (leaves p key σ e))

  -- line 34
  module _ (rep : Rep) (salt l : List ℕ) (same : rep ≡ rep_of p e o.party) (ea : salt ≡ σ.salt) (el : l ≡ leaves p key σ e) where
    parts : Cut p.n p.m o.values.now opening.Δs opening.Δc (ε p key σ e) key.t opening.α
    parts = values_cut o.repetition o.values.now o.holds

    shares_of_lem : shares_of p (rep_of p e o.party) salt l o.values.now ≡ shares_from opening.Δs opening.Δc (leaves p key σ e)
    unfolding shares_of shares_from delta_s delta_c
    shares_of_lem =
        ap₂ (λ (a b : List ℕ). parties (λ i seed. corrected a b i (raw_share p salt e i seed)) (pieces (S p) (16 * groups p) l)) parts.first parts.second
        ∙ ap₂ (λ (a : List ℕ) (n : ℕ). parties (λ i seed. corrected opening.Δs opening.Δc i (raw_share p a e i seed)) (pieces (S p) n l)) ea (sym o.repetition.claim.fits.parties)
        ∙ ap (λ (y : List ℕ). parties (λ i seed. corrected opening.Δs opening.Δc i (raw_share p σ.salt e i seed)) (pieces (S p) (N p) y)) el

    known_by_rep : left_out o.party (shares_of p (rep_of p e o.party) salt l o.values.now) ≡ shares p key σ e
    known_by_rep = ap₂ left_out o.hides shares_of_lem ∙ sym known_shares_lem

    pub answered_as : answered (f p key) rep o.values.now (shares_of p rep salt l o.values.now) ≡ second_of p key σ e
    unfolding answered second_of αs all_v epsilon target alpha_given extracted
    answered_as =
        let g : Circuit = f p key in
        let k = left_out o.party (shares_of p (rep_of p e o.party) salt l o.values.now) in
        ap (λ (q : Rep). answered g q o.values.now (shares_of p q salt l o.values.now)) same
        ∙ ap₂ (λ (c a : List ℕ). second (all_alphas g c a k) (all_vs g (target (rep_of p e o.party) o.values.now) c a k)) parts.third parts.fifth
        ∙ ap₂ (λ (t : List ℕ) (k : List (Option Share)). second (all_alphas g (ε p key σ e) opening.α k) (all_vs g t (ε p key σ e) opening.α k)) parts.fourth known_by_rep

-- the same under a claim that is equal
pub answered_by : (o : Opened) (c : Claim) → o.repetition.claim ≡ c → (rep : Rep) (salt l : List ℕ) → rep ≡ rep_of c.p o.repetition.e o.party → salt ≡ (signature_of c).salt
    → l ≡ leaves c.p (key_of c) (signature_of c) o.repetition.e
    → answered (f c.p (key_of c)) rep o.values.now (shares_of c.p rep salt l o.values.now) ≡ second_of c.p (key_of c) (signature_of c) o.repetition.e
answered_by o c same =
    subst
    (λ (d : Claim). (rep : Rep) (salt l : List ℕ) → rep ≡ rep_of d.p o.repetition.e o.party → salt ≡ (signature_of d).salt → l ≡ leaves d.p (key_of d) (signature_of d) o.repetition.e
    → answered (f d.p (key_of d)) rep o.values.now (shares_of d.p rep salt l o.values.now) ≡ second_of d.p (key_of d) (signature_of d) o.repetition.e)
    same (answered_as o)
