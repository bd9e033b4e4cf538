-- One repetition e of signing and of verifying: what the seeds of the parties give and what the two hashes cover (algorithms 12 and 13 of the submission).
-- Signing has the seeds of all N parties; verifying has `none` for the hidden one, the ? of algorithm 5. Assumes nothing.
use Rattle.std.specs.Prelude.{cond, ℕ, ◌+◌, eqb}
use mathlib.Core.List.{List, [], ◌∷◌, ◌++◌, flatten}
use Rattle.std.proofs.Math.Option.{Option, none, some, map}
use Rattle.field.specs.Packing.{pack, packed_length}
use Rattle.field.specs.Vectors.{◌⊕◌, ◌⊙◌, total}
use Rattle.sets.specs.Sets.{S}
use Rattle.sets.specs.declared.Params.{Params}
use Rattle.hashes.specs.Hashes.{commit, tape_fields}
use Rattle.tree.specs.Tree.{filled}
use Rattle.forms.specs.Sampling.{sample_elements, expand_elements, expand_index}
use Rattle.forms.specs.Circuit.{Circuit}
use Rattle.parties.specs.Parties.{Share, parties, secret, mask, helper, corrected, alpha_of, v_of}

-- algorithm 12, line 24: the challenge of repetition e, from the first hash
unfoldable pub challenge : Params → List ℕ → ℕ → List ℕ
challenge P h₁ e = expand_elements h₁ P.m e

-- algorithm 12, line 36: the hidden party of repetition e, from the second hash
unfoldable pub hidden_party : Params → List ℕ → ℕ → ℕ
hidden_party P h₂ e = expand_index h₂ P.l e

-- algorithm 12, lines 10 to 12: the bytes of a tape that a party takes, for n elements, then m, then m, each from a whole byte on
unfoldable pub tape_length : ℕ → ℕ → ℕ
tape_length n m = packed_length n + packed_length m + packed_length m

-- ---- what the two hashes cover for one repetition

-- algorithm 12, line 22: all commitments, then Δs packed, then Δc packed
unfoldable pub first : List (List ℕ) → List ℕ → List ℕ → List ℕ
first coms Δs Δc = flatten coms ++ (pack Δs ++ pack Δc)

-- algorithm 12, line 34: all α packed together, then all v packed together
unfoldable pub second : List (List ℕ) → List (List ℕ) → List ℕ
second αs vs = pack (flatten αs) ++ pack (flatten vs)

-- ---- the repetition e under a salt

module _ (P : Params) (salt : List ℕ) (e : ℕ) where
  -- algorithm 12, line 9: the commitment of party i
  unfoldable pub com_of : ℕ → List ℕ → List ℕ
  com_of i seed = commit (S P) salt e i seed

  -- algorithm 12, lines 9 to 12: s, a and c of party i, sampled from its tape in this order
  unfoldable pub raw_share : ℕ → List ℕ → Share
  raw_share i seed = record {
    s = sample_elements (tape_fields salt e i seed) 0 P.n;
    a = sample_elements (tape_fields salt e i seed) (packed_length P.n) P.m;
    c = sample_elements (tape_fields salt e i seed) (packed_length P.n + packed_length P.m) P.m;
  }

  -- ---- signing: from the seeds of all parties

  unfoldable pub coms : List (List ℕ) → List (List ℕ)
  coms seeds = parties com_of seeds

  unfoldable pub raws : List (List ℕ) → List Share
  raws seeds = parties raw_share seeds

  -- algorithm 12, line 14: Δs of the secret s
  unfoldable pub delta_s : List ℕ → List (List ℕ) → List ℕ
  delta_s s seeds = s ⊕ secret (raws seeds)

  -- algorithm 12, line 15: Δc, where y holds the values of the second form at the secret
  unfoldable pub delta_c : List ℕ → List (List ℕ) → List ℕ
  delta_c y seeds = y ⊙ mask (raws seeds) ⊕ helper (raws seeds)

  -- algorithm 12, lines 16 and 17: the shares that the parties hold
  unfoldable pub shares : List ℕ → List ℕ → List (List ℕ) → List Share
  shares s y seeds = parties (corrected (delta_s s seeds) (delta_c y seeds)) (raws seeds)

  -- ---- verifying: from the seeds of all parties but the hidden one

  -- algorithm 13, lines 12 to 19: the shares of the parties that are known, with the corrections of the signature
  unfoldable pub known_shares : List ℕ → List ℕ → List (Option (List ℕ)) → List (Option Share)
  known_shares Δs Δc known = parties (λ i. map (λ seed. corrected Δs Δc i (raw_share i seed))) known

  -- algorithm 13, line 12: the commitments of the parties that are known
  unfoldable pub known_coms : List (Option (List ℕ)) → List (Option (List ℕ))
  known_coms known = parties (λ i. map (com_of i)) known

-- algorithm 13, lines 12, 24 and 30, as one rule: the party's own entry, and at party h the given one; nobody's is given where h is 0
abbrev pub given_at : {A : Type 0} → List ℕ → ℕ → (ℕ → A → List ℕ) → ℕ → A → List ℕ
given_at d h g i x = cond (eqb i h) d (g i x)

-- every party's entry but that of party h; nobody is left out where h is 0
unfoldable pub left_out : {A : Type 0} → ℕ → List A → List (Option A)
left_out h l = parties (λ i x. cond (eqb i h) none (some x)) l

-- the entries that are there, without the missing
unfoldable pub present : {A : Type 0} → List (Option A) → List A
present [] = []
present (none ∷ l) = present l
present (some x ∷ l) = x ∷ present l

-- algorithm 13, lines 12 and 32: all commitments; the hidden party's is the signature's
unfoldable pub all_coms : Params → List ℕ → ℕ → List ℕ → List (Option (List ℕ)) → List (List ℕ)
all_coms P salt e com' known = filled com' (known_coms P salt e known)

-- algorithm 13, lines 22 to 25: all α; the hidden party's is the signature's
unfoldable pub all_alphas : Circuit → List ℕ → List ℕ → List (Option Share) → List (List ℕ)
all_alphas f ε α known = filled α (parties (λ i. map (alpha_of f ε i)) known)

-- algorithm 13, lines 26 to 28: v of the parties that are known, with the sum of all α
unfoldable pub known_vs : Circuit → List ℕ → List ℕ → List ℕ → List (Option Share) → List (Option (List ℕ))
known_vs f t ε α known = parties (λ i. map (v_of f t ε (total (all_alphas f ε α known)) i)) known

-- algorithm 13, line 30: all v; the hidden party's is minus the sum of the others
unfoldable pub all_vs : Circuit → List ℕ → List ℕ → List ℕ → List (Option Share) → List (List ℕ)
all_vs f t ε α known = filled (total (present (known_vs f t ε α known))) (known_vs f t ε α known)
